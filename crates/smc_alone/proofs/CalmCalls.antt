-- Each call of a stretch that is alone ends calmly.
use Rattle.std.proofs.Common.{◌≡◌, ℕ, false, Some, List, ◌∷◌, ◌++◌, refl, sym, ap, ◌∙◌, subst}
use Rattle.smc_shape.specs.Layout.{Layout, IsShape}
use Rattle.smc_core.specs.declared.call.Call.{Call}
use Rattle.smc_core.specs.declared.call.Call.TheVariants as call
use Rattle.smc_core.specs.declared.call.Choice.{Choice}
use Rattle.smc_core.specs.declared.done.Done.{Done}
use Rattle.smc_core.specs.declared.done.Done.TheVariants as done
use Rattle.smc_core.specs.declared.local.Opening.{Opening}
use Rattle.smc_core.specs.declared.local.Stand.{Stand}
use Rattle.smc_core.specs.declared.phase.Phase.{Phase}
use Rattle.smc_core.specs.Local.{fresh}
use Rattle.smc_core.specs.Machine.{Machine, Leads, started}
use Rattle.smc_rules.proofs.CarryLaws.{some-same}
use Rattle.smc_aside.specs.Aside.{IsUndisturbed, OthersAside}
use Rattle.smc_aside.specs.Makes.{Makes}
use Rattle.smc_aside.proofs.AsideLaws.{others-aside}
use Rattle.smc_aside.proofs.Moments.{IsMoment, Then, calls}
use Rattle.smc_aside.proofs.Scenes.{Scene}
use Rattle.smc_model.specs.World.{World}
use Rattle.smc_rules.specs.History.{History, history_state, history_world}
use Rattle.smc_rules.proofs.HistoryLaws.{HoldsOf}
use Rattle.smc_packing.proofs.Known.{Known, known-kept, known-then}
use Rattle.smc_refine.specs.Alone.{owns_after}
use Rattle.smc_refine.proofs.OwnAlong.{Own, carries, own-after}
use Rattle.smc_refine.proofs.OwnSteps.{is_some, owns_at}
use Rattle.smc_trace.specs.Trace.{CallEnd}
use Rattle.smc_calls.specs.Calls.{HasMade, MakesEnds}
use Rattle.smc_calls.specs.Ends.{EndsSo}
use Rattle.smc_calls.specs.Laws.{Between}
use Rattle.smc_calls.proofs.Along.{Halves, halves, made-first, makes-leads, replicate-get, was-there}
use Rattle.smc_calls.proofs.Undisturbed.{calls-make, undisturbed-parts}
use Rattle.smc_alone.specs.AloneCalls.{MadeAlone}
use Rattle.smc_alone.specs.Laws.{AloneIsCalm, DidAlone}
use Rattle.smc_alone.proofs.Calls.{did-alone, up_to}
use Rattle.smc_alone.specs.Calm.{IsCalm, has_round}
use Rattle.smc_alone.proofs.CalmSteps.{Calmly, Freely, calm-carries, free-carries}

-- a pass that is idle has a round if its answers say so
owns-there : (shape : Layout) (start : List ℕ) (pass : ℕ) (steps : List (ℕ × Choice)) (m : Machine) (made : List CallEnd) → Leads shape (started shape start) steps m → (has : HasMade pass m made)
    → is_some has.local.stand.round ≡ has_round made
owns-there shape start pass steps m made leads has =
    let (k, there) = was-there shape pass (started shape start) steps m has.local leads has.here in
    let (l0, at, own0) = carries shape pass Own (λ k choice o told w p is. own-after shape pass k choice o told w p is) (started shape start) steps m (fresh shape) leads
    (there ∙ ap Some (sym (replicate-get shape.passes pass (fresh shape) k there))) (record { tied = (tt, refl); round = refl; within = tt }) in
    let own : Own has.local = subst Own (some-same l0 has.local (sym at ∙ has.here)) own0 in
    own.round ∙ (ap (λ (k : Phase). owns_at k (owns_after false has.local.answers)) has.idle ∙ ap (owns_after false) has.trace.1)

module _ (shape : Layout) (opening : Opening) (first : World) (pass : ℕ) (before calls_made : List CallEnd) (end : CallEnd) (later : List CallEnd) (last : Machine) (past : History shape opening first last)
    (valid : IsShape shape) (did : DidAlone last.locals pass before (calls_made ++ end ∷ later)) where
  -- at the moment of the call
  calm-at : (m next : Machine) (earlier : List (ℕ × Choice)) → Leads shape (started shape past.start) earlier m → OthersAside pass m.locals → HasMade pass m (before ++ calls_made)
      → (c : Call) → EndsSo end.done end.event c → Makes shape pass c end.done m next → IsCalm pass (has_round (before ++ calls_made)) end.done
  calm-at m next earlier leads aside has c is makes = go end.done is makes
    where
      scene : Scene (Known opening shape) shape m
      scene =
          let here : History shape opening first m = up_to shape opening first last past earlier m leads in
          let k : HoldsOf shape opening (Known opening shape) m (history_world here) = known-then opening shape valid first m here in
          record { state = history_state here; backs = k.backs; rule = k.rule }

      at : IsMoment (Known opening shape) shape past.start pass m
      at = record {
        reached = (earlier, leads);
        aside = aside;
        scene = scene;
        idle = ap (λ (k : Stand). k.phase) (scene.backs.same pass has.local has.here) ∙ has.idle;
      }

      owned : is_some (scene.state.stands pass).round ≡ has_round (before ++ calls_made)
      owned = ap (λ (k : Stand). is_some k.round) (scene.backs.same pass has.local has.here) ∙ owns-there shape past.start pass earlier m (before ++ calls_made) leads has

      go : (answer : Done) → EndsSo answer end.event c → Makes shape pass c answer m next → IsCalm pass (has_round (before ++ calls_made)) answer
      go (done.NotYet other seen) is makes =
          let t : Then (Known opening shape) shape past.start pass Calmly next (done.NotYet other seen) =
          calls (Known opening shape) shape valid (known-kept opening shape valid) past.start pass Calmly call.Advance (calm-carries opening shape pass) m next (done.NotYet other seen) at
          (subst (λ (k : Call). Makes shape pass k (done.NotYet other seen) m next) is.1 makes) tt in absurd t.says
      go (done.Busy bound other coll) is makes =
          let owns = has_round (before ++ calls_made) in
          let t : Then (Known opening shape) shape past.start pass (Freely pass owns) next (done.Busy bound other coll) =
          calls (Known opening shape) shape valid (known-kept opening shape valid) past.start pass (Freely pass owns) (call.Begin is.0) (free-carries shape pass owns opening is.0) m next (done.Busy bound other coll) at
          (subst (λ (k : Call). Makes shape pass k (done.Busy bound other coll) m next) is.2 makes) owned in t.says
      go _ is makes = tt

  calm-halved : (b : Between shape past.start pass before (calls_made ++ end ∷ later) past.steps last) → OthersAside pass b.m.locals → IsUndisturbed pass b.during
      → Halves shape past.start pass before calls_made (end ∷ later) past.steps last b → IsCalm pass (has_round (before ++ calls_made)) end.done
  calm-halved b aside undisturbed h =
      let calm : IsUndisturbed pass h.first.during × IsUndisturbed pass h.second.during = undisturbed-parts pass h.first.during h.second.during (subst (IsUndisturbed pass) h.splits undisturbed) in
      let two : MakesEnds shape pass (end ∷ later) h.second.m h.second.next = calls-make shape pass (before ++ calls_made) (end ∷ later) h.second.m h.second.during h.second.next h.second.made calm.1 in
      let still : OthersAside pass h.first.next.locals = others-aside shape pass h.first.m h.first.next h.first.during (subst (λ (k : Machine). OthersAside pass k.locals) (sym h.from) aside) calm.0
      (makes-leads shape pass before calls_made h.first.m h.first.during h.first.next h.first.made) in
      calm-at h.second.m two.1 h.second.earlier h.second.leads_here (subst (λ (k : Machine). OthersAside pass k.locals) (sym h.middle) still)
      (made-first shape pass (before ++ calls_made) (end ∷ later) h.second.m h.second.during h.second.next h.second.made) two.0 two.2 two.3

pub alone-calm : AloneIsCalm
alone-calm shape opening first pass before made end later last h valid did =
    let alone : MadeAlone shape h.start pass before (made ++ end ∷ later) h.steps last = did-alone shape opening first pass before (made ++ end ∷ later) last h valid did in
    calm-halved shape opening first pass before made end later last h valid did alone.between alone.aside alone.undisturbed
    (halves shape h.start pass before made (end ∷ later) h.steps last alone.between)

-- An add that is refused behind such calls, alone.
use Rattle.std.proofs.Common.{◌≡◌, ℕ, ◌+◌, ◌≤◌, ◌<◌, Bool, List, [], ◌++◌, length, refl, sym, subst, arith}
use Rattle.std.proofs.lemmas.Option.{slice_get_within}
use Rattle.smc_shape.specs.Layout.{Layout, IsShape}
use Rattle.smc_model.specs.declared.event.Cause.{Cause}
use Rattle.smc_core.specs.declared.call.Call.TheVariants as call
use Rattle.smc_core.specs.declared.done.Done.TheVariants as done
use Rattle.smc_core.specs.declared.local.Opening.{Opening}
use Rattle.smc_core.specs.declared.section.Section.{Section}
use Rattle.smc_core.specs.declared.section.Section.TheVariants.{Outside, Loaded, Announced, Again, Lasting, Inside}
use Rattle.smc_core.specs.Machine.{Machine, Reach}
use Rattle.smc_rules.specs.Reads.{epoch_of_region}
use Rattle.smc_rules.specs.State as S
use Rattle.smc_aside.specs.Aside.{IsAlone, IsUndisturbed, OthersAside}
use Rattle.smc_aside.proofs.AsideLaws.{others-aside}
use Rattle.smc_aside.proofs.Moments.{IsFree, Then, alone-free, calls}
use Rattle.smc_aside.proofs.Scenes.{Scene}
use Rattle.smc_model.specs.World.{World}
use Rattle.smc_rules.specs.History.{History, history_state, history_world}
use Rattle.smc_rules.proofs.HistoryLaws.{HoldsOf}
use Rattle.smc_inv_use.proofs.Used.{Used, used-kept, used-then}
use Rattle.smc_laws.proofs.Always.{all_rules}
use Rattle.smc_full.specs.Full.{EachSlotHolds, NoneSpent}
use Rattle.smc_full.specs.Laws.{Holds}
use Rattle.smc_full.proofs.Fullness.{refused-full}
use Rattle.smc_full.proofs.SameState.{same-holds, same-spent}
use Rattle.smc_full.proofs.Turns as turns
use Rattle.smc_full.proofs.Turns.{IsIn, Tries}
use Rattle.smc_trace.specs.Named.{refuses}
use Rattle.smc_trace.specs.Trace.{CallEnd}
use Rattle.smc_calls.specs.Calls.{MakesEnds}
use Rattle.smc_calls.specs.Laws.{Between}
use Rattle.smc_calls.proofs.Along.{Halves, halves, makes-leads}
use Rattle.smc_calls.proofs.Undisturbed.{calls-make, undisturbed-parts}
use Rattle.smc_alone.specs.AloneCalls.{MadeAlone}
use Rattle.smc_alone.specs.Laws.{DidAlone, RefusedIsFull, RefusedWhenFull}
use Rattle.smc_alone.proofs.Calls.{Refusal, did-alone, refusal, up_to}
use Rattle.smc_alone.specs.Ripening.{LetsRipen, turns_in}
use Rattle.smc_alone.proofs.TameStretches.{Stood, TameAt, all-calls, free-at}
use Rattle.smc_alone.proofs.TameSteps.{AddOut, out-carries}

module _ (shape : Layout) (opening : Opening) (world : World) (pass coll : ℕ) (before made : List CallEnd) (cause : Cause) (last : Machine) (past : History shape opening world last)
    (valid : IsShape shape) (did : DidAlone last.locals pass before (made ++ refuses coll cause)) (none : LetsRipen made) where
  abbrev FullAt : Machine → Type 0
  FullAt m = Holds shape opening world m (λ s. NoneSpent shape s coll → EachSlotHolds shape s coll)

  -- the add is tried in a section
  tried-at : (within : pass < shape.passes) (e0 least : ℕ) (m end : Machine) → e0 + 3 ≤ least → TameAt opening shape valid past.start pass within least (e0 + 1) m
      → MakesEnds shape pass (refuses coll cause) m end → FullAt m
  tried-at within e0 least m end high at makes =
      let r : Refusal shape pass coll cause [] m end = refusal shape pass coll cause [] m end makes in
      by r (s.stands pass).section refl at.stood
    where
      s : S.State
      s = at.moment.scene.state

      in_it : (r : Refusal shape pass coll cause [] m end) (own : ℕ) (calm : Bool) → (s.stands pass).section ≡ Inside own calm → least ≤ own → FullAt m
      in_it r own calm inside le h unspent =
          let i : IsIn opening shape valid past.start pass m = record { moment = at.moment; epoch = own; calm = calm; inside = inside; no_round = at.no_round } in
          let t : Tries opening shape valid past.start pass coll m r.made.next (done.Full cause) i =
          turns.tries opening shape valid past.start pass coll r.from r.words m r.made.next (done.Full cause) i r.made.makes in
          let its : HoldsOf shape opening (Used opening shape) m (history_world h) = used-then opening shape valid world m h in
          same-holds shape m s (history_state h) at.moment.scene.backs its.backs coll opening (all_rules opening shape (history_state h) its.rule.everything).slots
          (refused-full opening shape valid s at.moment.scene.rule (turns.at_rest opening shape valid past.start pass m i) coll own
          (λ slot stamp is. let old = at.old.slots coll slot stamp is in omega (arith, old, high, le))
          (λ entry x stamp is. let old = at.old.entries coll entry x stamp is in omega (arith, old, high, le))
          (same-spent shape m s (history_state h) at.moment.scene.backs its.backs coll unspent) (done.Full cause) t.now.moment.scene.state.memory t.told tt)

      out : (r : Refusal shape pass coll cause [] m end) → (s.stands pass).section ≡ Outside → FullAt m
      out r outside =
          let t : Then (Used opening shape) shape past.start pass AddOut r.made.next (done.Full cause) =
          calls (Used opening shape) shape valid (used-kept opening shape valid) past.start pass AddOut (call.Add coll r.from r.words) (out-carries opening shape pass coll r.from r.words)
          m r.made.next (done.Full cause) at.moment r.made.makes (refl, refl, outside) in
          absurd (let no = t.says.1 in cc)

      by : (r : Refusal shape pass coll cause [] m end) (section : Section) → (s.stands pass).section ≡ section
          → Stood opening shape valid past.start pass within least s.memory section → FullAt m
      by r Outside is stood = out r is
      by r (Inside own calm) is stood = in_it r own calm is stood
      by r (Loaded seen) is stood = absurd stood
      by r (Announced seen) is stood = absurd stood
      by r (Again seen own) is stood = absurd stood
      by r (Lasting own) is stood = absurd stood

  -- from where the pass is alone
  from-alone : (m again end : Machine) → IsAlone pass m → Reach shape past.start m.row m.locals → History shape opening world m → MakesEnds shape pass made m again
      → MakesEnds shape pass (refuses coll cause) again end → FullAt again
  from-alone m again end alone reached h one two =
      let u : HoldsOf shape opening (Used opening shape) m (history_world h) = used-then opening shape valid world m h in
      let scene : Scene (Used opening shape) shape m = record { state = history_state h; backs = u.backs; rule = u.rule } in
      let count : length m.locals ≡ shape.passes = scene.backs.count in
      let fits = slice_get_within m.locals pass alone.idle.local alone.idle.here in
      let within : pass < shape.passes = omega (arith, count, fits) in
      let free : IsFree (Used opening shape) shape past.start pass m = alone-free shape past.start pass m reached alone scene in
      let e0 : ℕ = epoch_of_region free.moment.scene.state.memory in
      let turned = none.turns in
      tried-at within e0 (e0 + turns_in made) again end (omega (arith, turned))
      (all-calls opening shape valid past.start pass within e0 (e0 + 1) made m again none.tame (free-at opening shape valid past.start pass within m free) one) two

  halved : (b : Between shape past.start pass before (made ++ refuses coll cause) past.steps last) → OthersAside pass b.m.locals → IsUndisturbed pass b.during → IsAlone pass b.m
      → Halves shape past.start pass before made (refuses coll cause) past.steps last b
      → RefusedWhenFull shape opening world pass coll (before ++ made) (refuses coll cause) last past
  halved b aside undisturbed alone h =
      let calm : IsUndisturbed pass h.first.during × IsUndisturbed pass h.second.during = undisturbed-parts pass h.first.during h.second.during (subst (IsUndisturbed pass) h.splits undisturbed) in
      let one : MakesEnds shape pass made h.first.m h.first.next = calls-make shape pass before made h.first.m h.first.during h.first.next h.first.made calm.0 in
      let two : MakesEnds shape pass (refuses coll cause) h.second.m h.second.next = calls-make shape pass (before ++ made) (refuses coll cause) h.second.m h.second.during h.second.next h.second.made calm.1 in
      let still : OthersAside pass h.first.next.locals = others-aside shape pass h.first.m h.first.next h.first.during (subst (λ (k : Machine). OthersAside pass k.locals) (sym h.from) aside) calm.0
      (makes-leads shape pass before made h.first.m h.first.during h.first.next h.first.made) in
      record {
        between = h.second;
        aside = subst (λ (k : Machine). OthersAside pass k.locals) (sym h.middle) still;
        undisturbed = calm.1;
        full = from-alone h.first.m h.second.m h.second.next (subst (IsAlone pass) (sym h.from) alone) (h.first.earlier, h.first.leads_here)
            (up_to shape opening world last past h.first.earlier h.first.m h.first.leads_here)
            (subst (λ (k : Machine). MakesEnds shape pass made h.first.m k) (sym h.middle) one) two;
      }

pub refusal-full : RefusedIsFull
refusal-full shape opening first pass coll before tried cause last h valid did none =
    let alone : MadeAlone shape h.start pass before (tried ++ refuses coll cause) h.steps last = did-alone shape opening first pass before (tried ++ refuses coll cause) last h valid did in
    halved shape opening first pass coll before tried cause last h valid did none alone.between alone.aside alone.undisturbed (alone.alone did.home)
    (halves shape h.start pass before tried (refuses coll cause) h.steps last alone.between)

-- A pass that drove or surveyed, alone.
use Rattle.std.proofs.Common.{◌≡◌, ℕ, inl, inr, List, [], ◌++◌, flat_map, sym, ap, ◌∙◌, subst}
use Rattle.smc_shape.specs.Layout.{Layout}
use Rattle.smc_model.specs.World.{count_of}
use Rattle.smc_core.specs.declared.call.Call.TheVariants as call
use Rattle.smc_core.specs.declared.done.Done.{Done}
use Rattle.smc_core.specs.declared.done.Done.TheVariants as done
use Rattle.smc_core.specs.Count.{blocks_for}
use Rattle.smc_core.specs.Machine.{Machine}
use Rattle.smc_rules.specs.History.{history_state}
use Rattle.smc_aside.specs.Makes.{Makes}
use Rattle.smc_census.specs.Census.{occupied}
use Rattle.smc_packing.specs.Drive as D
use Rattle.smc_packing.specs.Packing.{HasState, SurveysTell, SurveysTellPacked}
use Rattle.smc_trace.specs.Named.{advances, enters, finishes, leaves, rounds, surveys}
use Rattle.smc_trace.specs.Trace.{CallEnd}
use Rattle.smc_calls.specs.Calls.{MakesEnds}
use Rattle.smc_calls.specs.Laws.{Between}
use Rattle.smc_calls.proofs.Along.{last-moment}
use Rattle.smc_alone.specs.AloneCalls.{MadeAlone}
use Rattle.smc_alone.specs.Laws.{SurveyBehindDrive, SurveyIsExact}
use Rattle.smc_alone.specs.Drives.{Drove, FoundNothing, Moved, Surveyed, Waited}
use Rattle.smc_alone.proofs.Calls.{AllAdvances, EndsParts, One, did-alone, up_to, ends-parts, enter, leave, advance-all, nothing, round, finish, survey}

module _ (shape : Layout) (pass coll : ℕ) where
  waits : (answers : List Done) → Waited answers → (m next : Machine) → D.Advances shape pass answers m next → D.Waits shape pass m next
  waits answers w m next makes = record { answers = answers; advances = makes; first = w.first; latest = w.latest; begins = w.begins; ends = w.ends; two_on = w.two_on }

  found : (calls : List CallEnd) → FoundNothing coll calls → (m last : Machine) → MakesEnds shape pass calls m last → D.FindsNothing shape pass coll m last
  found calls f m last makes =
      let all : MakesEnds shape pass (flat_map advances f.answers ++ (enters f.epoch ++ (rounds (done.Nothing coll) ++ leaves))) m last = subst (λ (k : List CallEnd). MakesEnds shape pass k m last) f.made makes in
      let a : AllAdvances shape pass f.answers (enters f.epoch ++ (rounds (done.Nothing coll) ++ leaves)) m last = advance-all shape pass f.answers (enters f.epoch ++ (rounds (done.Nothing coll) ++ leaves)) m last f.waited.are all in
      let b : One shape pass call.Enter (done.At f.epoch) (rounds (done.Nothing coll) ++ leaves) a.next last = enter shape pass f.epoch (rounds (done.Nothing coll) ++ leaves) a.next last a.rest in
      let c : One shape pass (call.Begin coll) (done.Nothing coll) leaves b.next last = nothing shape pass coll leaves b.next last b.rest in
      let d : One shape pass call.Leave done.Out [] c.next last = leave shape pass [] c.next last c.rest in
      let ended : d.next ≡ last = d.rest in record {
        begun = c.next;
        begins = record {
          waited = a.next;
          inside = b.next;
          epoch = f.epoch;
          waits = waits f.answers f.waited m a.next a.makes;
          enters = b.makes;
          begins = c.makes;
        };
        leaves = subst (λ (k : Machine). Makes shape pass call.Leave done.Out c.next k) ended d.makes;
      }

  moved : (calls : List CallEnd) → Moved coll calls → (m last : Machine) → MakesEnds shape pass calls m last → D.Moves shape pass coll m last
  moved calls f m last makes =
      let rest7 : List CallEnd = finishes (done.Finished f.moved f.abandoned f.gone) ++ leaves in
      let rest6 : List CallEnd = enters f.later_epoch ++ rest7 in
      let rest5 : List CallEnd = flat_map advances f.later_answers ++ rest6 in
      let rest4 : List CallEnd = leaves ++ rest5 in
      let rest3 : List CallEnd = rounds (done.Round coll f.bound f.frozen) ++ rest4 in
      let rest2 : List CallEnd = enters f.epoch ++ rest3 in
      let all : MakesEnds shape pass (flat_map advances f.answers ++ rest2) m last = subst (λ (k : List CallEnd). MakesEnds shape pass k m last) f.made makes in
      let a : AllAdvances shape pass f.answers rest2 m last = advance-all shape pass f.answers rest2 m last f.waited.are all in
      let b : One shape pass call.Enter (done.At f.epoch) rest3 a.next last = enter shape pass f.epoch rest3 a.next last a.rest in
      let c : One shape pass (call.Begin coll) (done.Round coll f.bound f.frozen) rest4 b.next last = round shape pass coll f.bound f.frozen rest4 b.next last b.rest in
      let d : One shape pass call.Leave done.Out rest5 c.next last = leave shape pass rest5 c.next last c.rest in
      let e : AllAdvances shape pass f.later_answers rest6 d.next last = advance-all shape pass f.later_answers rest6 d.next last f.are d.rest in
      let g : One shape pass call.Enter (done.At f.later_epoch) rest7 e.next last = enter shape pass f.later_epoch rest7 e.next last e.rest in
      let h : One shape pass call.Finish (done.Finished f.moved f.abandoned f.gone) leaves g.next last = finish shape pass f.moved f.abandoned f.gone leaves g.next last g.rest in
      let i : One shape pass call.Leave done.Out [] h.next last = leave shape pass [] h.next last h.rest in
      let ended : i.next ≡ last = i.rest in record {
        begun = c.next;
        left = d.next;
        waited = e.next;
        inside = g.next;
        finished = h.next;
        bound = f.bound;
        frozen = f.frozen;
        answers = f.later_answers;
        epoch = f.later_epoch;
        moved = f.moved;
        abandoned = f.abandoned;
        gone = f.gone;
        begins = record {
          waited = a.next;
          inside = b.next;
          epoch = f.epoch;
          waits = waits f.answers f.waited m a.next a.makes;
          enters = b.makes;
          begins = c.makes;
        };
        leaves = d.makes;
        advances = e.makes;
        enters = g.makes;
        finishes = h.makes;
        leaves_again = subst (λ (k : Machine). Makes shape pass call.Leave done.Out h.next k) ended i.makes;
      }

  drove : (calls : List CallEnd) → Drove coll calls → (m last : Machine) → MakesEnds shape pass calls m last → D.Drives shape pass coll m last
  drove calls (inl f) m last makes = inl (found calls f m last makes)
  drove calls (inr f) m last makes = inr (moved calls f m last makes)

  surveyed : (objects blocks : ℕ) (calls : List CallEnd) → Surveyed coll objects blocks calls → (m last : Machine) → MakesEnds shape pass calls m last
      → D.Surveys shape pass coll (done.Surveyed coll objects blocks) m last
  surveyed objects blocks calls f m last makes =
      let all : MakesEnds shape pass (enters f.epoch ++ surveys coll objects blocks) m last = subst (λ (k : List CallEnd). MakesEnds shape pass k m last) f.made makes in
      let a : One shape pass call.Enter (done.At f.epoch) (surveys coll objects blocks) m last = enter shape pass f.epoch (surveys coll objects blocks) m last all in
      let b : One shape pass (call.Survey coll) (done.Surveyed coll objects blocks) [] a.next last = survey shape pass coll objects blocks [] a.next last a.rest in
      let ended : b.next ≡ last = b.rest in record {
        inside = a.next;
        epoch = f.epoch;
        enters = a.makes;
        surveys = subst (λ (k : Machine). Makes shape pass (call.Survey coll) (done.Surveyed coll objects blocks) a.next k) ended b.makes;
      }

counts-same : (coll objects blocks n k : ℕ) → done.Surveyed coll objects blocks ≡ done.Surveyed coll n k → (objects ≡ n) × (blocks ≡ k)
counts-same coll objects blocks n k is = (cc, cc)

pub survey-exact : SurveysTell → SurveyIsExact
survey-exact tells shape opening first pass coll objects blocks before calls last h valid did f =
    let alone : MadeAlone shape h.start pass before calls h.steps last = did-alone shape opening first pass before calls last h valid did in
    let b : Between shape h.start pass before calls h.steps last = alone.between in
    let told : HasState shape opening first b.next (λ s. done.Surveyed coll objects blocks ≡ done.Surveyed coll (count_of s.world coll) (occupied shape s.memory coll)) =
    tells shape opening first pass b.m valid (up_to shape opening first last h b.earlier b.m b.leads_here) (alone.alone did.home) coll b.next (done.Surveyed coll objects blocks)
    (surveyed shape pass coll objects blocks calls f b.m b.next alone.made) in record {
      at = last-moment shape h.start pass before calls h.steps last b;
      fact = record { history = told.history; holds_of_each = λ k. counts-same coll objects blocks _ _ (told.holds_of_each k) };
    }

pub survey-packed : SurveysTellPacked → SurveyBehindDrive
survey-packed tells shape opening first pass coll objects blocks before driven calls last h valid did f g =
    let alone : MadeAlone shape h.start pass before (driven ++ calls) h.steps last = did-alone shape opening first pass before (driven ++ calls) last h valid did in
    let b : Between shape h.start pass before (driven ++ calls) h.steps last = alone.between in
    let parts : EndsParts shape pass driven calls b.m b.next = ends-parts shape pass driven calls b.m b.next alone.made in
    let told : HasState shape opening first b.next (λ s. done.Surveyed coll objects blocks ≡ done.Surveyed coll (count_of s.world coll) (blocks_for (count_of s.world coll))) =
    tells shape opening first pass b.m valid (up_to shape opening first last h b.earlier b.m b.leads_here) (alone.alone did.home) coll parts.middle b.next (done.Surveyed coll objects blocks)
    (drove shape pass coll driven f b.m parts.middle parts.first) (surveyed shape pass coll objects blocks calls g parts.middle b.next parts.second) in
    record {
      at = last-moment shape h.start pass before (driven ++ calls) h.steps last b;
      fact = record {
        history = told.history;
        holds_of_each = λ k.
            let both : (objects ≡ count_of (history_state k).world coll) × (blocks ≡ blocks_for (count_of (history_state k).world coll)) = counts-same coll objects blocks _ _ (told.holds_of_each k) in
            (both.0, both.1 ∙ ap blocks_for (sym both.0));
      };
    }

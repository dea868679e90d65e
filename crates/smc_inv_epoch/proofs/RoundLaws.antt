-- The round word tells the truth after every list of steps.
use Rattle.std.proofs.Common.{◌≡◌, ℕ, ◌<◌, Option, Some, None, List, refl, sym, ap, ◌∙◌, subst}
use Rattle.std.specs.Prelude.{IfSome}
use Rattle.smc_shape.specs.Layout.{Layout, IsShape}
use Rattle.smc_core.specs.declared.call.Choice.{Choice}
use Rattle.smc_core.specs.declared.local.Opening.{Opening}
use Rattle.smc_core.specs.declared.op.Offer.{Offer}
use Rattle.smc_core.specs.Machine.{Machine, IsOpening, started}
use Rattle.smc_model.specs.World.{World}
use Rattle.smc_rules.specs.History.{History}
use Rattle.smc_rules.specs.Start.{IsAtStart, IsStart, memory_behind, starting, state_behind}
use Rattle.smc_rules.specs.Reads.{round_in}
use Rattle.smc_core.specs.Words.{round_of}
use Rattle.smc_words.specs.declared.round.RoundWord.{RoundWord}
use Rattle.smc_core.specs.declared.word.Word.TheVariants as word
use Rattle.smc_rules.specs.Memory.{Memory, apply}
use Rattle.smc_rules.specs.State.{State, IsKept, Backed, stand_offer, stand_then, state_after}
use Rattle.smc_rules.proofs.HistoryLaws.{at_first, carried_then}
use Rattle.smc_inv_epoch.specs.Epochs.{is_first}
use Rattle.smc_inv_epoch.specs.Rounds.{Rounds, RoundWordRule}
use Rattle.smc_inv_epoch.proofs.EveryList.{epochs-kept, epochs-starting}
use Rattle.smc_inv_epoch.proofs.RoundKinds.{Tells, tells}
use Rattle.smc_inv_epoch.proofs.RoundMoves.{kept_rounds}

module _ (shape : Layout) (valid : IsShape shape) where
  told_round : (state : State) (pass : ℕ) (choice : Choice) (offered : Offer) (within : pass < shape.passes) (h : Rounds shape state)
      → stand_offer shape pass (state.stands pass) choice ≡ Some offered
      → Tells shape state pass h within (state.stands pass).section (state.stands pass).phase choice offered
  told_round state pass choice offered within h offers =
      subst (λ o. IfSome o (Tells shape state pass h within (state.stands pass).section (state.stands pass).phase choice)) offers (tells shape state pass h within choice)

  -- each step keeps the rule of the round word
  pub rounds-kept : IsKept shape is_first (Rounds shape)
  rounds-kept = record {
    fits = λ state pass choice offered within h offers u. (epochs-kept shape valid).fits state pass choice offered within h.epochs offers u;
    kept = λ state pass choice offered told w within h offers is.
        kept_rounds shape state pass h within (apply offered.op state.memory) (stand_then shape pass (state.stands pass) choice told w)
        (state_after shape state pass choice told offered.op w).world
        ((told_round state pass choice offered within h offers).moves told w is)
        ((epochs-kept shape valid).kept state pass choice offered told w within h.epochs offers is);
  }

  -- at the start there is no round
  pub rounds-starting : (opening : Opening) (world : World) (memory : Memory) → IsOpening opening → IsAtStart shape opening world memory → Rounds shape (starting shape memory world)
  rounds-starting opening world memory o q =
      let none : round_in memory ≡ None = ap round_of q.round in record {
        epochs = epochs-starting shape valid opening world memory o q;
        rule = record {
          names_owner = record { owner = λ round is. absurd (let no : None ≡ Some round = sym none ∙ is in cc); only = λ round pass owned is lt owns. absurd (cc) };
          calm_bound = λ pass own round lt is at. absurd (cc);
        };
        agrees = record { is_round = q.round ∙ ap (λ (r : Option RoundWord). word.Round r) (sym none); none_owned = λ pass lt is. refl; owners = λ pass lt u. absurd (cc) };
      }

  pub rounds-starts : (opening : Opening) (first : World) (start : List ℕ) → IsStart shape opening first start → Rounds shape (state_behind shape opening (started shape start) first)
  rounds-starts opening first start starts = (at_first shape opening (Rounds shape) first start starts (rounds-starting opening first (memory_behind shape opening start) starts.opens starts.at_rest)).rule

  -- and behind every history
  pub rounds-then : (opening : Opening) (first : World) (m : Machine) (h : History shape opening first m) → Backed shape is_first (RoundWordRule shape) m.row m.locals
  rounds-then opening first m h =
      let b = carried_then shape is_first valid (Rounds shape) rounds-kept opening first m h (rounds-starts opening first h.start h.starts) in
      record { state = b.state; backs = b.backs; rule = b.rule.rule }

-- Passes that stand aside go on standing aside.
use Rattle.std.proofs.Common.{◌≡◌, ℕ, ◌==◌, nat_lt, ◌+◌, Option, Some, None, List, [], ◌∷◌, sym, ap, ◌∙◌, subst, inl, inr}
use Rattle.std.specs.Prelude.{◌⊎◌, ◌||◌, slice_get, slice_set}
use Rattle.std.proofs.lemmas.Bool.{cond_both}
use Rattle.smc_shape.specs.Layout.{Layout}
use Rattle.smc_core.specs.declared.call.Call.TheVariants as call
use Rattle.smc_core.specs.declared.call.Choice.{Choice}
use Rattle.smc_core.specs.declared.call.Choice.TheVariants.{Start, Go}
use Rattle.smc_core.specs.declared.done.Done.TheVariants as done
use Rattle.smc_core.specs.declared.local.Local.{Local}
use Rattle.smc_core.specs.declared.local.Owned.{Owned}
use Rattle.smc_core.specs.declared.local.Stand.{Stand}
use Rattle.smc_core.specs.declared.op.Offer.{Offer}
use Rattle.smc_core.specs.declared.phase.Phase.{Phase}
use Rattle.smc_core.specs.declared.phase.Phase.TheVariants as phase
use Rattle.smc_core.specs.declared.section.Section.{Section}
use Rattle.smc_core.specs.declared.section.Section.TheVariants.{Outside}
use Rattle.smc_core.specs.declared.section.TheConstants.{LAST_EPOCH}
use Rattle.smc_core.specs.declared.word.Word.{Word}
use Rattle.smc_core.specs.Change.{change, section_seen, advance_next}
use Rattle.smc_core.specs.Local.{after, section_after, round_after}
use Rattle.smc_core.specs.Machine.{Machine, Steps, Leads, local_offer}
use Rattle.smc_core.specs.Offer.{offer}
use Rattle.smc_core.specs.Row.{row_shows}
use Rattle.smc_core.specs.Step.{goes, ends}
use Rattle.smc_core.specs.Words.{plain_of}
use Rattle.smc_rules.proofs.CarryLaws.{get-set_same, get-set_other, some-same, by_pass}
use Rattle.smc_aside.specs.Aside.{IsResting, StandsAside, OthersAside, IsAsideChoice, IsUndisturbed}

module _ (shape : Layout) where
  -- by the section word that it loads an advance goes on or ends
  section_seen-rests : (from other seen : ℕ) → IsResting (section_seen shape from other seen).phase
  section_seen-rests from other seen = cond_both (seen == 0 || seen == from) (goes (advance_next shape from (other + 1))) (ends (done.NotYet other seen)) (λ c. IsResting c.phase)
      (λ t. advance_next-rests from (other + 1)) (λ n. tt)
    where
      advance_next-rests : (from other : ℕ) → IsResting (advance_next shape from other)
      advance_next-rests from other = cond_both (nat_lt other shape.passes) (phase.Advancing from other) (phase.Ready from) IsResting (λ t. tt) (λ n. tt)

  -- where a step leaves one that stands aside
  record Aside (section : Section) (next : Phase) (owned : Option Owned) : Type 0 where
    outside : section ≡ Outside
    resting : IsResting next
    no_round : owned ≡ None

  stays : (pass : ℕ) (stand : Stand) (section : Section) (next : Phase) (owned : Option Owned) (choice : Choice) (o : Offer) (told : ℕ) (w : Word)
      → section ≡ Outside → IsResting next → owned ≡ None → IsAsideChoice choice → offer shape pass stand section next choice ≡ Some o
      → Aside (section_after section next choice w) (change shape pass stand section next choice told w).phase (round_after owned section next choice w)
  stays pass stand section phase.Idle owned Go o told w out rest none may is = cc
  stays pass stand section (phase.Advancing from other) owned Go o told w out rest none may is = record { outside = out; resting = section_seen-rests from other (plain_of w); no_round = none }
  stays pass stand section (phase.Ready from) owned Go o told w out rest none may is = record {
    outside = out;
    resting = cond_both (plain_of w == from) (ends (done.Advanced (from + 1))) (ends (done.Overtaken (plain_of w))) (λ c. IsResting c.phase) (λ t. tt) (λ n. tt);
    no_round = none;
  }
  stays pass stand section phase.Idle owned (Start call.Note) o told w out rest none may is = record { outside = out; resting = tt; no_round = none }
  stays pass stand section phase.Idle owned (Start call.Advance) o told w out rest none may is = record {
    outside = out;
    resting = cond_both (plain_of w == LAST_EPOCH) (ends done.Spent) (goes (advance_next shape (plain_of w) 0)) (λ c. IsResting c.phase) (λ t. tt)
        (λ n. cond_both (nat_lt 0 shape.passes) (phase.Advancing (plain_of w) 0) (phase.Ready (plain_of w)) IsResting (λ t. tt) (λ n. tt));
    no_round = none;
  }
  stays pass stand section (phase.Advancing from other) owned (Start c) o told w out rest none may is = cc
  stays pass stand section (phase.Ready from) owned (Start c) o told w out rest none may is = cc
  stays pass stand section phase.Idle owned (Start call.Enter) o told w out rest none may is = elim may [ ]
  stays pass stand section phase.Idle owned (Start call.Leave) o told w out rest none may is = elim may [ ]
  stays pass stand section phase.Idle owned (Start (call.Add _ _ _)) o told w out rest none may is = elim may [ ]
  stays pass stand section phase.Idle owned (Start (call.Look _)) o told w out rest none may is = elim may [ ]
  stays pass stand section phase.Idle owned (Start (call.Read _ _)) o told w out rest none may is = elim may [ ]
  stays pass stand section phase.Idle owned (Start (call.Write _ _ _)) o told w out rest none may is = elim may [ ]
  stays pass stand section phase.Idle owned (Start (call.Remove _)) o told w out rest none may is = elim may [ ]
  stays pass stand section phase.Idle owned (Start (call.Scan _)) o told w out rest none may is = elim may [ ]
  stays pass stand section phase.Idle owned (Start (call.Next _)) o told w out rest none may is = elim may [ ]
  stays pass stand section phase.Idle owned (Start (call.Begin _)) o told w out rest none may is = elim may [ ]
  stays pass stand section phase.Idle owned (Start call.Finish) o told w out rest none may is = elim may [ ]
  stays pass stand section phase.Idle owned (Start call.Cancel) o told w out rest none may is = elim may [ ]
  stays pass stand section phase.Idle owned (Start (call.Survey _)) o told w out rest none may is = elim may [ ]
  stays pass stand section phase.Idle owned (Start (call.Learn _ _)) o told w out rest none may is = elim may [ ]
  stays pass stand section phase.Entering owned choice o told w out rest none may is = elim rest [ ]
  stays pass stand section (phase.Look _) owned choice o told w out rest none may is = elim rest [ ]
  stays pass stand section (phase.Add _) owned choice o told w out rest none may is = elim rest [ ]
  stays pass stand section (phase.Remove _) owned choice o told w out rest none may is = elim rest [ ]
  stays pass stand section (phase.Scan _) owned choice o told w out rest none may is = elim rest [ ]
  stays pass stand section (phase.Begin _) owned choice o told w out rest none may is = elim rest [ ]
  stays pass stand section (phase.Finish _) owned choice o told w out rest none may is = elim rest [ ]
  stays pass stand section (phase.Cancel _) owned choice o told w out rest none may is = elim rest [ ]
  stays pass stand section (phase.Survey _) owned choice o told w out rest none may is = elim rest [ ]

  -- a step of one that stands aside leaves it aside
  aside-after : (pass : ℕ) (l : Local) (choice : Choice) (o : Offer) (told : ℕ) (w : Word) → StandsAside l.stand → IsAsideChoice choice
      → local_offer shape pass l choice ≡ Some o → StandsAside (after shape pass l choice told w).stand
  aside-after pass l choice o told w aside may is =
      let s : Aside (section_after l.stand.section l.stand.phase choice w) (change shape pass l.stand l.stand.section l.stand.phase choice told w).phase (round_after l.stand.round l.stand.section l.stand.phase choice w)
      = stays pass l.stand l.stand.section l.stand.phase l.stand.round choice o told w aside.outside aside.resting aside.no_round may is in
      record { outside = s.outside; resting = s.resting; no_round = s.no_round }

  -- a step leaves the others aside
  others-after : (pass : ℕ) (m next : Machine) (by : ℕ) (choice : Choice) → OthersAside pass m.locals → (by ≡ pass) ⊎ IsAsideChoice choice
      → Steps shape m by choice next → OthersAside pass next.locals
  others-after pass m next by choice aside calm step other l ne here =
      let l' : Local = after shape by step.local choice step.told (row_shows shape step.offered.op m.row) in
      let put : slice_get (slice_set m.locals by l') other ≡ Some l = sym (ap (λ (k : Machine). slice_get k.locals other) step.leads) ∙ here in
      by_pass other by
      (λ e. elim calm [
        | inl own ↦ absurd (ne (e ∙ own))
        | inr may ↦
            let mine : slice_get m.locals other ≡ Some step.local = subst (λ (k : ℕ). slice_get m.locals k ≡ Some step.local) (sym e) step.here in
            let is : l' ≡ l = some-same l' l (sym (get-set_same m.locals by step.local l' step.here) ∙ subst (λ (k : ℕ). slice_get (slice_set m.locals by l') k ≡ Some l) e put) in
            subst (λ (k : Local). StandsAside k.stand) is (aside-after by step.local choice step.offered step.told (row_shows shape step.offered.op m.row) (aside other step.local ne mine) may step.offers)
      ])
      (λ n. aside other l ne (sym (get-set_other m.locals by other l' n) ∙ put))

  pub others-aside : (pass : ℕ) (m last : Machine) (steps : List (ℕ × Choice)) → OthersAside pass m.locals → IsUndisturbed pass steps → Leads shape m steps last → OthersAside pass last.locals
  others-aside pass m last [] aside calm leads = subst (λ (k : Machine). OthersAside pass k.locals) leads aside
  others-aside pass m last (step ∷ later) aside calm (next, taken, leads) =
      others-aside pass next last later (others-after pass m next step.0 step.1 aside calm.0 taken) calm.1 leads

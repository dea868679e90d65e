-- What the calls on rounds leave of a pass, as what they tell.
use Rattle.std.proofs.Common.{◌≡◌, ℕ, ◌+◌, ◌<◌, Option, Some, None, List, length, sym, subst, ap, ◌∙◌}
use Rattle.std.specs.Prelude.{Contains}
use Rattle.smc_shape.specs.Layout.{Layout}
use Rattle.smc_core.specs.declared.done.Done.{Done}
use Rattle.smc_core.specs.declared.done.Done.TheVariants as done
use Rattle.smc_core.specs.declared.local.Held.{Held}
use Rattle.smc_core.specs.declared.local.Local.{Local}
use Rattle.smc_core.specs.declared.local.Owned.{Owned}
use Rattle.smc_region.specs.Callers.{Caller, IsSame, answered_by}
use Rattle.smc_trace.specs.Named.{rounds}
use Rattle.smc_trace.specs.Trace.{Tells}
use Rattle.smc_does.specs.Does.{Stays}
use Rattle.smc_does.proofs.Bridges.{tells-none}
use Rattle.smc_compact.specs.declared.begun.Begun.{Begun}
use Rattle.smc_compact.specs.declared.begun.Begun.TheVariants as begun
use Rattle.smc_compact.specs.declared.begun.Round.{Round}
use Rattle.smc_compact.specs.declared.ending.Finished.{Finished}
use Rattle.smc_compact.specs.declared.ending.Finished.TheVariants as finished
use Rattle.smc_compact.specs.Begins.{Begins, owning}
use Rattle.smc_compact.specs.Calls.{EndsBy, HasBound, IsRoundOf, Keeps, OwnsBy, begun_done, finished_done}
use Rattle.smc_compact.specs.Endings.{Ends}

-- a call has ended with this answer, and the pass owns this round then
module _ (old new : Caller) (owned : Option Owned) (answer : Done) (is : new.local ≡ answered_by (owning old.local owned) new.local.steps answer) where
  pub tells-by : Tells old.local new.local (rounds answer)
  tells-by = tells-none old.local new.local answer (ap (λ (l : Local). l.log) is) (ap (λ (l : Local). l.answers) is)

  pub owns-by : new.local.stand.round ≡ owned
  owns-by = ap (λ (l : Local). l.stand.round) is

  pub stays-by : Stays old new
  stays-by = record {
    section = ap (λ (l : Local). l.stand.section) is;
    idle = ap (λ (l : Local). l.stand.phase) is;
    held = λ x has. subst (λ (held : List Held). Contains held x) (sym (ap (λ (l : Local). l.stand.held) is)) has;
  }

  pub scans-by : new.local.stand.scans ≡ old.local.stand.scans
  scans-by = ap (λ (l : Local). l.stand.scans) is

  pub keeps-by : Keeps old.local new.local
  keeps-by = record {
    notes = ap (λ (l : Local). l.notes) is;
    learnt = ap (λ (l : Local). l.learnt) is;
    cursors = ap (λ (l : Local). l.cursors) is;
  }

-- the round that a begin leaves to a pass which had this one
abbrev pub begun_round : ℕ → Option Owned → Begun → Option Owned
begun_round coll owned (begun.Round round) = Some (record { bound = round.bound; coll = coll })
begun_round coll owned begun.Nothing = None
begun_round coll owned (begun.Busy seen) = owned

pub begin-is : (coll epoch : ℕ) (old new : Caller) (answer : Begun) → Begins answer epoch coll old.local new.local
    → new.local ≡ answered_by (owning old.local (begun_round coll old.local.stand.round answer)) new.local.steps (begun_done coll answer)
begin-is coll epoch old new (begun.Round round) is = is.2
begin-is coll epoch old new begun.Nothing is = is
begin-is coll epoch old new (begun.Busy seen) is =
    let steps : new.local.steps ≡ old.local.steps + 1 = ap (λ (l : Local). l.steps) is in
    is ∙ ap (λ (n : ℕ). answered_by old.local n (done.Busy seen.bound seen.pass seen.coll)) (sym steps)

pub begin-bound : (coll epoch : ℕ) (old new : Local) (answer : Begun) → Begins answer epoch coll old new → HasBound coll epoch answer
begin-bound coll epoch old new (begun.Round round) is = (is.0, is.1)
begin-bound coll epoch old new begun.Nothing is = tt
begin-bound coll epoch old new (begun.Busy seen) is = tt

pub begin-owns : (coll epoch : ℕ) (old new : Caller) (answer : Begun) → coll < length old.shape.colls → IsSame old new → Begins answer epoch coll old.local new.local → OwnsBy old new answer
begin-owns coll epoch old new (begun.Round round) within same is = record {
  coll = subst (λ (n : ℕ). n < length new.shape.colls) (sym is.0) (subst (λ (shape : Layout). coll < length shape.colls) (sym same.1) within);
  owned = ap (λ (l : Local). l.stand.round) is.2 ∙ ap (λ (n : ℕ). let one : Option Owned = Some (record { bound = round.bound; coll = n }) in one) (sym is.0);
}
begin-owns coll epoch old new begun.Nothing within same is = ap (λ (l : Local). l.stand.round) is
begin-owns coll epoch old new (begun.Busy seen) within same is = ap (λ (l : Local). l.stand.round) is

-- the round that a finish leaves
abbrev pub finished_round : Option Owned → Finished → Option Owned
finished_round owned (finished.Done moved abandoned gone) = None
finished_round owned (finished.Early again) = owned

pub finish-is : (epoch : ℕ) (round : Round) (old new : Caller) (answer : Finished) → Ends answer round epoch old.local new.local
    → new.local ≡ answered_by (owning old.local (finished_round old.local.stand.round answer)) new.local.steps (finished_done epoch answer)
finish-is epoch round old new (finished.Done moved abandoned gone) is = is.1
finish-is epoch round old new (finished.Early again) is =
    let steps : new.local.steps ≡ old.local.steps + 1 = ap (λ (l : Local). l.steps) is.2 in
    is.2 ∙ (ap (λ (n : ℕ). answered_by old.local n (done.Early epoch round.bound)) (sym steps)
    ∙ ap (λ (r : Round). answered_by old.local new.local.steps (done.Early epoch r.bound)) (sym is.1))

pub finish-ends : (epoch : ℕ) (round : Round) (old new : Caller) (answer : Finished) → IsSame old new → IsRoundOf old round → Ends answer round epoch old.local new.local → EndsBy new epoch round answer
finish-ends epoch round old new (finished.Done moved abandoned gone) same owns is = (is.0, ap (λ (l : Local). l.stand.round) is.1)
finish-ends epoch round old new (finished.Early again) same owns is =
    let still : IsRoundOf new round = record {
      coll = subst (λ (shape : Layout). round.coll < length shape.colls) (sym same.1) owns.coll;
      owned = ap (λ (l : Local). l.stand.round) is.2 ∙ owns.owned;
    } in
    (is.0, is.1, subst (λ (r : Round). IsRoundOf new r) (sym is.1) still)

-- a round stays its pass's while the pass keeps it
pub round-still : (old new : Caller) (round : Round) → IsSame old new → new.local.stand.round ≡ old.local.stand.round → IsRoundOf old round → IsRoundOf new round
round-still old new round same still owns = record {
  coll = subst (λ (shape : Layout). round.coll < length shape.colls) (sym same.1) owns.coll;
  owned = still ∙ owns.owned;
}

-- Indices taken one after the other, round to the front, and what was seen at each.
use Rattle.std.proofs.Common.{◌≡◌, ℕ, ◌+◌, ◌-◌, ◌<◌, ◌≤◌, true, false, refl, subst, arith}
use Rattle.std.specs.Prelude.{nat_lt}
use Rattle.std.proofs.lemmas.Bool.Decides.{nat_tests}
use Rattle.smc_shape.specs.Layout.{Layout}
use Rattle.smc_shape.specs.declared.place.Place.{Place}
use Rattle.smc_core.specs.Ripe.{next_round}
use Rattle.smc_region.proofs.TookLaws.{took-within}
use Rattle.smc_objects.specs.Adding.{IsFirstFree, SawTaken, behind}

-- the index behind the one that is so many behind
pub behind-next : (many from tried : ℕ) → from < many → tried < many → next_round many (behind many from tried) ≡ behind many from (tried + 1)
behind-next many from tried f t = grind (arith, nat_tests)

-- the first is the index itself
pub behind-none : (many from : ℕ) → from < many → behind many from 0 ≡ from
behind-none many from f = grind (arith, nat_tests)

-- every index is so many behind, fewer than there are
pub behind-each : (many from index : ℕ) → from < many → index < many → (tried : ℕ) × (tried < many) × (behind many from tried ≡ index)
behind-each many from index f i = elim (nat_lt index from) as (λ b. nat_lt index from ≡ b → (tried : ℕ) × (tried < many) × (behind many from tried ≡ index)) [
  | true ↦ λ e. (index + many - from, grind (arith, nat_tests, e), grind (arith, nat_tests, e))
  | false ↦ λ e. (index - from, grind (arith, nat_tests, e), grind (arith, nat_tests, e))
] refl

-- what a part of a call saw, the call saw
pub taken-within : (shape shape' : Layout) (pass pass' first first' last last' epoch epoch' : ℕ) (there : Place)
    → shape' ≡ shape → pass' ≡ pass → epoch' ≡ epoch → first ≤ first' → last' ≤ last
    → SawTaken shape' pass' first' last' epoch' there → SawTaken shape pass first last epoch there
taken-within shape shape' pass pass' first first' last last' epoch epoch' there s n e since until taken =
    let t : SawTaken shape pass first' last' epoch there =
    subst (λ (k : Layout). SawTaken k pass first' last' epoch there) s
    (subst (λ (k : ℕ). SawTaken shape' k first' last' epoch there) n
    (subst (λ (k : ℕ). SawTaken shape' pass' first' last' k there) e taken)) in
    record { op = t.op; seen = t.seen; here = t.here; took = took-within shape pass first first' last' last t.op t.seen since until t.took; is = t.is }

-- what was the first for a part of a call was it for the call
pub first-within : (shape shape' : Layout) (pass pass' first first' last last' epoch epoch' many many' from index : ℕ) (there : ℕ → Place)
    → shape' ≡ shape → pass' ≡ pass → epoch' ≡ epoch → many' ≡ many → first ≤ first' → last' ≤ last
    → IsFirstFree shape' pass' first' last' epoch' many' from index there → IsFirstFree shape pass first last epoch many from index there
first-within shape shape' pass pass' first first' last last' epoch epoch' many many' from index there s n e m since until f =
    let g : IsFirstFree shape' pass' first' last' epoch' many from index there = subst (λ (k : ℕ). IsFirstFree shape' pass' first' last' epoch' k from index there) m f in
    record {
      tried = g.tried;
      within = g.within;
      is = g.is;
      before = λ k h. taken-within shape shape' pass pass' first first' last last' epoch epoch' (there (behind many from k)) s n e since until (g.before k h);
    }

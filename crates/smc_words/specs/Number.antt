-- The word of an object number, and the order in which a map keeps numbers.
use Rattle.std.specs.Ordering.{nat_cmp, ordering_then}
use Rattle.std.specs.Coded.{Coded, code_by, coded×, coded_ℕ}
use Rattle.std.specs.Prelude.{ℕ, ◌+◌, ◌*◌, ◌<◌, ◌≤◌, refl}
use Rattle.std.specs.declared.cmp.Ordering.{Ordering}
use Rattle.smc_words.specs.declared.layout.TheConstants.{COLLECTIONS, ENTRIES, INCARNATIONS}
use Rattle.smc_words.specs.declared.number.Number.{Number}
use Rattle.smc_words.specs.declared.number.TheConstants.Number.{ENTRY, INCARNATION}

-- each part of the number fits its bits, and the incarnation is not 0
pub record FitsNumber (number : Number) : Type 0 where
  pub given : 1 ≤ number.incarnation
  pub incarnation : number.incarnation < INCARNATIONS
  pub entry : number.entry < ENTRIES
  pub coll : number.coll < COLLECTIONS

-- from bit 36 the incarnation, from bit 8 the entry, then the collection
abbrev pub packed_number : Number → ℕ
packed_number number = number.incarnation * INCARNATION + number.entry * ENTRY + number.coll

-- by incarnation, then by entry, then by collection
abbrev pub number_cmp : Number → Number → Ordering
number_cmp a b = ordering_then (nat_cmp a.incarnation b.incarnation) (ordering_then (nat_cmp a.entry b.entry) (nat_cmp a.coll b.coll))

-- a number as its three parts
abbrev pub coded_number : Coded Number
coded_number =
    code_by (ℕ × (ℕ × ℕ)) (coded× coded_ℕ (coded× coded_ℕ coded_ℕ)) (λ n. (n.incarnation, (n.entry, n.coll)))
    (λ p. record { incarnation = p.0; entry = p.1.0; coll = p.1.1 }) (λ _. refl)

-- Leaves that are placed among others, none of them twice.
use Rattle.std.proofs.Common.{◌≡◌, ◌≢◌, ℕ, ◌<◌, ◌≤◌, ◌==◌, ◌&&◌, Bool, true, false, List, [], ◌∷◌, ◌++◌, length, get_or, Option, Some, None, refl, sym, ap, ◌∙◌, append_assoc, append-nil, arith}
use Rattle.std.specs.List.{position, position_or_len}
use Rattle.std.proofs.lemmas.Bool.Decides.{nat_tests}
use Rattle.std.proofs.lemmas.List.Sums.{fails_before_first}
use Rattle.std.proofs.lemmas.List.Quantifiers.{all_pairs_push}
use Rattle.smc_types.specs.declared.column.FieldType.{FieldType}
use Rattle.smc_types.specs.declared.column.FieldType.TheVariants.{Count, Amount, Rate, Day, Text, RefTo}
use Rattle.smc_plan.specs.Laws.{AreDifferent}
use Rattle.smc_plan.specs.Leaves.{place_of, same_hop, same_hops, same_leaf, same_type}
use Rattle.smc_plan.specs.Planning.{placed, placed_at}
use Rattle.smc_plan.specs.declared.leaf.Hop.{Hop}
use Rattle.smc_plan.specs.declared.leaf.Leaf.{Leaf}

-- ---- a leaf is the same as itself

same-number : (n : ℕ) → (n == n) ≡ true
same-number n = grind (arith, nat_tests)

all-true : (a b c d e : Bool) → a ≡ true → b ≡ true → c ≡ true → d ≡ true → e ≡ true → (a && b && c && d && e) ≡ true
all-true a b c d e p q r s t = rw (p, q, r, s, t) refl

same-type : (kind : FieldType) → same_type kind kind ≡ true
same-type Count = refl
same-type Amount = refl
same-type Rate = refl
same-type Day = refl
same-type (Text bytes) = same-number bytes
same-type (RefTo table) = same-number table

same-hop : (hop : Hop) → same_hop hop hop ≡ true
same-hop hop = rw (same-number hop.table, same-number hop.width, same-number hop.at) refl

same-hops : (hops : List Hop) → same_hops hops hops ≡ true
same-hops [] = refl
same-hops (hop ∷ hops) = rw (same-hop hop) (same-hops hops)

same-leaf : (leaf : Leaf) → same_leaf leaf leaf ≡ true
same-leaf leaf =
    all-true (same_hops leaf.hops leaf.hops) (leaf.table == leaf.table) (leaf.width == leaf.width) (leaf.at == leaf.at) (same_type leaf.kind leaf.kind)
    (same-hops leaf.hops) (same-number leaf.table) (same-number leaf.width) (same-number leaf.at) (same-type leaf.kind)

-- ---- more leaves

-- leaves behind which others may stand; where the first differ, all do
pub record Extends (old new : List Leaf) : Type 0 where
  pub more : List Leaf
  pub is : new ≡ old ++ more
  pub differs : AreDifferent old → AreDifferent new

-- the same leaves
pub extends-same : (leaves : List Leaf) → Extends leaves leaves
extends-same leaves = record { more = []; is = sym (append-nil leaves); differs = λ different. different }

-- more, and then more
pub extends-on : (one two three : List Leaf) → Extends one two → Extends two three → Extends one three
extends-on one two three first second = record {
  more = first.more ++ second.more;
  is = second.is ∙ ap (λ leaves. leaves ++ second.more) first.is ∙ append_assoc one first.more second.more;
  differs = λ different. second.differs (first.differs different);
}

-- the first place that passes is past the end, where none does
past-none : (test : Leaf → Bool) (leaves : List Leaf) → position test leaves ≡ None → length leaves ≤ position_or_len test leaves
past-none test leaves none = grind (arith, nat_tests)

-- a leaf that was not found is none of the others
other-leaf : (leaves : List Leaf) (leaf : Leaf) → place_of leaves leaf ≡ None → (place : ℕ) (other : Leaf) → place < length leaves → get_or leaves place other ≢ leaf
other-leaf leaves leaf none place other within is =
    let test : Leaf → Bool = λ one. same_leaf one leaf in
    let past : length leaves ≤ position_or_len test leaves = past-none test leaves none in
    let fails : test (get_or leaves place other) ≡ false = fails_before_first test leaves place other (omega arith) in
    let passes : test (get_or leaves place other) ≡ true = ap test is ∙ same-leaf leaf in
    cc

placed-extends-at : (leaves : List Leaf) (leaf : Leaf) (found : Option ℕ) → place_of leaves leaf ≡ found → Extends leaves (placed_at leaves leaf found).leaves
placed-extends-at leaves leaf (Some place) is = extends-same leaves
placed-extends-at leaves leaf None is = record {
  more = leaf ∷ [];
  is = refl;
  differs = λ different. all_pairs_push (λ (one other : Leaf). one ≢ other) leaves leaf different (λ place other within. other-leaf leaves leaf is place other within);
}

-- a leaf that is placed
pub placed-extends : (leaves : List Leaf) (leaf : Leaf) → Extends leaves (placed leaves leaf).leaves
placed-extends leaves leaf = placed-extends-at leaves leaf (place_of leaves leaf) refl

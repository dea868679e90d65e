-- The least and the greatest of values of one kind, in whatever order they come.
use Rattle.std.proofs.Common.{◌≡◌, ℕ, Bool, true, false, if◌then◌else◌, List, [], ◌∷◌, ◌++◌, fold, Some, refl, sym, ap, ◌∙◌}
use Rattle.std.specs.Cmp.{IsTotalOrder, tied_itself, upto}
use Rattle.std.specs.List.{AllByRecursion}
use Rattle.std.specs.Ordering.{is_gt, is_lt, nat_cmp, ordering_reverse, ordering_then}
use Rattle.std.specs.declared.cmp.Ordering.{Ordering}
use Rattle.std.specs.declared.cmp.Ordering.TheVariants.{Equal, Greater, Less}
use Rattle.std.proofs.lemmas.Bool.{cond_both}
use Rattle.std.proofs.lemmas.Cmp.{back_total, nat_cmp_total}
use Rattle.std.proofs.lemmas.List.Sums.{fold-append}
use Rattle.std.proofs.lemmas.Map.Lookups.{CmpEqualImpliesEq}
use Rattle.smc_plan.specs.declared.kind.Kind.{Kind}
use Rattle.smc_plan.specs.declared.kind.Kind.TheVariants.{Number, Day, Text}
use Rattle.smc_meaning.specs.Comparing.{compare}
use Rattle.smc_meaning.specs.Groups.{chosen_of, greater, lesser}
use Rattle.smc_meaning.specs.Kinds.{IsOf}
use Rattle.smc_meaning.specs.Orders.{cell_order}
use Rattle.smc_meaning.specs.Values.{Cell, number, day, text}
use Rattle.smc_meaning.proofs.RowOrder.{cell_exact, cell_total}

-- ---- the nearer of two

gt_from_lt : (r : Ordering) → is_lt r ≡ true → is_gt r ≡ false
gt_from_lt Less is = refl
gt_from_lt Equal is = cc
gt_from_lt Greater is = cc

turn_gt : (r : Ordering) → is_gt (ordering_reverse r) ≡ is_lt r
turn_gt Less = refl
turn_gt Equal = refl
turn_gt Greater = refl

turn_lt : (r : Ordering) → is_lt (ordering_reverse r) ≡ is_gt r
turn_lt Less = refl
turn_lt Equal = refl
turn_lt Greater = refl

neither : (r : Ordering) → is_gt r ≡ false → is_lt r ≡ false → r ≡ Equal
neither Less is not = cc
neither Equal is not = refl
neither Greater is not = cc

abbrev pub nearer : {X : Type 0} → (X → X → Ordering) → X → X → X
nearer order one other = if is_lt (order other one) then other else one

module _ {X : Type 0} (order : X → X → Ordering) (total : IsTotalOrder order) (exact : CmpEqualImpliesEq order) where
  abbrev near : X → X → X
  near = nearer order

  abbrev Below : X → X → Type 0
  Below one other = is_gt (order one other) ≡ false

  itself : (x : X) → Below x x
  itself x = ap is_gt (tied_itself total x)

  below-left : (x y : X) → Below (near x y) x
  below-left x y = cond_both (is_lt (order y x)) y x (λ (m : X). Below m x) (λ less. gt_from_lt (order y x) less) (λ other. itself x)

  below-right : (x y : X) → Below (near x y) y
  below-right x y =
      cond_both (is_lt (order y x)) y x (λ (m : X). Below m y) (λ less. itself y) (λ other. ap is_gt (total.antisymm x y) ∙ turn_gt (order y x) ∙ other)

  below-both : (z x y : X) → Below z x → Below z y → Below z (near x y)
  below-both z x y one other = cond_both (is_lt (order y x)) y x (λ (m : X). Below z m) (λ less. other) (λ more. one)

  one-end : (x y : X) → Below x y → Below y x → x ≡ y
  one-end x y one other = exact x y (neither (order x y) one (ap is_lt (total.antisymm x y) ∙ turn_lt (order y x) ∙ other))

  pub nearer-turns : (x y : X) → near x y ≡ near y x
  nearer-turns x y =
      one-end (near x y) (near y x) (below-both (near x y) y x (below-right x y) (below-left x y)) (below-both (near y x) x y (below-right y x) (below-left y x))

  under : (s x y : X) → Below (near (near s x) y) (near (near s y) x)
  under s x y =
      let all : X = near (near s x) y in
      let first : Below all (near s x) = below-left (near s x) y in
      below-both all (near s y) x
      (below-both all s y (upto total all (near s x) s first (below-left s x)) (below-right (near s x) y))
      (upto total all (near s x) x first (below-right s x))

  pub nearer-further : (s x y : X) → near (near s x) y ≡ near (near s y) x
  nearer-further s x y = one-end (near (near s x) y) (near (near s y) x) (under s x y) (under s y x)

  -- the nearest of a list
  pub nearest-turns : (start : X) (front : List X) (x y : X) (back : List X) → fold near start (front ++ x ∷ y ∷ back) ≡ fold near start (front ++ y ∷ x ∷ back)
  nearest-turns start front x y back =
      fold-append near start front (x ∷ y ∷ back)
      ∙ ap (λ (s : X). fold near s back) (nearer-further (fold near start front) x y)
      ∙ sym (fold-append near start front (y ∷ x ∷ back))

-- ---- values of one kind compare as they are ordered

same_scale : (s t : ℕ) (rest : Ordering) → s ≡ t → ordering_then (nat_cmp s t) rest ≡ rest
same_scale s t rest same = ap (λ r. ordering_then r rest) (ap (nat_cmp s) (sym same) ∙ tied_itself nat_cmp_total s)

pub order-is : (kind : Kind) (one other : Cell) → IsOf kind one → IsOf kind other → cell_order one other ≡ compare one other
order-is (Number extent) (number one s) (number other t) is also = same_scale s t (compare (number one s) (number other t)) (is.scale_is ∙ sym also.scale_is)
order-is (Day bound) (day one) (day other) is also = refl
order-is Text (text one) (text other) is also = refl
order-is (Number extent) (number one s) (day other) is also = absurd also
order-is (Number extent) (number one s) (text other) is also = absurd also
order-is (Number extent) (day one) other is also = absurd is
order-is (Number extent) (text one) other is also = absurd is
order-is (Day bound) (day one) (number other t) is also = absurd also
order-is (Day bound) (day one) (text other) is also = absurd also
order-is (Day bound) (number one s) other is also = absurd is
order-is (Day bound) (text one) other is also = absurd is
order-is Text (text one) (number other t) is also = absurd also
order-is Text (text one) (day other) is also = absurd also
order-is Text (number one s) other is also = absurd is
order-is Text (day one) other is also = absurd is

abbrev least_of : Cell → Cell → Cell
least_of = nearer cell_order

abbrev greatest_of : Cell → Cell → Cell
greatest_of = nearer (λ one other. cell_order other one)

lesser-is : (kind : Kind) (one other : Cell) → IsOf kind one → IsOf kind other → lesser one other ≡ least_of one other
lesser-is kind one other is also = ap (λ r. if is_lt r then other else one) (sym (order-is kind other one also is))

greater-is : (kind : Kind) (one other : Cell) → IsOf kind one → IsOf kind other → greater one other ≡ greatest_of one other
greater-is kind one other is also =
    ap (λ (b : Bool). if b then other else one)
    (ap is_gt (sym (order-is kind other one also is)) ∙ ap is_gt (cell_total.antisymm other one) ∙ turn_gt (cell_order one other))

one_of_two : (kind : Kind) (test : Bool) (one other : Cell) → IsOf kind one → IsOf kind other → IsOf kind (if test then other else one)
one_of_two kind true one other is also = also
one_of_two kind false one other is also = is

module _ (kind : Kind) (choice also_choice : Cell → Cell → Cell)
    (same : (one other : Cell) → IsOf kind one → IsOf kind other → choice one other ≡ also_choice one other)
    (kept : (one other : Cell) → IsOf kind one → IsOf kind other → IsOf kind (choice one other)) where
  fold-same : (start : Cell) (cells : List Cell) → IsOf kind start → AllByRecursion (IsOf kind) cells → fold choice start cells ≡ fold also_choice start cells
  fold-same start [] is all = refl
  fold-same start (cell ∷ cells) is all =
      fold-same (choice start cell) cells (kept start cell is all.0) all.1 ∙ ap (λ s. fold also_choice s cells) (same start cell is all.0)

  pub chosen-same : (cells : List Cell) → AllByRecursion (IsOf kind) cells → chosen_of choice cells ≡ chosen_of also_choice cells
  chosen-same [] all = refl
  chosen-same (cell ∷ cells) all = ap Some (fold-same cell cells all.0 all.1)

module _ (order : Cell → Cell → Ordering) (total : IsTotalOrder order) (exact : CmpEqualImpliesEq order) where
  pub nearest-turn : (front : List Cell) (x y : Cell) (back : List Cell)
      → chosen_of (nearer order) (front ++ x ∷ y ∷ back) ≡ chosen_of (nearer order) (front ++ y ∷ x ∷ back)
  nearest-turn [] x y back = ap (λ s. Some (fold (nearer order) s back)) (nearer-turns order total exact x y)
  nearest-turn (cell ∷ front) x y back = ap Some (nearest-turns order total exact cell front x y back)

back_exact : CmpEqualImpliesEq (λ (one other : Cell). cell_order other one)
back_exact one other is = sym (cell_exact other one is)

-- the least of values of one kind
pub least-turn : (kind : Kind) (front : List Cell) (x y : Cell) (back : List Cell) → AllByRecursion (IsOf kind) (front ++ x ∷ y ∷ back)
    → AllByRecursion (IsOf kind) (front ++ y ∷ x ∷ back) → chosen_of lesser (front ++ x ∷ y ∷ back) ≡ chosen_of lesser (front ++ y ∷ x ∷ back)
least-turn kind front x y back all also =
    let same = chosen-same kind lesser least_of (lesser-is kind) (λ one other is there. one_of_two kind (is_lt (compare other one)) one other is there) in
    same (front ++ x ∷ y ∷ back) all ∙ nearest-turn cell_order cell_total cell_exact front x y back ∙ sym (same (front ++ y ∷ x ∷ back) also)

-- and the greatest
pub greatest-turn : (kind : Kind) (front : List Cell) (x y : Cell) (back : List Cell) → AllByRecursion (IsOf kind) (front ++ x ∷ y ∷ back)
    → AllByRecursion (IsOf kind) (front ++ y ∷ x ∷ back) → chosen_of greater (front ++ x ∷ y ∷ back) ≡ chosen_of greater (front ++ y ∷ x ∷ back)
greatest-turn kind front x y back all also =
    let same = chosen-same kind greater greatest_of (greater-is kind) (λ one other is there. one_of_two kind (is_gt (compare other one)) one other is there) in
    same (front ++ x ∷ y ∷ back) all
    ∙ nearest-turn (λ one other. cell_order other one) (back_total cell_total) back_exact front x y back
    ∙ sym (same (front ++ y ∷ x ∷ back) also)

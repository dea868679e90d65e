-- Numbers that may be taken in a row may be taken part after part, and come to the same.
use Rattle.std.proofs.Common.{◌≡◌, ◌+◌, ℤ, pos, negsuc, to_z, of_z, List, [], ◌∷◌, ◌++◌, length, length-append, append_assoc, get_or, get_or-append-add, is_lt, int_cmp, false, sym, ap, subst, subst₂, ◌∙◌, arith}
use Rattle.std.proofs.lemmas.Int.{ints}
use Rattle.std.proofs.lemmas.List.{get_or_append_left}
use mir.Syntax.{w128}
use Rattle.smc_folds.specs.Takings.{Taking, takes, takes_all, CanTake, CanTakeAll, IsAscending, IsNumber}

-- a front of an ascending list ascends
ascends-front : (xs ys : List ℤ) → IsAscending (xs ++ ys) → IsAscending xs
ascends-front xs ys up k d low below =
    subst₂ (λ a b. is_lt (int_cmp a b) ≡ false) (get_or_append_left xs ys d (k + 1) below) (get_or_append_left xs ys d k (omega (arith, below))) (up k d low (omega (arith, below, length-append xs ys)))

-- the front may be taken
pub can_take_front : (taking : Taking) (values front back : List ℤ) → values ≡ front ++ back → CanTakeAll taking values → CanTakeAll taking front
can_take_front taking values front back is can =
    let whole : CanTakeAll taking (front ++ back) = subst (CanTakeAll taking) is can in
    record {
      room = omega (arith, whole.room, length-append front back);
      ascends = ascends-front (taking.taken ++ front) back (subst IsAscending (sym (append_assoc taking.taken front back)) whole.ascends);
      fits = λ k d below. subst IsNumber (get_or_append_left front back d k below) (whole.fits k d (omega (arith, below, length-append front back)));
    }

-- and the back behind it
pub can_take_back : (taking : Taking) (values front back : List ℤ) → values ≡ front ++ back → CanTakeAll taking values → CanTakeAll (takes_all taking front) back
can_take_back taking values front back is can =
    let whole : CanTakeAll taking (front ++ back) = subst (CanTakeAll taking) is can in
    record {
      room = omega (arith, whole.room, length-append front back, length-append taking.taken front);
      ascends = subst IsAscending (sym (append_assoc taking.taken front back)) whole.ascends;
      fits = λ k d below. subst IsNumber (get_or-append-add front back k d) (whole.fits (length front + k) d (omega (arith, below, length-append front back)));
    }

-- with these taken
abbrev with_taken : Taking → List ℤ → Taking
with_taken taking taken = record { count = taking.count; taken = taken }

-- the two parts come to the whole
pub takes-parts : (taking : Taking) (values front back : List ℤ) → values ≡ front ++ back → takes_all taking values ≡ takes_all (takes_all taking front) back
takes-parts taking values front back is = ap (takes_all taking) is ∙ sym (ap (with_taken taking) (append_assoc taking.taken front back))

-- a list of one
one-value : (values : List ℤ) (value other : ℤ) → length values ≡ 1 → value ≡ get_or values 0 other → values ≡ value ∷ []
one-value [] value other one is = let no : ⊥ = omega (arith, one) in absurd no
one-value (first ∷ []) value other one is = ap (λ x. x ∷ []) (sym is)
one-value (first ∷ (second ∷ values)) value other one is = let no : ⊥ = omega (arith, one) in absurd no

-- a single number comes to the whole
pub takes-one : (taking : Taking) (values : List ℤ) (value other : ℤ) → length values ≡ 1 → value ≡ get_or values 0 other → takes_all taking values ≡ takes taking value
takes-one taking values value other one is = ap (takes_all taking) (one-value values value other one is)

-- and may be taken
pub can_take_one : (taking : Taking) (values : List ℤ) (value other : ℤ) → length values ≡ 1 → value ≡ get_or values 0 other → CanTakeAll taking values → CanTake taking value
can_take_one taking values value other one is can =
    let whole : CanTakeAll taking (value ∷ []) = subst (CanTakeAll taking) (one-value values value other one is) can in
    record {
      room = omega (arith, whole.room);
      ascends = whole.ascends;
      fits = whole.fits 0 value (omega arith);
    }

-- a number that fits comes back from its bits as it was
pub back-number : (value : ℤ) → IsNumber value → to_z w128 (of_z w128 value) ≡ value
back-number (pos n) fits = omega (arith, ints, fits)
back-number (negsuc n) fits = omega (arith, ints, fits)

-- What the boxes keep, when one more number is taken.
use Rattle.std.proofs.Common.{◌≡◌, ℕ, ◌+◌, ℤ, true, false, List, [], ◌∷◌, ◌++◌, length-append, slice_get, Option, None, Some, IfSome, if◌then◌else◌, refl, sym, ap, ◌∙◌, arith}
use Rattle.std.specs.Option.{option_or}
use Rattle.std.specs.List.{last_or}
use Rattle.smc_folds.specs.Boxes.{KeepsDifferent, KeepsEnds, different, is_new, new_behind}
use Rattle.smc_folds.specs.Takings.{Taking, takes, CanTake, IsNumber}

-- the last of a list with one more
last_or-push : (before : Option ℤ) (xs : List ℤ) (x : ℤ) → last_or before (xs ++ x ∷ []) ≡ Some x
last_or-push before [] x = refl
last_or-push before (y ∷ xs) x = last_or-push (Some y) xs x

-- the first of a list with one more
first-push : (xs : List ℤ) (x : ℤ) → option_or (slice_get xs 0) (Some x) ≡ slice_get (xs ++ x ∷ []) 0
first-push [] x = refl
first-push (y ∷ xs) x = refl

move-zero : (n : ℕ) → n + 0 ≡ 0 + n
move-zero n = omega arith

more-added : (a b c d : ℕ) → d ≡ b + c → a + d ≡ a + b + c
more-added a b c d is = omega (arith, is)

-- how many are new in a list with one more
new_behind-push : (before : Option ℤ) (xs : List ℤ) (x : ℤ) → new_behind before (xs ++ x ∷ []) ≡ new_behind before xs + (if is_new (last_or before xs) x then 1 else 0)
new_behind-push before [] x = move-zero (if is_new before x then 1 else 0)
new_behind-push before (y ∷ xs) x = more-added (if is_new before y then 1 else 0) (new_behind (Some y) xs) (if is_new (last_or (Some y) xs) x then 1 else 0) (new_behind (Some y) (xs ++ x ∷ [])) (new_behind-push (Some y) xs x)

-- one more that is new
pub keeps-new : (taking : Taking) (count : ℕ) (last : Option ℤ) (value : ℤ) → is_new last value ≡ true → KeepsDifferent taking count last → CanTake taking value → KeepsDifferent (takes taking value) (count + 1) (Some value)
keeps-new taking count last value new keeps can =
    let is : is_new (last_or None taking.taken) value ≡ true = ap (λ o. is_new o value) (sym keeps.latest) ∙ new in
    record {
      bounded = keeps.bounded;
      few = omega (arith, keeps.few, length-append taking.taken (value ∷ []));
      counted = ap (λ n. n + 1) keeps.counted ∙ ap (λ b. different taking.taken + (if b then 1 else 0)) (sym is) ∙ sym (new_behind-push None taking.taken value);
      latest = sym (last_or-push None taking.taken value);
    }

no-more : (n : ℕ) → n ≡ n + 0
no-more n = omega arith

-- one more that is as the one before it
pub keeps-known : (taking : Taking) (count : ℕ) (last : Option ℤ) (value : ℤ) → is_new last value ≡ false → KeepsDifferent taking count last → CanTake taking value → KeepsDifferent (takes taking value) count (Some value)
keeps-known taking count last value known keeps can =
    let is : is_new (last_or None taking.taken) value ≡ false = ap (λ o. is_new o value) (sym keeps.latest) ∙ known in
    record {
      bounded = keeps.bounded;
      few = omega (arith, keeps.few, length-append taking.taken (value ∷ []));
      counted = keeps.counted ∙ no-more (different taking.taken) ∙ ap (λ b. different taking.taken + (if b then 1 else 0)) (sym is) ∙ sym (new_behind-push None taking.taken value);
      latest = sym (last_or-push None taking.taken value);
    }

-- what was first fits, or else the number that comes
first-fits : (first : Option ℤ) (value : ℤ) → IfSome first IsNumber → IsNumber value → IfSome (option_or first (Some value)) IsNumber
first-fits None value kept fits = fits
first-fits (Some first) value kept fits = kept

-- the ends with one more
pub keeps-ends : (taking : Taking) (first last : Option ℤ) (value : ℤ) → KeepsEnds taking first last → CanTake taking value → KeepsEnds (takes taking value) (option_or first (Some value)) (Some value)
keeps-ends taking first last value keeps can =
    record {
      first_is = ap (λ o. option_or o (Some value)) keeps.first_is ∙ first-push taking.taken value;
      last_is = sym (last_or-push None taking.taken value);
      first_fits = first-fits first value keeps.first_fits can.fits;
      last_fits = can.fits;
    }

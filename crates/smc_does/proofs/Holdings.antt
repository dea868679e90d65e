-- What lists of held objects contain.
use Rattle.std.proofs.Common.{◌≡◌, ℕ, suc, ◌+◌, ◌<◌, List, ◌∷◌, length, refl, arith}
use Rattle.std.specs.Prelude.{Contains}

module _ {X : Type 0} where
  pub contains-first : (xs : List X) (x : X) → Contains (x ∷ xs) x
  contains-first xs x = (0, omega arith, refl)

  pub contains-later : (xs : List X) (y x : X) → Contains xs x → Contains (y ∷ xs) x
  contains-later xs y x h = let below : h.0 < length xs = h.1 in (suc h.0, omega (arith, below), h.2)

-- Walks round to the front see each index, and as many things as places leave no place empty.
use Rattle.std.proofs.Common.{◌≡◌, ◌≢◌, ◌⊎◌, ℕ, zero, suc, ◌+◌, ◌-◌, ◌<◌, ◌≤◌, Bool, false, refl, inl, inr, arith}
use Rattle.std.specs.Prelude.{nat_lt, if◌then◌else◌}
use Rattle.std.proofs.lemmas.Bool.Decides.{nat_tests}
use Rattle.smc_core.specs.Ripe.{next_round}

-- of so many, the index is among the last ones that a walk has seen before it came here, round from the front
abbrev pub IsSeen : ℕ → ℕ → ℕ → ℕ → Type 0
IsSeen many here tried x = (x < here × here ≤ x + tried) ⊎ (here ≤ x × here + many ≤ x + tried)

-- at first none is
pub seen_none : (many here x : ℕ) → x < many → IsSeen many here 0 x → ⊥
seen_none many here x lt (inl (a, b)) = absurd (omega (arith, a, b))
seen_none many here x lt (inr (a, b)) = absurd (omega (arith, lt, a, b))

-- with each step the one that was here
pub seen_next : (many here tried x : ℕ) → here < many → x < many → IsSeen many (next_round many here) (tried + 1) x → (x ≡ here) ⊎ IsSeen many here tried x
seen_next many here tried x lh lx seen = go (nat_lt (here + 1) many) refl seen
  where
    go : (b : Bool) → nat_lt (here + 1) many ≡ b → IsSeen many (if b then here + 1 else 0) (tried + 1) x → (x ≡ here) ⊎ IsSeen many here tried x
    go b e seen = grind (arith, nat_tests, lh, lx, e, seen)

-- and, where each was tried, all
pub seen_all : (many here tried x : ℕ) → here < many → x < many → nat_lt (tried + 1) many ≡ false → (x ≡ here) ⊎ IsSeen many here tried x
seen_all many here tried x lh lx over = grind (arith, nat_tests, lh, lx, over)

-- the places without this one, in order
abbrev skip : ℕ → ℕ → ℕ
skip hole x = if nat_lt x hole then x else x - 1

skip-within : (many hole x : ℕ) → hole < suc many → x < suc many → x ≢ hole → skip hole x < many
skip-within many hole x lh lx ne = grind (arith, nat_tests, lh, lx, ne)

skip-apart : (hole x y : ℕ) → x ≢ hole → y ≢ hole → skip hole x ≡ skip hole y → x ≡ y
skip-apart hole x y nx ny same = grind (arith, nat_tests, nx, ny, same)

-- things that stand apart are not more than places
pub apart_fit : (many places : ℕ) (at : ℕ → ℕ) → ((i : ℕ) → i < many → at i < places) → ((i j : ℕ) → i < many → j < many → at i ≡ at j → i ≡ j) → many ≤ places
apart_fit zero places at within apart = omega arith
apart_fit (suc many) zero at within apart = absurd (omega (arith, within 0 (omega arith)))
apart_fit (suc many) (suc places) at within apart =
    let fit : many ≤ places = apart_fit many places (λ i. skip (at many) (at i))
    (λ i li. skip-within places (at many) (at i) (within many (omega arith)) (within i (omega (arith, li))) (λ e. let same : i ≡ many = apart i many (omega (arith, li)) (omega arith) e in omega (arith, li, same)))
    (λ i j li lj e. apart i j (omega (arith, li)) (omega (arith, lj)) (skip-apart (at many) (at i) (at j)
    (λ e1. let same : i ≡ many = apart i many (omega (arith, li)) (omega arith) e1 in omega (arith, li, same))
    (λ e2. let same : j ≡ many = apart j many (omega (arith, lj)) (omega arith) e2 in omega (arith, lj, same)) e)) in
    omega (arith, fit)

-- and where one place is empty, they are fewer
pub apart_fewer : (many places hole : ℕ) (at : ℕ → ℕ) → hole < places → ((i : ℕ) → i < many → at i < places) → ((i : ℕ) → i < many → at i ≢ hole)
    → ((i j : ℕ) → i < many → j < many → at i ≡ at j → i ≡ j) → many < places
apart_fewer many zero hole at lh within apart_from apart = absurd (omega (arith, lh))
apart_fewer many (suc places) hole at lh within apart_from apart =
    let fit : many ≤ places = apart_fit many places (λ i. skip hole (at i))
    (λ i li. skip-within places hole (at i) lh (within i li) (apart_from i li))
    (λ i j li lj e. apart i j li lj (skip-apart hole (at i) (at j) (apart_from i li) (apart_from j lj) e)) in
    omega (arith, fit)

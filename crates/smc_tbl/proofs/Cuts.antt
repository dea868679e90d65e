-- Where bytes are cut at the first of one byte.
use Rattle.std.proofs.Common.{◌≡◌, ◌≢◌, ℕ, ◌+◌, ◌<◌, List, [], ◌∷◌, ◌++◌, All, take, drop, suc, add-one, length, slice_index, ap, ◌∙◌, refl, arith, inl, inr}
use Rattle.std.specs.Prelude.{◌⊎◌}
use Rattle.std.proofs.Math.Seq.{split_at}
use Rattle.std.proofs.lemmas.Bool.{ne_eqb}
use Rattle.std.proofs.lemmas.Bool.Decides.{eqb_tells, nat_tests}
use Rattle.std.proofs.lemmas.List.Elements.{All-head, All-tail}
use Rattle.smc_tbl.specs.Fields.{Lacks}

module _ (cutter : ℕ) where
  -- bytes that all differ from a byte lack it
  pub Lacks-from_All : (bytes : List ℕ) → All (λ x. x ≢ cutter) bytes → Lacks cutter bytes
  Lacks-from_All [] none = refl
  Lacks-from_All (byte ∷ bytes) none =
      rw (ne_eqb byte cutter (All-head (λ x. x ≢ cutter) byte bytes none)) (Lacks-from_All bytes (All-tail (λ x. x ≢ cutter) byte bytes none))

  -- bytes with the cutter at this place
  pub cut-at : (bytes : List ℕ) (at : ℕ) → at < length bytes → slice_index bytes at ≡ cutter → bytes ≡ take at bytes ++ cutter ∷ drop (at + 1) bytes
  cut-at bytes at within here = rw (add-one) (split_at bytes at 0 within ∙ ap (λ byte. take at bytes ++ byte ∷ drop (suc at) bytes) here)

  Lacks-head : (byte : ℕ) (bytes : List ℕ) → Lacks cutter (byte ∷ bytes) → byte ≢ cutter
  Lacks-head byte bytes lacks = grind (arith, nat_tests)

  pub Lacks-tail : (byte : ℕ) (bytes : List ℕ) → Lacks cutter (byte ∷ bytes) → Lacks cutter bytes
  Lacks-tail byte bytes lacks = grind (arith, nat_tests)

  -- bytes are cut at their first cutter in one way
  pub one_cut : (a b x y : List ℕ) → Lacks cutter a → Lacks cutter b → a ++ cutter ∷ x ≡ b ++ cutter ∷ y → (a ≡ b) × (x ≡ y)
  one_cut [] [] x y first second same = (refl, cc)
  one_cut [] (byte ∷ b) x y first second same = let bar : byte ≡ cutter = cc in absurd (Lacks-head byte b second bar)
  one_cut (byte ∷ a) [] x y first second same = let bar : byte ≡ cutter = cc in absurd (Lacks-head byte a first bar)
  one_cut (byte ∷ a) (other ∷ b) x y first second same =
      let rest : a ++ cutter ∷ x ≡ b ++ cutter ∷ y = cc in
      let (fronts, behinds) = one_cut a b x y (Lacks-tail byte a first) (Lacks-tail other b second) rest in
      let here : byte ≡ other = cc in
      (cc, behinds)

  -- bytes without a cutter are not cut
  pub uncut : (bytes a x : List ℕ) → Lacks cutter bytes → bytes ≢ a ++ cutter ∷ x
  uncut [] [] x lacks same = cc
  uncut [] (byte ∷ a) x lacks same = cc
  uncut (byte ∷ bytes) [] x lacks same = let bar : byte ≡ cutter = cc in Lacks-head byte bytes lacks bar
  uncut (byte ∷ bytes) (other ∷ a) x lacks same = let rest : bytes ≡ a ++ cutter ∷ x = cc in uncut bytes a x (Lacks-tail byte bytes lacks) rest

  abbrev pub Cut : List ℕ → Type 0
  Cut bytes = (front : List ℕ) × (rest : List ℕ) × (bytes ≡ front ++ cutter ∷ rest) × Lacks cutter front

  -- bytes are cut at their first cutter, or lack it
  pub cut_or_lacks : (bytes : List ℕ) → Cut bytes ⊎ Lacks cutter bytes
  cut_or_lacks [] = inr refl
  cut_or_lacks (byte ∷ bytes) =
      elim (eqb_tells byte cutter) [
        | inl here ↦ inl ([], bytes, ap (λ b. b ∷ bytes) here.1, refl)
        | inr other ↦ elim (cut_or_lacks bytes) [
          | inl cut ↦ inl (byte ∷ cut.0, cut.1, ap (λ l. byte ∷ l) cut.2, rw other.0 cut.3)
          | inr lacks ↦ inr (rw other.0 lacks)
        ]
      ]

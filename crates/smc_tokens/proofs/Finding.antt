-- The first of a list that passes a test.
use Rattle.std.proofs.Common.{◌≡◌, ℕ, Bool, true, false, List, [], ◌∷◌, cond, Some, None, refl, sym, ap, ◌∙◌}
use Rattle.std.specs.List.{find}
use Rattle.std.specs.Str.{bytes_eq}
use Rattle.std.proofs.lemmas.Bool.{false_from_ne_true}
use Rattle.std.proofs.lemmas.Slice.Eq.{bytes_eq-Decides}
use Rattle.smc_tokens.specs.declared.reserved.Reserved.{Reserved}
use Rattle.smc_tokens.specs.Marks.{word_text}
use Rattle.smc_tokens.specs.Tokens.{all_words}
use Rattle.smc_tokens.specs.Front.{spelled_word}

-- other bytes
bytes_eq_other : (bytes other : List ℕ) → (other ≡ bytes → ⊥) → bytes_eq bytes other ≡ false
bytes_eq_other bytes other differ = false_from_ne_true (bytes_eq bytes other) (λ same. differ (sym ((bytes_eq-Decides bytes other).0 same)))

-- where none passes, none is found
pub find_none : {A : Type 0} (p : A → Bool) (xs : List A) → ((x : A) → p x ≡ false) → find p xs ≡ None
find_none p [] fails = refl
find_none p (x ∷ xs) fails = rw (fails x) (find_none p xs fails)

-- a text that is none of the words spells none
pub no_word : (text : List ℕ) → ((word : Reserved) → text ≡ word_text word → ⊥) → spelled_word text ≡ None
no_word text differs = find_none (λ word. bytes_eq (word_text word) text) all_words (λ word. bytes_eq_other (word_text word) text (differs word))

-- what is found passes
pub find_passes : {A : Type 0} (p : A → Bool) (xs : List A) (x : A) → find p xs ≡ Some x → p x ≡ true
find_passes p [] x found = let h = found in cc
find_passes p (y ∷ xs) x found =
    elim (p y) as (λ v. p y ≡ v → cond v (Some y) (find p xs) ≡ Some x → p x ≡ true) [
      | true ↦ λ is same. let one : y ≡ x = cc in ap p (sym one) ∙ is
      | false ↦ λ is same. find_passes p xs x same
    ] refl found

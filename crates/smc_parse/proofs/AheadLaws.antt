-- The tokens from a place on, and the one that stands there.
use Rattle.std.proofs.Common.{◌≡◌, ℕ, ◌+◌, ◌<◌, ◌≤◌, ◌⊎◌, inl, inr, true, false, List, [], ◌∷◌, length, get_or, refl, ap, arith, ◌∙◌, sym}
use Rattle.std.proofs.lemmas.List.{drop-map, drop_more, drop_all}
use Rattle.std.proofs.lemmas.Bool.Decides.{leb_tells}
use Rattle.smc_tokens.specs.declared.token.Token.{Token}
use Rattle.smc_tokens.specs.declared.token.Placed.{Placed}
use Rattle.smc_query.specs.Machine.{is_mark, sees}
use Rattle.smc_parse.specs.Reading.{ahead, Stands}

ahead-more : (placed : List Placed) (at : ℕ) (d : Placed) → at < length placed → ahead placed at ≡ (get_or placed at d).token ∷ ahead placed (at + 1)
unfolding ahead
ahead-more placed at d h = rw (drop-map (λ p. p.token) at placed, drop-map (λ p. p.token) (at + 1) placed, drop_more placed at d h) refl

-- the token of the place that was read stands there
pub stands-at : (placed : List Placed) (at : ℕ) (d : Placed) → at < length placed → Stands placed at (get_or placed at d).token
stands-at placed at d h = record { within = h; is = ahead-more placed at d h }

-- behind the last place nothing is left
pub ahead-end : (placed : List Placed) (at : ℕ) → length placed ≤ at → ahead placed at ≡ []
unfolding ahead
ahead-end placed at h = rw (drop-map (λ p. p.token) at placed, drop_all at placed h) refl

-- a token that is this word or sign stands at a place
pub record Marked (placed : List Placed) (at : ℕ) (mark : Token) : Type 0 where
  pub token : Token
  pub stands : Stands placed at token
  pub marks : is_mark mark token ≡ true

within-or-not : (at n : ℕ) → (at < n) ⊎ (n ≤ at)
within-or-not at n = elim (leb_tells n at) [ inl p ↦ inr p.1 | inr p ↦ inl p.1 ]

marked-in : (placed : List Placed) (at : ℕ) (mark : Token) (d : Placed) → sees mark (ahead placed at) ≡ true → (at < length placed) ⊎ (length placed ≤ at) → Marked placed at mark
marked-in placed at mark d e (inl h) = record {
  token = (get_or placed at d).token;
  stands = stands-at placed at d h;
  marks = ap (sees mark) (sym (ahead-more placed at d h)) ∙ e;
}
marked-in placed at mark d e (inr h) = let none : sees mark (ahead placed at) ≡ false = ap (sees mark) (ahead-end placed at h) in cc

-- where a mark is seen, it stands
pub marked-at : (placed : List Placed) (at : ℕ) (mark : Token) → sees mark (ahead placed at) ≡ true → Marked placed at mark
marked-at [] at mark e = let none : sees mark (ahead [] at) ≡ false = ap (sees mark) (ahead-end [] at (omega arith)) in cc
marked-at (p ∷ ps) at mark e = marked-in (p ∷ ps) at mark p e (within-or-not at (length (p ∷ ps)))

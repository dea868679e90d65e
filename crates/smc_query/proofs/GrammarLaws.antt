-- What the grammar says of all lists of tokens: one tree, and one of three outcomes.
use Rattle.std.proofs.Common.{◌≡◌, ◌⊎◌, inl, inr, ℕ, suc, ◌+◌, List, [], ◌∷◌, ◌++◌, append_assoc, refl, sym, ◌∙◌, subst, add_comm}
use Rattle.std.proofs.lemmas.List.{append-nil}
use Rattle.smc_tokens.specs.declared.token.Token.{Token}
use Rattle.smc_query.specs.Trees.{Answer, Form}
use Rattle.smc_query.specs.Grammar.{Spells}
use Rattle.smc_query.specs.Machine.{Outcome, built, stuck, too_deep, outcome, plan_of}
use Rattle.smc_query.specs.Faults.{Begins, IsWrongBehind, IsTooDeepBehind}
use Rattle.smc_query.specs.Laws.{SpellsOne, IsSpelled, IsFault, SpellsOrStops, SpelledNeverStops, FrontsBegin}
use Rattle.smc_query.proofs.StopLaws.{built-more, spelled-built, built-spells, stuck-is-wrong, deep-is-too-deep}

pub spells-one : SpellsOne
spells-one form d e s one two h g =
    let first : outcome (plan_of form (e + d)) s ≡ built one = built-more form e d s one (spelled-built form d s one h) in
    let second : outcome (plan_of form (d + e)) s ≡ built two = built-more form d e s two (spelled-built form e s two g) in
    let same : d + e ≡ e + d = add_comm d e in
    let third : outcome (plan_of form (e + d)) s ≡ built two = rw same at second in
    cc

by-outcome : (form : Form) (d : ℕ) (s : List Token) (now : Outcome) → outcome (plan_of form d) s ≡ now
    → IsSpelled form (suc d) s ⊎ ((front : List Token) × ((rest : List Token) × IsFault form (suc d) s front rest))
by-outcome form d s (built a) e = inl (a, built-spells form d s a e)
by-outcome form d s (stuck r) e = let (front, (is, h)) = stuck-is-wrong form d s r e in inr (front, (r, record { split = is; stops = inl h }))
by-outcome form d s (too_deep r) e = let (front, (is, h)) = deep-is-too-deep form d s r e in inr (front, (r, record { split = is; stops = inr h }))

pub spells-or-stops : SpellsOrStops
spells-or-stops form d s = by-outcome form d s (outcome (plan_of form d) s) refl

-- what a text spells begins with each of its fronts
front-of : (form : Form) (d : ℕ) (s front : List Token) (t : Token) (rest : List Token) (a : Answer) → Spells form d s a → s ≡ front ++ t ∷ rest → Begins form d (front ++ t ∷ [])
front-of form d s front t rest a h e =
    let P : List Token → Type 0 = λ v. Spells form d v a in
    (rest, (a, subst P (e ∙ sym (append_assoc front (t ∷ []) rest)) h))

never : (form : Form) (d : ℕ) (s front rest : List Token) (a : Answer) → Spells form d s a → s ≡ front ++ rest → IsWrongBehind form d front rest ⊎ IsTooDeepBehind form d front rest → ⊥
never form d s front [] a h e (inl w) = let P : List Token → Type 0 = λ v. Spells form d v a in w.none d a (subst P (e ∙ append-nil front) h)
never form d s front [] a h e (inr w) = absurd w
never form d s front (t ∷ rest) a h e (inl w) = w.none d (front-of form d s front t rest a h e)
never form d s front (t ∷ rest) a h e (inr w) = w.none (front-of form d s front t rest a h e)

pub spelled-never-stops : SpelledNeverStops
spelled-never-stops form d s front rest (a, h) f = never form d s front rest a h f.split f.stops

pub fronts-begin : FrontsBegin
fronts-begin form d front more (later, (a, h)) =
    let P : List Token → Type 0 = λ v. Spells form d v a in (more ++ later, (a, subst P (append_assoc front more later) h))

-- What is left of boxes without the first of a name, by its place.
use Rattle.std.proofs.Common.{◌≡◌, ℕ, suc, ◌+◌, Bool, true, false, true≢false, List, [], ◌∷◌, ◌++◌, map, take, drop, remove, Option, None, Some, is_some, option_map, unwrap_or, if◌then◌else◌, sym, refl, ap, ap₂, ◌∙◌, arith}
use Rattle.std.proofs.lemmas.List.{map-append, take-map, drop-map}
use Rattle.smc_folds.specs.Kinds.{Kind, has_name, without_first}
use Rattle.smc_folds.specs.Places.{place_named}

-- what is seen of the items but one
pub map-remove : {A B : Type 0} (f : A → B) (items : List A) (place : ℕ) → map f (remove items place) ≡ remove (map f items) place
map-remove f items place = map-append f (take place items) (drop (suc place) items) ∙ ap₂ (λ front back. front ++ back) (sym (take-map f place items)) (sym (drop-map f (suc place) items))

same-place : (a b : ℕ) → Some a ≡ Some b → a ≡ b
same-place a b is = ap (λ o. unwrap_or o 0) is

without-step : (kind : Kind) (kinds left : List Kind) (named : Bool) (found : Option ℕ) (place : ℕ) → ((q : ℕ) → found ≡ Some q → left ≡ remove kinds q)
    → (if named then Some 0 else option_map (λ n. n + 1) found) ≡ Some place → (if named then kinds else kind ∷ left) ≡ remove (kind ∷ kinds) place
without-step kind kinds left true found place later is = ap (remove (kind ∷ kinds)) (same-place 0 place is)
without-step kind kinds left false None place later is = absurd (true≢false (sym (ap is_some is)))
without-step kind kinds left false (Some q) place later is =
    let next : suc q ≡ place = omega (arith, same-place (q + 1) place is) in
    ap (λ ks. kind ∷ ks) (later q refl) ∙ ap (remove (kind ∷ kinds)) next

-- without the first of the name is without the box at its place
pub without-at : (kinds : List Kind) (name : List ℕ) (place : ℕ) → place_named kinds name ≡ Some place → without_first kinds name ≡ remove kinds place
without-at [] name place is = absurd (true≢false (sym (ap is_some is)))
without-at (kind ∷ kinds) name place is = without-step kind kinds (without_first kinds name) (has_name name kind) (place_named kinds name) place (without-at kinds name) is

none-step : (kind : Kind) (kinds left : List Kind) (named : Bool) (found : Option ℕ) → (found ≡ None → left ≡ kinds)
    → (if named then Some 0 else option_map (λ n. n + 1) found) ≡ None → (if named then kinds else kind ∷ left) ≡ kind ∷ kinds
none-step kind kinds left true found later is = absurd (true≢false (ap is_some is))
none-step kind kinds left false None later is = ap (λ ks. kind ∷ ks) (later refl)
none-step kind kinds left false (Some q) later is = absurd (true≢false (ap is_some is))

-- where no box has the name, all stay
pub without-none : (kinds : List Kind) (name : List ℕ) → place_named kinds name ≡ None → without_first kinds name ≡ kinds
without-none [] name is = refl
without-none (kind ∷ kinds) name is = none-step kind kinds (without_first kinds name) (has_name name kind) (place_named kinds name) (without-none kinds name) is

-- what is seen of the items once one is removed
pub without-removed : {A : Type 0} (f : A → Kind) (before seen after : List A) (name : List ℕ) (place : ℕ) → seen ≡ before → after ≡ remove before place
    → Some place ≡ place_named (map f seen) name → map f after ≡ without_first (map f before) name
without-removed f before seen after name place same removed found =
    ap (map f) removed ∙ map-remove f before place ∙ sym (without-at (map f before) name place (sym (found ∙ ap (λ items. place_named (map f items) name) same)))

-- and where none is
pub without-nothing : {A : Type 0} (f : A → Kind) (before seen : List A) (name : List ℕ) → seen ≡ before
    → None ≡ place_named (map f seen) name → map f before ≡ without_first (map f before) name
without-nothing f before seen name same found = sym (without-none (map f before) name (sym (found ∙ ap (λ items. place_named (map f items) name) same)))

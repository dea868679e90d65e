-- The orders of two logs.
use Rattle.std.proofs.Common.{◌≡◌, ◌≢◌, ◌==◌, ◌⊎◌, inl, inr, ⊎_elim, zero, suc, ℕ, false, cond, List, [], ◌∷◌, ◌++◌, refl, sym, ap, subst, ◌∙◌, arith}
use Rattle.std.specs.Prelude.{filter}
use Rattle.std.proofs.lemmas.Bool.{eq-eqb}
use Rattle.std.proofs.lemmas.List.{map-append}
use Rattle.std.proofs.lemmas.List.Elements.{filter-append}
use Rattle.std.proofs.lemmas.Bool.Decides.{eqb_tells}
use Rattle.std.proofs.Math.Dec.{eqb-zero-suc}
use Rattle.smc_model.specs.declared.event.Event.{Event}
use Rattle.smc_model.specs.World.{World, IsAllowed, world_after, Replay}
use Rattle.smc_model.specs.Order.{log_of, events_of, events_by}

pub events_by-append : (pass : ℕ) (xs ys : List (ℕ × Event)) → events_by pass (xs ++ ys) ≡ events_by pass xs ++ events_by pass ys
events_by-append pass xs ys = ap events_of (filter-append (λ done. done.0 == pass) xs ys) ∙ map-append (λ done. done.1) (filter (λ done. done.0 == pass) xs) _

-- the first event, of the pass that did it
pub events_by-own : (pass : ℕ) (event : Event) (rest : List (ℕ × Event)) → events_by pass ((pass, event) ∷ rest) ≡ event ∷ events_by pass rest
events_by-own pass event rest = ap (λ b. events_of (cond b ((pass, event) ∷ filter (λ done. done.0 == pass) rest) (filter (λ done. done.0 == pass) rest))) (eq-eqb pass pass refl)

-- and of any other
pub events_by-other : (pass by : ℕ) (event : Event) (rest : List (ℕ × Event)) → (by == pass) ≡ false → events_by pass ((by, event) ∷ rest) ≡ events_by pass rest
events_by-other pass by event rest other = ap (λ b. events_of (cond b ((by, event) ∷ filter (λ done. done.0 == pass) rest) (filter (λ done. done.0 == pass) rest))) other

-- numbers that differ
pub different : (m n : ℕ) → m ≢ n → (m == n) ≡ false
different m n apart = ⊎_elim (λ e. absurd (apart e.1)) (λ e. e.0) (eqb_tells m n)

-- the order has each event of two logs, as they have them
abbrev pub Merges : List Event → List Event → List (ℕ × Event) → Type 0
Merges a b order = (pass : ℕ) → events_by pass order ≡ log_of (a ∷ b ∷ []) pass

-- what is left of the logs when one of them has done an event

after_first : (a b : List Event) (event : Event) (rest : List (ℕ × Event)) → Merges a b ((0, event) ∷ rest) → Merges (events_by 0 rest) b rest
after_first a b event rest merges zero = refl
after_first a b event rest merges (suc pass) = sym (events_by-other (suc pass) 0 event rest (eqb-zero-suc pass)) ∙ merges (suc pass)

after_second : (a b : List Event) (event : Event) (rest : List (ℕ × Event)) → Merges a b ((1, event) ∷ rest) → Merges a (events_by 1 rest) rest
after_second a b event rest merges zero = sym (events_by-other 0 1 event rest refl) ∙ merges 0
after_second a b event rest merges (suc zero) = refl
after_second a b event rest merges (suc (suc pass)) =
    sym (events_by-other (suc (suc pass)) 1 event rest (different 1 (suc (suc pass)) (λ e. absurd (omega arith)))) ∙ merges (suc (suc pass))

-- it begins with the first event of one of them, and goes on with what is left
abbrev pub Begins : List Event → List Event → List (ℕ × Event) → Type 0
Begins a b order =
    ((order ≡ []) × (a ≡ []) × (b ≡ []))
    ⊎ ((event : Event) × (a' : List Event) × (rest : List (ℕ × Event)) × (a ≡ event ∷ a') × (order ≡ (0, event) ∷ rest) × Merges a' b rest)
    ⊎ ((event : Event) × (b' : List Event) × (rest : List (ℕ × Event)) × (b ≡ event ∷ b') × (order ≡ (1, event) ∷ rest) × Merges a b' rest)

pub merge_begins : (a b : List Event) (order : List (ℕ × Event)) → Merges a b order → Begins a b order
merge_begins a b [] merges = inl (refl, sym (merges 0), sym (merges 1))
merge_begins a b ((zero, event) ∷ rest) merges =
    inr (inl (event, events_by 0 rest, rest, sym (merges 0) ∙ events_by-own 0 event rest, refl, after_first a b event rest merges))
merge_begins a b ((suc zero, event) ∷ rest) merges =
    inr (inr (event, events_by 1 rest, rest, sym (merges 1) ∙ events_by-own 1 event rest, refl, after_second a b event rest merges))
merge_begins a b ((suc (suc by), event) ∷ rest) merges =
    let none : event ∷ events_by (suc (suc by)) rest ≡ [] = sym (events_by-own (suc (suc by)) event rest) ∙ merges (suc (suc by)) in
    cc

-- the same of an order that replays: the event is allowed, and what is left replays from the world behind it
abbrev pub Goes : World → World → Event → List Event → List Event → Type 0
Goes first last event a b = IsAllowed first event × ((rest : List (ℕ × Event)) × Merges a b rest × Replay (world_after first event) (events_of rest) last)

goes_on : (first last : World) (event x : Event) (a a' b b' : List Event) (by : ℕ) (order rest : List (ℕ × Event))
    → event ≡ x → a' ≡ a → b' ≡ b → order ≡ (by, event) ∷ rest → Merges a' b' rest → Replay first (events_of order) last → Goes first last x a b
goes_on first last event x a a' b b' by order rest is same also begins merges replay =
    let here = subst (λ (es : List (ℕ × Event)). Replay first (events_of es) last) begins replay in
    let now = subst (λ (e : Event). IsAllowed first e × Replay (world_after first e) (events_of rest) last) is here in
    (now.0, (rest, subst (λ (xs : List Event). Merges a xs rest) also (subst (λ (xs : List Event). Merges xs b' rest) same merges), now.1))

pub next_of_two : (first last : World) (x y : Event) (a b : List Event) (order : List (ℕ × Event)) → Merges (x ∷ a) (y ∷ b) order → Replay first (events_of order) last
    → Goes first last x a (y ∷ b) ⊎ Goes first last y (x ∷ a) b
next_of_two first last x y a b order merges replay = elim (merge_begins (x ∷ a) (y ∷ b) order merges) [
  | inl (none, left, also) ↦ absurd (cc)
  | inr (inl (event, a', rest, left, begins, later)) ↦ inl (goes_on first last event x a a' (y ∷ b) (y ∷ b) 0 order rest (cc) (cc) refl begins later replay)
  | inr (inr (event, b', rest, left, begins, later)) ↦ inr (goes_on first last event y (x ∷ a) (x ∷ a) b b' 1 order rest (cc) refl (cc) begins later replay)
]

pub next_of_second : (first last : World) (y : Event) (b : List Event) (order : List (ℕ × Event)) → Merges [] (y ∷ b) order → Replay first (events_of order) last
    → Goes first last y [] b
next_of_second first last y b order merges replay = elim (merge_begins [] (y ∷ b) order merges) [
  | inl (none, left, also) ↦ absurd (cc)
  | inr (inl (event, a', rest, left, begins, later)) ↦ absurd (cc)
  | inr (inr (event, b', rest, left, begins, later)) ↦ goes_on first last event y [] [] b b' 1 order rest (cc) refl (cc) begins later replay
]

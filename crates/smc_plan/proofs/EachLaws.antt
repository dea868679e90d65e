-- Parts that are made of a list, from its front as far as a place.
use Rattle.std.proofs.Common.{◌≡◌, ◌⊎◌, ℕ, ◌+◌, ◌<◌, ◌≤◌, List, [], ◌∷◌, ◌++◌, length, drop, get_or, map, Result, Ok, Err, refl, sym, ap, ◌∙◌, inl, inr, append_assoc, append-nil}
use Rattle.std.proofs.lemmas.List.{drop_more, drop_all}
use Rattle.smc_plan.specs.Answers.{and_then}
use Rattle.smc_plan.specs.Planning.{Made, Planning, given, made, each}
use Rattle.smc_plan.specs.declared.fault.PlanFault.{PlanFault}
use Rattle.smc_plan.specs.declared.fault.PlanFault.TheVariants.{NoMemory}
use Rattle.smc_plan.specs.declared.leaf.Leaf.{Leaf}

-- these parts, and those that are made of the rest
abbrev pub onto : {B : Type 0} → List B → Result (Made (List B)) PlanFault → Result (Made (List B)) PlanFault
onto done rest = and_then rest (λ more. Ok (made more.leaves (done ++ more.part)))

-- as far as this place these parts and leaves were made of a list
abbrev pub IsAt : {X A B : Type 0} → (A → Planning B) → (X → A) → List X → List Leaf → ℕ → List B → List Leaf → Type 0
IsAt plan view list before place done leaves = each plan (map view list) before ≡ onto done (each plan (map view (drop place list)) leaves)

module _ {X A B : Type 0} (plan : A → Planning B) (view : X → A) (list : List X) (before : List Leaf) where
  onto-nothing : (rest : Result (Made (List B)) PlanFault) → rest ≡ onto [] rest
  onto-nothing (Ok more) = refl
  onto-nothing (Err fault) = refl

  -- at the front
  pub at-front : IsAt plan view list before 0 [] before
  at-front = onto-nothing (each plan (map view list) before)

  onto-one : (done : List B) (one : B) (rest : Result (Made (List B)) PlanFault)
      → onto done (and_then rest (λ more. Ok (made more.leaves (one ∷ more.part)))) ≡ onto (done ++ one ∷ []) rest
  onto-one done one (Ok more) = ap (λ parts. Ok (made more.leaves parts)) (sym (append_assoc done (one ∷ []) more.part))
  onto-one done one (Err fault) = refl

  -- one more
  pub at-next : (place : ℕ) (done : List B) (leaves later : List Leaf) (element : X) (part : B) → place < length list → element ≡ get_or list place element
      → IsAt plan view list before place done leaves → plan (view element) leaves ≡ Ok (made later part)
      → IsAt plan view list before (place + 1) (done ++ part ∷ []) later
  at-next place done leaves later element part within is so_far step =
      let rest : drop place list ≡ element ∷ drop (place + 1) list = drop_more list place element within ∙ ap (λ first. first ∷ drop (place + 1) list) (sym is) in
      let now : each plan (map view list) before ≡ onto done (each plan (map view (element ∷ drop (place + 1) list)) leaves) = rw rest at so_far in
      now ∙ (rw step (onto-one done part (each plan (map view (drop (place + 1) list)) later)))

  -- a fault at the next element is the fault of all
  pub at-fault : (place : ℕ) (done : List B) (leaves : List Leaf) (element : X) (fault : PlanFault) → place < length list → element ≡ get_or list place element
      → IsAt plan view list before place done leaves → (fault ≡ NoMemory) ⊎ (plan (view element) leaves ≡ Err fault)
      → (fault ≡ NoMemory) ⊎ (each plan (map view list) before ≡ Err fault)
  at-fault place done leaves element fault within is so_far (inl memory) = inl memory
  at-fault place done leaves element fault within is so_far (inr step) =
      let rest : drop place list ≡ element ∷ drop (place + 1) list = drop_more list place element within ∙ ap (λ first. first ∷ drop (place + 1) list) (sym is) in
      let now : each plan (map view list) before ≡ onto done (each plan (map view (element ∷ drop (place + 1) list)) leaves) = rw rest at so_far in
      inr (now ∙ (rw step refl))

  -- at the end
  pub at-end : (place : ℕ) (done : List B) (leaves : List Leaf) → length list ≤ place → IsAt plan view list before place done leaves
      → each plan (map view list) before ≡ Ok (made leaves done)
  at-end place done leaves past so_far =
      let none : drop place list ≡ [] = drop_all place list past in
      let now : each plan (map view list) before ≡ onto done (each plan (map view []) leaves) = rw none at so_far in
      now ∙ ap (λ parts. Ok (made leaves parts)) (append-nil done)

-- a part without leaves that is there
pub given-part : {A : Type 0} (meant : Result A PlanFault) (part : A) (leaves : List Leaf) → Ok part ≡ meant → given meant leaves ≡ Ok (made leaves part)
given-part meant part leaves is = ap (λ answer. given answer leaves) (sym is)

-- a part without leaves that has a fault
pub given-fault : {A : Type 0} (meant : Result A PlanFault) (fault : PlanFault) (leaves : List Leaf) → Err fault ≡ meant → given meant leaves ≡ Err fault
given-fault meant fault leaves is = ap (λ answer. given answer leaves) (sym is)

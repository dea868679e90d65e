-- An answer over the rows that a plan keeps is the answer over all that were read.
use Rattle.std.proofs.Common.{◌≡◌, ℕ, Bool, true, false, cond, List, [], ◌∷◌, ◌++◌, filter, map, refl, ap, ◌∙◌}
use Rattle.std.proofs.lemmas.List.{append-nil}
use Rattle.std.proofs.lemmas.List.Elements.{filter-append}
use Rattle.smc_shape.specs.Layout.{Layout}
use Rattle.smc_folds.specs.Kinds.{Kind}
use Rattle.smc_plan.specs.Planned.{Planned}
use Rattle.smc_region.specs.Callers.{Caller}
use Rattle.smc_does.specs.Does.{DoesSome}
use Rattle.smc_objects.specs.Alone.{InSection}
use Rattle.smc_meaning.specs.Answers.{answer_of, columns_of}
use Rattle.smc_meaning.specs.Groups.{groups}
use Rattle.smc_meaning.specs.Kept.{is_kept, kept_rows}
use Rattle.smc_meaning.specs.Orders.{ordered}
use Rattle.smc_meaning.specs.Printed.{answer_text}
use Rattle.smc_visits.specs.Visits.{TakesRows, rows_in}
use Rattle.smc_exec.specs.Queries.{AnswersRows, KeepsRows, ReadsRows}

-- ---- what is kept

-- a row more is kept
pub kept-more : (plan : Planned) (rows : List (List ℕ)) (row : List ℕ) → is_kept plan row ≡ true → kept_rows plan (rows ++ row ∷ []) ≡ kept_rows plan rows ++ row ∷ []
kept-more plan rows row is = filter-append (is_kept plan) rows (row ∷ []) ∙ ap (λ (t : Bool). kept_rows plan rows ++ cond t (row ∷ []) []) is

-- or it is not
pub kept-still : (plan : Planned) (rows : List (List ℕ)) (row : List ℕ) → is_kept plan row ≡ false → kept_rows plan (rows ++ row ∷ []) ≡ kept_rows plan rows
kept-still plan rows row is =
    filter-append (is_kept plan) rows (row ∷ []) ∙ (ap (λ (t : Bool). kept_rows plan rows ++ cond t (row ∷ []) []) is ∙ append-nil (kept_rows plan rows))

-- to choose twice is to choose once
filter-twice : {A : Type 0} (p : A → Bool) (xs : List A) → filter p (filter p xs) ≡ filter p xs
filter-twice p [] = refl
filter-twice {A} p (x ∷ xs) = go (p x) refl (filter-twice p xs)
  where
    go : (b : Bool) → p x ≡ b → filter p (filter p xs) ≡ filter p xs → filter p (cond b (x ∷ filter p xs) (filter p xs)) ≡ cond b (x ∷ filter p xs) (filter p xs)
    go true is rest = ap (λ (t : Bool). cond t (x ∷ filter p (filter p xs)) (filter p (filter p xs))) is ∙ ap (λ (k : List A). x ∷ k) rest
    go false is rest = rest

-- an answer over what is kept is the answer over all
answer-kept : (plan : Planned) (kinds : List Kind) (rows : List (List ℕ)) → answer_of plan kinds (kept_rows plan rows) ≡ answer_of plan kinds rows
answer-kept plan kinds rows =
    ap (λ (kept : List (List ℕ)). ordered plan.sort plan.first (map (columns_of plan kinds) (groups plan kept))) (filter-twice (is_kept plan) rows)

-- ---- sections

-- where none were taken before, and what is had in the end are those that the plan keeps
pub rows-kept : (old new : Caller) (shape : Layout) (coll : ℕ) (plan : Planned) (Had Has : List (List ℕ) → Type 0) (kept : List (List ℕ)) → Had []
    → ((rows : List (List ℕ)) → Has rows → kept ≡ kept_rows plan rows) → DoesSome old new (InSection (TakesRows shape coll plan.leaves Had Has))
    → DoesSome old new (InSection (KeepsRows shape coll plan kept))
rows-kept old new shape coll plan Had Has kept none are does =
    let section = does.2 in
    let takes = section.holds in
    let rows = rows_in takes.visits in
    let reads : ReadsRows shape coll plan.leaves rows section.inner = record { visits = takes.visits; scans = takes.scans; rows_are = refl } in
    let keeps : KeepsRows shape coll plan kept section.inner = record { rows = rows; reads = reads; kept_are = are rows (takes.taken [] none) } in
    (does.0, does.1, record { epoch = section.epoch; inner = section.inner; holds = keeps; made = section.made })

-- the text is that of the answer over the rows that were read
pub rows-answered : (old new : Caller) (shape : Layout) (coll : ℕ) (plan : Planned) (kinds : List Kind) (rows : List (List ℕ)) (text : List ℕ)
    → DoesSome old new (InSection (ReadsRows shape coll plan.leaves rows)) → text ≡ answer_text (answer_of plan kinds rows)
    → DoesSome old new (InSection (AnswersRows shape coll plan kinds text))
rows-answered old new shape coll plan kinds rows text does is =
    let section = does.2 in
    let answers : AnswersRows shape coll plan kinds text section.inner = record { rows = rows; reads = section.holds; text_is = is } in
    (does.0, does.1, record { epoch = section.epoch; inner = section.inner; holds = answers; made = section.made })

-- it is also that over those that the plan keeps
pub kept-answered : (old new : Caller) (shape : Layout) (coll : ℕ) (plan : Planned) (kinds : List Kind) (kept : List (List ℕ)) (text : List ℕ)
    → DoesSome old new (InSection (KeepsRows shape coll plan kept)) → text ≡ answer_text (answer_of plan kinds kept)
    → DoesSome old new (InSection (AnswersRows shape coll plan kinds text))
kept-answered old new shape coll plan kinds kept text does is =
    let section = does.2 in
    let keeps = section.holds in
    let text_is = is ∙ ap (λ (k : List (List ℕ)). answer_text (answer_of plan kinds k)) keeps.kept_are ∙ ap answer_text (answer-kept plan kinds keeps.rows) in
    let answers : AnswersRows shape coll plan kinds text section.inner = record { rows = keeps.rows; reads = keeps.reads; text_is = text_is } in
    (does.0, does.1, record { epoch = section.epoch; inner = section.inner; holds = answers; made = section.made })

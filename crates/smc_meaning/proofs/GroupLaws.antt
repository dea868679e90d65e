-- Rows that are chosen one after another, and the leaves by which they are grouped.
use Rattle.std.proofs.Common.{◌≡◌, ℕ, zero, suc, ◌+◌, ◌<◌, Bool, ◌||◌, true, false, cond, List, [], ◌∷◌, ◌++◌, length, take, filter, Some, slice_get, Ok, refl, sym, ap, ◌∙◌, append-nil, append_assoc, arith}
use Rattle.std.specs.List.{AllByRecursion, list_any}
use Rattle.std.proofs.lemmas.List.{get_or-take, length-take, take_more}
use Rattle.std.proofs.lemmas.List.Elements.{filter_more}
use Rattle.std.proofs.lemmas.List.Folds.{list_any_at, list_any_more}
use Rattle.std.proofs.lemmas.Option.{slice_get_within, get_or_from_slice_get}
use Rattle.smc_plan.specs.Bounds.{kind_of}
use Rattle.smc_plan.specs.Typed as typed
use Rattle.smc_plan.specs.declared.kind.Kind.{Kind}
use Rattle.smc_plan.specs.declared.leaf.Leaf.{Leaf}
use Rattle.smc_plan.specs.Planned.{Planned}
use Rattle.smc_meaning.specs.Groups.{first_rows, same_key}
use Rattle.smc_plan.specs.Kinds.{leaf_kind}
use Rattle.smc_meaning.specs.Kinds.{HasKind}
use Rattle.smc_meaning.specs.Rows.{RowList}
use Rattle.smc_plan.specs.Kinds.{IsPlace}

-- ---- chosen rows

-- those of one element more
filter-next : (p : List ℕ → Bool) (xs : List (List ℕ)) (i : ℕ) (x : List ℕ) → slice_get xs i ≡ Some x
    → filter p (take (i + 1) xs) ≡ filter p (take i xs) ++ cond (p x) (x ∷ []) []
filter-next p xs i x found =
    filter_more p xs i x (slice_get_within xs i x found)
    ∙ ap (λ y. filter p (take i xs) ++ cond (p y) (y ∷ []) []) (get_or_from_slice_get xs i x x found)

-- one row more that is chosen
pub chosen_more : (p : List ℕ → Bool) (rows old now : RowList) (place : ℕ) (row : List ℕ) → old ≡ record rows { rows = filter p (take place rows.rows) }
    → slice_get rows.rows place ≡ Some row → p row ≡ true → now ≡ record old { rows = old.rows ++ row ∷ [] }
    → now ≡ record rows { rows = filter p (take (place + 1) rows.rows) }
chosen_more p rows old now place row before found passes grown =
    let next = filter-next p rows.rows place row found in
    rw (grown, before) (ap (λ all. record rows { rows = all }) (sym (next ∙ ap (λ b. filter p (take place rows.rows) ++ cond b (row ∷ []) []) passes)))

-- and one that is not
pub chosen_none : (p : List ℕ → Bool) (rows old : RowList) (place : ℕ) (row : List ℕ) → old ≡ record rows { rows = filter p (take place rows.rows) }
    → slice_get rows.rows place ≡ Some row → p row ≡ false → old ≡ record rows { rows = filter p (take (place + 1) rows.rows) }
chosen_none p rows old place row before found passes =
    let next = filter-next p rows.rows place row found in
    rw before (ap (λ all. record rows { rows = all })
    (sym (next ∙ ap (λ b. filter p (take place rows.rows) ++ cond b (row ∷ []) []) passes ∙ append-nil (filter p (take place rows.rows)))))

-- ---- first rows

-- a row behind all others is a first one where none before it has its key
after : Planned → (before : List (List ℕ)) → List ℕ → List (List ℕ)
after plan before row = cond (list_any (λ other. same_key plan other row) before) [] (row ∷ [])

joined_after : (test : Bool) (row : List ℕ) (later tail : List (List ℕ)) → cond test (later ++ tail) (row ∷ (later ++ tail)) ≡ cond test later (row ∷ later) ++ tail
joined_after true row later tail = refl
joined_after false row later tail = refl

lone : (test : Bool) (row : List ℕ) → cond test [] (row ∷ []) ≡ [] ++ cond test [] (row ∷ [])
lone true row = refl
lone false row = refl

first_rows-append : (plan : Planned) (before rows : List (List ℕ)) (row : List ℕ)
    → first_rows plan before (rows ++ row ∷ []) ≡ first_rows plan before rows ++ cond (list_any (λ other. same_key plan other row) (before ++ rows)) [] (row ∷ [])
first_rows-append plan before [] row = rw (append-nil before) refl
first_rows-append plan before (first ∷ rows) row =
    let tail : List (List ℕ) = cond (list_any (λ other. same_key plan other row) (before ++ first ∷ rows)) [] (row ∷ []) in
    let test : Bool = list_any (λ other. same_key plan other first) before in
    let later = first_rows-append plan (before ++ first ∷ []) rows row in
    let same : (before ++ first ∷ []) ++ rows ≡ before ++ first ∷ rows = append_assoc before (first ∷ []) rows in
    ap (λ all. cond test all (first ∷ all)) (later ∙ ap (λ list. first_rows plan (before ++ first ∷ []) rows ++ cond (list_any (λ other. same_key plan other row) list) [] (row ∷ [])) same)
    ∙ joined_after test first (first_rows plan (before ++ first ∷ []) rows) tail

-- none of one row more passes
pub any-next : (p : List ℕ → Bool) (rows : List (List ℕ)) (place : ℕ) (row : List ℕ) → list_any p (take place rows) ≡ false
    → slice_get rows place ≡ Some row → p row ≡ false → list_any p (take (place + 1) rows) ≡ false
any-next p rows place row none is not =
    list_any_more p rows place row (slice_get_within rows place row is)
    ∙ ap (λ r. list_any p (take place rows) || p r) (get_or_from_slice_get rows place row row is)
    ∙ ap (λ b. b || p row) none
    ∙ not

-- one of so many rows is enough
pub any-there : (p : List ℕ → Bool) (rows : List (List ℕ)) (count place : ℕ) (row : List ℕ) → place < count → slice_get rows place ≡ Some row → p row ≡ true
    → list_any p (take count rows) ≡ true
any-there p rows count place row before is there =
    let behind = slice_get_within rows place row is in
    let within : place < length (take count rows) = omega (arith, length-take count rows, before, behind) in
    list_any_at p (take count rows) place row within (ap p (get_or-take count rows place row before ∙ get_or_from_slice_get rows place row row is) ∙ there)

-- one row more, behind so many
first_rows-next : (plan : Planned) (rows : List (List ℕ)) (place : ℕ) (row : List ℕ) → slice_get rows place ≡ Some row
    → first_rows plan [] (take (place + 1) rows)
    ≡ first_rows plan [] (take place rows) ++ cond (list_any (λ other. same_key plan other row) (take place rows)) [] (row ∷ [])
first_rows-next plan rows place row found =
    let within = slice_get_within rows place row found in
    ap (first_rows plan []) (take_more rows place row within ∙ ap (λ r. take place rows ++ r ∷ []) (get_or_from_slice_get rows place row row found))
    ∙ first_rows-append plan [] (take place rows) row

pub first_more : (plan : Planned) (rows old now : RowList) (place : ℕ) (row : List ℕ) → old ≡ record rows { rows = first_rows plan [] (take place rows.rows) }
    → slice_get rows.rows place ≡ Some row → list_any (λ other. same_key plan other row) (take place rows.rows) ≡ false → now ≡ record old { rows = old.rows ++ row ∷ [] }
    → now ≡ record rows { rows = first_rows plan [] (take (place + 1) rows.rows) }
first_more plan rows old now place row before found none grown =
    let next = first_rows-next plan rows.rows place row found in
    rw (grown, before) (ap (λ all. record rows { rows = all }) (sym (next ∙ ap (λ b. first_rows plan [] (take place rows.rows) ++ cond b [] (row ∷ [])) none)))

pub first_none : (plan : Planned) (rows old : RowList) (place : ℕ) (row : List ℕ) → old ≡ record rows { rows = first_rows plan [] (take place rows.rows) }
    → slice_get rows.rows place ≡ Some row → list_any (λ other. same_key plan other row) (take place rows.rows) ≡ true
    → old ≡ record rows { rows = first_rows plan [] (take (place + 1) rows.rows) }
first_none plan rows old place row before found some =
    let next = first_rows-next plan rows.rows place row found in
    rw before (ap (λ all. record rows { rows = all })
    (sym (next ∙ ap (λ b. first_rows plan [] (take place rows.rows) ++ cond b [] (row ∷ [])) some ∙ append-nil (first_rows plan [] (take place rows.rows)))))

-- ---- leaves at places

-- a leaf of a plan is of some kind
kind_at : (leaves : List Leaf) (place : ℕ) → place < length leaves → (kind : Kind) × (leaf_kind (slice_get leaves place) ≡ Ok kind)
kind_at [] place within = absurd (omega arith)
kind_at (leaf ∷ leaves) zero within = (kind_of leaf.kind, refl)
kind_at (leaf ∷ leaves) (suc place) within = kind_at leaves place (omega arith)

pub typed_leaf : (leaves : List Leaf) (place : ℕ) → place < length leaves → HasKind leaves (typed.leaf place)
typed_leaf leaves place within = let at = kind_at leaves place within in record { kind = at.0; kind_is = at.1 }

pub first_leaf : (leaves : List Leaf) (places : List ℕ) (place : ℕ) (rest : List ℕ) → places ≡ place ∷ rest → AllByRecursion (IsPlace leaves) places → HasKind leaves (typed.leaf place)
first_leaf leaves places place rest is all = let whole = rw is at all in typed_leaf leaves place whole.0

pub later_leaves : (leaves : List Leaf) (places : List ℕ) (place : ℕ) (rest : List ℕ) → places ≡ place ∷ rest → AllByRecursion (IsPlace leaves) places → AllByRecursion (IsPlace leaves) rest
later_leaves leaves places place rest is all = let whole = rw is at all in whole.1

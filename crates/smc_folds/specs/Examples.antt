-- What the three boxes answer to short lists, and which box a name means.
use Rattle.std.specs.Prelude.{◌≡◌, ℤ, pos, negsuc, true, false, List, [], ◌∷◌, codes, None, Some}
use Rattle.smc_folds.specs.Boxes.{distinct_kind, median_kind, range_kind}
use Rattle.smc_folds.specs.Kinds.{Kind, answer_by, scaled_by, without_first}

-- of no numbers only their count is known
abbrev pub AnswerNoNumbers : Type 0
AnswerNoNumbers =
    (distinct_kind.function [] ≡ Some (pos 0))
    × (median_kind.function [] ≡ None)
    × (range_kind.function [] ≡ None)

-- -5, -5, 0, 7
abbrev pub numbers : List ℤ
numbers = negsuc 4 ∷ (negsuc 4 ∷ (pos 0 ∷ (pos 7 ∷ [])))

-- three are different; the second of four is the lower one in the middle; 7 is 12 above -5
abbrev pub AnswerNumbers : Type 0
AnswerNumbers =
    (distinct_kind.function numbers ≡ Some (pos 3))
    × (median_kind.function numbers ≡ Some (negsuc 4))
    × (range_kind.function numbers ≡ Some (pos 12))

-- two boxes of one name, and one of another
abbrev pub boxes : List Kind
boxes = median_kind ∷ (record median_kind { scaled = false } ∷ (distinct_kind ∷ []))

-- the first of equal names is asked, and dropped
abbrev pub MeanTheFirst : Type 0
MeanTheFirst =
    (scaled_by boxes (codes "median") ≡ Some true)
    × (scaled_by (without_first boxes (codes "median")) (codes "median") ≡ Some false)
    × (answer_by boxes (codes "distinct") numbers ≡ Some (Some (pos 3)))
    × (answer_by boxes (codes "total") numbers ≡ None)

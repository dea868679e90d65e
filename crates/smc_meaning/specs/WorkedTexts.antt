-- Answers and their texts.
use Rattle.std.specs.Prelude.{true, pos, negsuc, ℕ, List, [], ◌∷◌, Option, None, Some, codes}
use Rattle.smc_plan.specs.declared.plan.OrderKey.{OrderKey}
use Rattle.smc_meaning.specs.Values.{Cell, number, day, text}

-- a count of two
abbrev pub a_count : List (List (Option Cell))
a_count = (Some (number (pos 2) 0) ∷ []) ∷ []

abbrev pub a_count_text : List ℕ
a_count_text = codes "rows 1\n2\n"

-- a row of a text, hundredths below 0, four decimals, no value, and no hundredths
abbrev pub some_kinds : List (List (Option Cell))
some_kinds = (Some (text (codes "N")) ∷ Some (number (negsuc 4) 2) ∷ Some (number (pos 203_215_008) 4) ∷ None ∷ Some (number (pos 0) 2) ∷ []) ∷ []

abbrev pub some_kinds_text : List ℕ
some_kinds_text = codes "rows 1\nN|-0.05|20321.5008|none|0.00\n"

-- no rows
abbrev pub nothing_text : List ℕ
nothing_text = codes "rows 0\n"

-- a day
abbrev pub a_day : List (List (Option Cell))
a_day = (Some (day (pos 9_190)) ∷ []) ∷ []

abbrev pub a_day_text : List ℕ
a_day_text = codes "rows 1\n1995-03-01\n"

-- a row of a text and a count
abbrev pub counted : Option Cell → ℕ → List (Option Cell)
counted name times = name ∷ Some (number (pos times) 0) ∷ []

-- the second column falls
abbrev pub count_falls : List OrderKey
count_falls = record { column = 1; desc = true } ∷ []

-- four rows, of which three have one count
abbrev pub four_rows : List (List (Option Cell))
four_rows =
    counted (Some (text (codes "b"))) 1 ∷ counted (Some (text (codes "a"))) 2 ∷ counted (Some (text (codes "a"))) 1 ∷ counted None 1 ∷ []

-- in order: the greatest count first, then none before the texts
abbrev pub four_in_order : List (List (Option Cell))
four_in_order =
    counted (Some (text (codes "a"))) 2 ∷ counted None 1 ∷ counted (Some (text (codes "a"))) 1 ∷ counted (Some (text (codes "b"))) 1 ∷ []

-- the first two of them
abbrev pub two_in_order : List (List (Option Cell))
two_in_order = counted (Some (text (codes "a"))) 2 ∷ counted None 1 ∷ []

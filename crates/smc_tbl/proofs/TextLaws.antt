-- Lines of text.
use Rattle.std.proofs.Common.{◌≡◌, ℕ, ◌<◌, suc, zero, Bool, ◌&&◌, true, false, List, [], ◌∷◌, ◌++◌, slice_index, refl, sym, ◌∙◌, arith}
use Rattle.std.specs.Prelude.{nat_lt}
use Rattle.std.specs.List.{list_all, AllPass}
use Rattle.std.proofs.lemmas.Bool.Decides.{nat_tests}
use Rattle.std.proofs.lemmas.List.Folds.{list_all-append}
use Rattle.std.proofs.lemmas.List.Sums.{AllPass-from_list_all, list_all-from_AllPass}
use Rattle.std.proofs.lemmas.Str.{IsUtf8-from_ascii}
use Rattle.std.proofs.Math.Utf8.{encode, encodes, scalars, scalar_cases}
use Rattle.std.proofs.str.Laws.{Shape, shape, of1, of2, of3, of4}
use Rattle.smc_types.specs.Texts.{IsText as IsRowText, is_text_byte as is_row_byte}
use Rattle.smc_types.specs.declared.text.TheConstants.{BLANK_BYTE}
use Rattle.smc_tbl.specs.TableText.{IsText, is_plain_byte, is_text_byte}

pub and-left : (a b : Bool) → a && b ≡ true → a ≡ true
and-left true b both = refl
and-left false b both = both

pub and-right : (a b : Bool) → a && b ≡ true → b ≡ true
and-right true b both = both
and-right false b both = cc

plain-below : (line : List ℕ) → list_all is_plain_byte line ≡ true → (i : ℕ) → slice_index line i < 128
plain-below [] plain i = omega arith
plain-below (byte ∷ line) plain zero = grind (arith, nat_tests)
plain-below (byte ∷ line) plain (suc i) = let rest : list_all is_plain_byte line ≡ true = grind (arith, nat_tests) in plain-below line rest i

plain-bytes : (line : List ℕ) → list_all is_plain_byte line ≡ true → list_all is_text_byte line ≡ true
plain-bytes [] plain = refl
plain-bytes (byte ∷ line) plain =
    let rest : list_all is_plain_byte line ≡ true = grind (arith, nat_tests) in
    let later : list_all is_text_byte line ≡ true = plain-bytes line rest in
    grind (arith, nat_tests, later)

-- a line of plain bytes is text
pub IsText-plain : (line : List ℕ) → list_all is_plain_byte line ≡ true → IsText line
IsText-plain line plain = record { utf8 = IsUtf8-from_ascii line (plain-below line plain); bytes = plain-bytes line plain }

-- what stands in front of a byte passes a test that all bytes pass
all-front : (test : ℕ → Bool) (front behind : List ℕ) (byte : ℕ) → AllPass test (front ++ byte ∷ behind) → AllPass test front
all-front test front behind byte all =
    AllPass-from_list_all test front
    (and-left _ _ (sym (list_all-append test front (byte ∷ behind)) ∙ list_all-from_AllPass test (front ++ byte ∷ behind) all))

-- and so does what stands behind it
all-behind : (test : ℕ → Bool) (front behind : List ℕ) (byte : ℕ) → AllPass test (front ++ byte ∷ behind) → AllPass test behind
all-behind test front behind byte all =
    AllPass-from_list_all test behind
    (and-right _ _ (and-right _ _ (sym (list_all-append test front (byte ∷ behind)) ∙ list_all-from_AllPass test (front ++ byte ∷ behind) all)))

-- the parts of a cut line can stand in a row where the line can
pub field-text : (line field rest : List ℕ) (byte : ℕ) → line ≡ field ++ byte ∷ rest → IsRowText line → IsRowText field
field-text line field rest byte cut text = all-front is_row_byte field rest byte (rw cut at text)

pub rest-text : (line field rest : List ℕ) (byte : ℕ) → line ≡ field ++ byte ∷ rest → IsRowText line → IsRowText rest
rest-text line field rest byte cut text = all-behind is_row_byte field rest byte (rw cut at text)

-- a byte of UTF-8 is below the byte of blank words
abbrev is_low : ℕ → Bool
is_low byte = nat_lt byte BLANK_BYTE

one-low : (byte : ℕ) → byte < 255 → is_low byte ≡ true
one-low byte low = grind (arith, nat_tests)

shape-low : (c : ℕ) → Shape c → list_all is_low (encode c) ≡ true
shape-low c (of1 h is) = rw (is, one-low c (omega arith)) refl
shape-low c (of2 a b l h f s is) = rw (is, one-low a (omega arith), one-low b (omega (arith, f.1))) refl
shape-low c (of3 a b d l h f g s is) = rw (is, one-low a (omega arith), one-low b (omega (arith, f.1)), one-low d (omega (arith, g.1))) refl
shape-low c (of4 a b d e l h f g k s is) =
    rw (is, one-low a (omega arith), one-low b (omega (arith, f.1)), one-low d (omega (arith, g.1)), one-low e (omega (arith, k.1))) refl

all-low : (cs : List ℕ) → scalars cs ≡ true → list_all is_low (encodes cs) ≡ true
all-low [] scalar = refl
all-low (c ∷ cs) scalar =
    let first : list_all is_low (encode c) ≡ true = shape-low c (shape c (scalar_cases c (and-left _ _ scalar))) in
    let later : list_all is_low (encodes cs) ≡ true = all-low cs (and-right _ _ scalar) in
    rw (list_all-append is_low (encode c) (encodes cs), first, later) refl

both : (line : List ℕ) → list_all is_low line ≡ true → list_all is_text_byte line ≡ true → list_all is_row_byte line ≡ true
both [] low text = refl
both (byte ∷ line) low text =
    let low_rest : list_all is_low line ≡ true = grind (arith, nat_tests) in
    let text_rest : list_all is_text_byte line ≡ true = grind (arith, nat_tests) in
    let later : list_all is_row_byte line ≡ true = both line low_rest text_rest in
    grind (arith, nat_tests, later)

-- a line of text can stand in a row
pub row-text : (line : List ℕ) → IsText line → IsRowText line
row-text line text =
    let chars = text.utf8 in
    let low : list_all is_low line ≡ true = rw chars.1.1 at (all-low chars.0 chars.1.0) in
    AllPass-from_list_all is_row_byte line (both line low text.bytes)

-- A line gives at most one row or first fault.
use Rattle.std.proofs.Common.{◌≡◌, ◌≢◌, ℕ, ◌+◌, ◌*◌, ℤ, pos, Bool, true, false, List, [], ◌∷◌, ◌++◌, length, append-nil, Ok, Err, refl, sym, ap, ◌∙◌, inl, inr}
use Rattle.std.specs.Prelude.{Result}
use Rattle.smc_types.specs.Columns.{value_kinds}
use Rattle.smc_types.specs.Days.{SpellsDay}
use Rattle.smc_types.specs.declared.column.FieldType.{FieldType}
use Rattle.smc_types.specs.declared.column.FieldType.TheVariants.{Count, Amount, Rate, Day, Text, RefTo}
use Rattle.smc_types.specs.declared.row.Value.{Value}
use Rattle.smc_types.specs.declared.row.Value.TheVariants.{Number as OfNumber, Day as OfDay, Text as OfText}
use Rattle.smc_types.specs.declared.schema.Schema.{Schema}
use Rattle.smc_tbl.specs.declared.fault.TblFault.{TblFault}
use Rattle.smc_tbl.specs.declared.fault.TblFault.TheVariants.{FieldCount, BadText, LineTooLong}
use Rattle.smc_tbl.specs.declared.bytes.TheConstants.{BAR}
use Rattle.smc_tbl.specs.declared.numbers.TheConstants.{AMOUNT_DIGITS, MINUS, POINT}
use Rattle.smc_tbl.specs.Fields.{IsDigits, SpellsHundredths, SpellsAmount, SpellsField, behind_point, decimal_value, hundredths, sign, signed}
use Rattle.smc_tbl.specs.TableText.{IsShort, IsText, HasFields, IsDivided, SpellValues, HasFirstFault, ColumnsGive, FieldsGive, Gives}
use Rattle.smc_tbl.proofs.Cuts.{one_cut, uncut}
use Rattle.smc_tbl.proofs.NumberLaws.{IsDigits-Lacks, no_minus}

-- digits and decimals are found in a text in one way
same_parts : (most : ℕ) (text a b x y : List ℕ) → text ≡ a ++ behind_point b → text ≡ x ++ behind_point y → IsDigits 1 most a → IsDigits 1 most x → (a ≡ x) × (b ≡ y)
same_parts most text a [] x [] first second whole other = (sym (append-nil a) ∙ sym first ∙ second ∙ append-nil x, refl)
same_parts most text a [] x (tenth ∷ y) first second whole other =
    absurd (uncut POINT a x (tenth ∷ y) (IsDigits-Lacks 1 most a whole) (sym (append-nil a) ∙ sym first ∙ second))
same_parts most text a (tenth ∷ b) x [] first second whole other =
    absurd (uncut POINT x a (tenth ∷ b) (IsDigits-Lacks 1 most x other) (sym (append-nil x) ∙ sym second ∙ first))
same_parts most text a (tenth ∷ b) x (other_tenth ∷ y) first second whole other =
    one_cut POINT a x (tenth ∷ b) (other_tenth ∷ y) (IsDigits-Lacks 1 most a whole) (IsDigits-Lacks 1 most x other) (sym first ∙ second)

-- so they have one value
pub one_hundredths : (most : ℕ) (text : List ℕ) (a b : ℕ) → SpellsHundredths most text a → SpellsHundredths most text b → a ≡ b
one_hundredths most text a b first second =
    let (wholes, decimals) = same_parts most text first.whole first.decimals second.whole second.decimals first.text_is second.text_is first.whole_digits second.whole_digits in
    first.value_is ∙ ap (λ whole. 100 * decimal_value whole + hundredths first.decimals) wholes ∙ ap (λ rest. 100 * decimal_value second.whole + hundredths rest) decimals
    ∙ sym second.value_is

-- an amount has a minus or none
signs : (text a b : List ℕ) (below other : Bool) (x y : ℕ) → text ≡ sign below ++ a → text ≡ sign other ++ b
    → SpellsHundredths AMOUNT_DIGITS a x → SpellsHundredths AMOUNT_DIGITS b y → signed below x ≡ signed other y
signs text a b true true x y first second spells spelled =
    let same : a ≡ b = tails (sym first ∙ second) in
    ap (signed true) (one_hundredths AMOUNT_DIGITS a x y spells (rw same spelled))
  where
    tails : MINUS ∷ a ≡ MINUS ∷ b → a ≡ b
    tails is = cc
signs text a b true false x y first second spells spelled = absurd (no_minus AMOUNT_DIGITS y b a spelled (sym second ∙ first))
signs text a b false true x y first second spells spelled = absurd (no_minus AMOUNT_DIGITS x a b spells (sym first ∙ second))
signs text a b false false x y first second spells spelled =
    let same : a ≡ b = sym first ∙ second in
    ap (signed false) (one_hundredths AMOUNT_DIGITS a x y spells (rw same spelled))

pub one_amount : (text : List ℕ) (a b : ℤ) → SpellsAmount text a → SpellsAmount text b → a ≡ b
one_amount text a b first second =
    first.amount_is ∙ signs text first.number second.number first.below second.below first.units second.units first.text_is second.text_is first.number_is second.number_is
    ∙ sym second.amount_is

never-empty : (a b : List ℕ) (byte : ℕ) → a ++ byte ∷ b ≢ []
never-empty [] b byte is = cc
never-empty (first ∷ a) b byte is = cc

-- a line has its fields in one way
pub same_fields : (line : List ℕ) (fields others : List (List ℕ)) → HasFields line fields → HasFields line others → fields ≡ others
same_fields line [] [] has other = refl
same_fields line [] (field ∷ others) has (rest, cut, alone, later) = absurd (never-empty field rest BAR (sym cut ∙ has))
same_fields line (field ∷ fields) [] (rest, cut, alone, later) other = absurd (never-empty field rest BAR (sym cut ∙ other))
same_fields line (field ∷ fields) (other ∷ others) (rest, cut, alone, has) (behind, cut_too, alone_too, has_too) =
    let (same, rests) = one_cut BAR field other rest behind alone alone_too (sym cut ∙ cut_too) in
    let later : fields ≡ others = same_fields rest fields others has (rw (rests) has_too) in
    ap (λ f. f ∷ fields) same ∙ ap (λ fs. other ∷ fs) later

module _ (one_day : (text : List ℕ) (a b : ℤ) → SpellsDay text a → SpellsDay text b → a ≡ b) where
  -- a field spells one value
  pub one_value : (kind : FieldType) (field : List ℕ) (a b : Value) → SpellsField kind field a → SpellsField kind field b → a ≡ b
  one_value Count field (OfNumber a) (OfNumber b) first second = ap OfNumber (first.count_is ∙ sym second.count_is)
  one_value Amount field (OfNumber a) (OfNumber b) first second = ap OfNumber (one_amount field a b first second)
  one_value Rate field (OfNumber a) (OfNumber b) first second =
      ap OfNumber (first.rate_is ∙ ap pos (one_hundredths 1 field first.units second.units first.number_is second.number_is) ∙ sym second.rate_is)
  one_value Day field (OfDay a) (OfDay b) first second = ap OfDay (one_day field a b first second)
  one_value (Text width) field (OfText a) (OfText b) first second = ap OfText (first.text_is ∙ sym second.text_is)
  one_value Count field (OfNumber a) _ first second = absurd second
  one_value Count field _ b first second = absurd first
  one_value Amount field (OfNumber a) _ first second = absurd second
  one_value Amount field _ b first second = absurd first
  one_value Rate field (OfNumber a) _ first second = absurd second
  one_value Rate field _ b first second = absurd first
  one_value Day field (OfDay a) _ first second = absurd second
  one_value Day field _ b first second = absurd first
  one_value (Text width) field (OfText a) _ first second = absurd second
  one_value (Text width) field _ b first second = absurd first
  one_value (RefTo table) field a b first second = absurd first

  -- fields spell one row
  one_row : (kinds : List FieldType) (fields : List (List ℕ)) (a b : List Value) → SpellValues kinds fields a → SpellValues kinds fields b → a ≡ b
  one_row [] [] [] [] first second = refl
  one_row [] [] [] (other ∷ others) first second = absurd second
  one_row [] [] (value ∷ values) others first second = absurd first
  one_row [] (field ∷ fields) values others first second = absurd first
  one_row (kind ∷ kinds) [] values others first second = absurd first
  one_row (kind ∷ kinds) (field ∷ fields) [] others first second = absurd first
  one_row (kind ∷ kinds) (field ∷ fields) (value ∷ values) [] first second = absurd second
  one_row (kind ∷ kinds) (field ∷ fields) (value ∷ values) (other ∷ others) first second =
      ap (λ v. v ∷ values) (one_value kind field value other first.0 second.0) ∙ ap (λ vs. other ∷ vs) (one_row kinds fields values others first.1 second.1)

  -- and no fault beside it
  row_or_fault : (kinds : List FieldType) (fields : List (List ℕ)) (row : List Value) (fault : TblFault) → SpellValues kinds fields row → ¬ HasFirstFault kinds fields fault
  row_or_fault [] fields row fault spells has = has
  row_or_fault (kind ∷ kinds) [] row fault spells has = has
  row_or_fault (kind ∷ kinds) (field ∷ fields) [] fault spells has = spells
  row_or_fault (kind ∷ kinds) (field ∷ fields) (value ∷ row) fault spells (inl nothing) = nothing.0 value spells.0
  row_or_fault (kind ∷ kinds) (field ∷ fields) (value ∷ row) fault spells (inr later) = row_or_fault kinds fields row fault spells.1 later.2

  -- the first fault is one
  one_fault : (kinds : List FieldType) (fields : List (List ℕ)) (a b : TblFault) → HasFirstFault kinds fields a → HasFirstFault kinds fields b → a ≡ b
  one_fault [] fields a b first second = absurd first
  one_fault (kind ∷ kinds) [] a b first second = absurd first
  one_fault (kind ∷ kinds) (field ∷ fields) a b (inl first) (inl second) = first.1 ∙ sym second.1
  one_fault (kind ∷ kinds) (field ∷ fields) a b (inl first) (inr second) = absurd (first.0 second.0 second.1)
  one_fault (kind ∷ kinds) (field ∷ fields) a b (inr first) (inl second) = absurd (second.0 first.0 first.1)
  one_fault (kind ∷ kinds) (field ∷ fields) a b (inr first) (inr second) = one_fault kinds fields a b first.2 second.2

  one_of_columns : (kinds : List FieldType) (fields : List (List ℕ)) (a b : Result (List Value) TblFault) → ColumnsGive kinds fields a → ColumnsGive kinds fields b → a ≡ b
  one_of_columns kinds fields (Ok a) (Ok b) first second = ap Ok (one_row kinds fields a b first second)
  one_of_columns kinds fields (Ok a) (Err b) first second = absurd (row_or_fault kinds fields a b first second)
  one_of_columns kinds fields (Err a) (Ok b) first second = absurd (row_or_fault kinds fields b a second first)
  one_of_columns kinds fields (Err a) (Err b) first second = ap Err (one_fault kinds fields a b first second)

  when_undivided : (kinds : List FieldType) (line : List ℕ) → ¬ IsDivided kinds line → (r : Result (List Value) TblFault) → FieldsGive kinds line r → r ≡ Err FieldCount
  when_undivided kinds line none (Err FieldCount) gives = refl
  when_undivided kinds line none _ gives = absurd (none (gives.0, gives.1, gives.2))

  moved : (kinds : List FieldType) (fields others : List (List ℕ)) (r : Result (List Value) TblFault) → fields ≡ others → ColumnsGive kinds others r → ColumnsGive kinds fields r
  moved kinds fields others r same gives = rw same gives

  when_divided : (kinds : List FieldType) (line : List ℕ) (fields : List (List ℕ)) → HasFields line fields → length fields ≡ length kinds
      → (r : Result (List Value) TblFault) → FieldsGive kinds line r → ColumnsGive kinds fields r
  when_divided kinds line fields has count (Err FieldCount) gives = absurd (gives (fields, has, count))
  when_divided kinds line fields has count r gives = moved kinds fields gives.0 r (same_fields line fields gives.0 has gives.1) gives.3

  one_of_fields : (kinds : List FieldType) (line : List ℕ) (a b : Result (List Value) TblFault) → FieldsGive kinds line a → FieldsGive kinds line b → a ≡ b
  one_of_fields kinds line (Err FieldCount) b first second = sym (when_undivided kinds line first b second)
  one_of_fields kinds line a b first second = one_of_columns kinds first.0 a b first.3 (when_divided kinds line first.0 first.1 first.2 b second)

  module _ (schema : Schema) (line : List ℕ) where
    when_long : ¬ IsShort line → (r : Result (List Value) TblFault) → Gives schema line r → r ≡ Err LineTooLong
    when_long long (Err LineTooLong) gives = refl
    when_long long _ gives = absurd (long gives.0)

    when_bad : IsShort line → ¬ IsText line → (r : Result (List Value) TblFault) → Gives schema line r → r ≡ Err BadText
    when_bad short bad (Err LineTooLong) gives = absurd (gives short)
    when_bad short bad (Err BadText) gives = refl
    when_bad short bad _ gives = absurd (bad gives.1)

    when_text : IsShort line → IsText line → (r : Result (List Value) TblFault) → Gives schema line r → FieldsGive (value_kinds schema.columns) line r
    when_text short good (Err LineTooLong) gives = absurd (gives short)
    when_text short good (Err BadText) gives = absurd (gives.1 good)
    when_text short good _ gives = gives.2

    -- no line gives two things
    pub gives_same : (a b : Result (List Value) TblFault) → Gives schema line a → Gives schema line b → a ≡ b
    gives_same (Err LineTooLong) b first second = sym (when_long first b second)
    gives_same (Err BadText) b first second = sym (when_bad first.0 first.1 b second)
    gives_same a b first second = one_of_fields (value_kinds schema.columns) line a b first.2 (when_text first.0 first.1 b second)

-- The calls that the words of a line spell.
use Rattle.std.specs.Prelude.{ℕ, ◌-◌, ◌^◌, ◌==◌, ◌&&◌, if◌then◌else◌, List, [], ◌∷◌, length, None, Some, option_and_then}
use Rattle.std.specs.declared.option.Option.{Option}
use Rattle.std.specs.Option.{option_map}
use Rattle.smc_lines.specs.Numbers.{number_of}
use Rattle.smc_schedule.specs.Names.{is_name}
use Rattle.smc_schedule.specs.Verbs.{verb_of}
use Rattle.smc_schedule.specs.declared.call.StartCall.{StartCall}
use Rattle.smc_schedule.specs.declared.call.StartCall.TheVariants.{Enter, Leave, Advance, Add, Look, Read, Write, Remove, Scan, Next, Begin, Finish, Cancel}
use Rattle.smc_schedule.specs.declared.verb.Verb.{Verb}
use Rattle.smc_schedule.specs.declared.verb.Verb.TheVariants as verb

-- a number of 32 bits, as PASS, FROM and F are
abbrev pub index_of : List ℕ → Option ℕ
index_of word = number_of (2 ^ 32 - 1) word

-- a number of 64 bits, as a value is
abbrev pub value_of : List ℕ → Option ℕ
value_of word = number_of (2 ^ 64 - 1) word

-- this call, where it has no arguments
abbrev pub plain_of : StartCall → List (List ℕ) → Option StartCall
plain_of call [] = Some call
plain_of call (word ∷ words) = None

-- NAME
abbrev pub name_of : List (List ℕ) → Option (List ℕ)
name_of (name ∷ []) = if is_name name then Some name else None
name_of words = None

-- NAME F
abbrev pub read_of : List (List ℕ) → Option StartCall
read_of (name ∷ field ∷ []) = if is_name name then option_map (λ f. Read name f) (index_of field) else None
read_of words = None

-- NAME F V
abbrev pub write_of : List (List ℕ) → Option StartCall
write_of (name ∷ field ∷ value ∷ []) =
    if is_name name then option_and_then (λ f. option_map (λ v. Write name f v) (value_of value)) (index_of field) else None
write_of words = None

-- V1 .. VN
abbrev pub values_of : List (List ℕ) → Option (List ℕ)
values_of [] = Some []
values_of (word ∷ words) = option_and_then (λ value. option_map (λ values. value ∷ values) (values_of words)) (value_of word)

-- the call that adds a record, where it has so many fields
abbrev pub added_of : ℕ → List ℕ → ℕ → List ℕ → Option StartCall
added_of width name from values = if is_name name && (length values == width) then Some (Add name from values) else None

-- NAME FROM V1 .. VW
abbrev pub add_of : ℕ → List (List ℕ) → Option StartCall
add_of width (name ∷ from ∷ words) = option_and_then (λ f. option_and_then (λ values. added_of width name f values) (values_of words)) (index_of from)
add_of width words = None

-- the call of a verb and the words behind it, where a record has so many fields
abbrev pub call_of : ℕ → Verb → List (List ℕ) → Option StartCall
call_of width verb.Enter words = plain_of Enter words
call_of width verb.Leave words = plain_of Leave words
call_of width verb.Advance words = plain_of Advance words
call_of width verb.Add words = add_of width words
call_of width verb.Look words = option_map (λ name. Look name) (name_of words)
call_of width verb.Read words = read_of words
call_of width verb.Write words = write_of words
call_of width verb.Remove words = option_map (λ name. Remove name) (name_of words)
call_of width verb.Scan words = plain_of Scan words
call_of width verb.Next words = plain_of Next words
call_of width verb.Begin words = plain_of Begin words
call_of width verb.Finish words = plain_of Finish words
call_of width verb.Cancel words = plain_of Cancel words

-- the call of a first word and the words behind it
abbrev pub call_from : ℕ → List ℕ → List (List ℕ) → Option StartCall
call_from width word words = option_and_then (λ verb. call_of width verb words) (verb_of word)

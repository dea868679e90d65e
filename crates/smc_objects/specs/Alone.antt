-- What the calls do that open a section of their own.
use Rattle.std.specs.Prelude.{◌≡◌, ◌⊎◌, ℕ, ◌+◌, Bool, true, false, Option, Some, None, List, [], ◌∷◌, ◌++◌, Result, Ok, Err, IsOk, length}
use Rattle.smc_words.specs.declared.number.Number.{Number}
use Rattle.smc_core.specs.declared.done.Done.{Done}
use Rattle.smc_core.specs.declared.local.Held.{Held}
use Rattle.smc_trace.specs.Named.{advances, begins, comes_to, enters, leaves, looks, reads, removes, writes}
use Rattle.smc_trace.specs.Trace.{CallEnd}
use Rattle.smc_objects.specs.declared.adding.Full.{Full}
use Rattle.smc_objects.specs.Fulls.{adds}

-- a section, in which calls are made of which this holds
pub record InSection (Inner : List CallEnd → Type 0) (calls : List CallEnd) : Type 0 where
  pub epoch : ℕ
  pub inner : List CallEnd
  pub holds : Inner inner
  pub made : calls ≡ enters epoch ++ (inner ++ leaves)

-- a try to add an object of these words, by its answer
abbrev pub TriesAdd : ℕ → List ℕ → Result Number Full → List CallEnd → Type 0
TriesAdd coll words answer calls = (slot : ℕ) × (calls ≡ adds coll words answer slot)

-- three advances, whatever they answer
pub record AdvancesThrice (calls : List CallEnd) : Type 0 where
  pub first : Done
  pub second : Done
  pub third : Done
  pub made : calls ≡ advances first ++ (advances second ++ advances third)

-- a try that is refused, three advances, and one more try
pub record TriesTwice (coll : ℕ) (words : List ℕ) (answer : Result Number Full) (calls : List CallEnd) : Type 0 where
  pub cause : Full
  pub once : List CallEnd
  pub wait : List CallEnd
  pub again : List CallEnd
  pub refused : InSection (TriesAdd coll words (Err cause)) once
  pub waits : AdvancesThrice wait
  pub tries : InSection (TriesAdd coll words answer) again
  pub made : calls ≡ once ++ (wait ++ again)

-- a row is added: by one try, or, where that is refused, by the one behind three advances
abbrev pub AddsRow : ℕ → List ℕ → Result Number Full → List CallEnd → Type 0
AddsRow coll words answer calls = (IsOk answer × InSection (TriesAdd coll words answer) calls) ⊎ TriesTwice coll words answer calls

-- the fields from this one on are read, which say these words
abbrev pub reads_all : Number → ℕ → List ℕ → List CallEnd
reads_all number field [] = []
reads_all number field (word ∷ later) = reads number field word ++ reads_all number (field + 1) later

-- an object is looked up, and where it is here each of its fields is read
abbrev pub ReadsObject : Number → Bool → List ℕ → List CallEnd → Type 0
ReadsObject number false words calls = calls ≡ looks number None
ReadsObject number true words calls = (slot : ℕ) × (calls ≡ looks number (Some slot) ++ reads_all number 0 words)

-- it is looked up, and where it is here a field is written
abbrev pub SetsField : Number → ℕ → ℕ → Bool → List CallEnd → Type 0
SetsField number field value false calls = calls ≡ looks number None
SetsField number field value true calls = (slot : ℕ) × (calls ≡ looks number (Some slot) ++ writes number field value)

-- it is looked up, and where it is here it is removed; whether this was the call that removed it
abbrev pub RemovesObject : Number → Bool → List CallEnd → Type 0
RemovesObject number gone calls = ((gone ≡ false) × (calls ≡ looks number None)) ⊎ ((slot : ℕ) × (calls ≡ looks number (Some slot) ++ removes number gone))

-- a scan comes to these objects, in this order
abbrev pub visits_all : ℕ → List Held → List CallEnd
visits_all scan [] = []
visits_all scan (held ∷ later) = comes_to scan (Some held) ++ visits_all scan later

-- the objects of a collection are counted: a scan comes to so many, and to its end
pub record CountsObjects (coll count : ℕ) (calls : List CallEnd) : Type 0 where
  pub scan : ℕ
  pub visits : List Held
  pub counted : length visits ≡ count
  pub made : calls ≡ begins scan coll ++ (visits_all scan visits ++ comes_to scan None)

-- What is said of every text.
use Rattle.std.specs.Prelude.{◌≡◌, ◌⊎◌, ℕ, List}
use Rattle.smc_query.specs.Trees.{Word}
use Rattle.smc_types.specs.declared.catalog.Catalog.{Catalog}
use Rattle.smc_script.specs.Scripts.{IsRefused, Outcome, SpellsScript, TextGives}
use Rattle.smc_script.specs.Trees.{ScriptTree}
use Rattle.smc_script.specs.declared.fault.ScriptKind.{ScriptKind}

-- a text gives one outcome at most
abbrev pub GivesOne : Type 0
GivesOne = (catalog : Catalog) (folds : List Word) (text : List ℕ) (one other : Outcome) → TextGives catalog folds text one → TextGives catalog folds text other → one ≡ other

-- a text spells some script
abbrev pub SpellsSome : Catalog → List Word → List ℕ → Type 0
SpellsSome catalog folds text = (script : ScriptTree) × SpellsScript catalog folds text script

-- a text has a first line that is refused
abbrev pub HasRefused : Catalog → List Word → List ℕ → Type 0
HasRefused catalog folds text = (line : ℕ) × (kind : ScriptKind) × IsRefused catalog folds text line kind

-- a text spells a script, or has a first line that is refused
abbrev pub GivesSome : Type 0
GivesSome = (catalog : Catalog) (folds : List Word) (text : List ℕ) → SpellsSome catalog folds text ⊎ HasRefused catalog folds text

-- Folds that a script drops.
use Rattle.std.specs.Prelude.{◌≡◌, ℕ, List, [], ◌++◌, codes}
use Rattle.smc_folds.specs.Kinds.{without_first}
use Rattle.smc_query.specs.Trees.{Word}
use Rattle.smc_trace.specs.Trace.{CallEnd}
use Rattle.smc_replies.specs.Books.{Books}

-- the line that says which fold was dropped
abbrev pub dropped_line : Word → List ℕ
dropped_line name = codes "dropped " ++ name ++ codes "\n"

-- the first fold of the name is left out, which takes no call
pub record DropsFold (name : Word) (old new : Books) (calls : List CallEnd) (text : List ℕ) : Type 0 where
  pub folds : new.folds ≡ without_first old.folds name
  pub names : new.names ≡ old.names
  pub keys : new.keys ≡ old.keys
  pub none : calls ≡ []
  pub reply : text ≡ dropped_line name

-- What a command of a script is given.
use Rattle.std.specs.Prelude.{List}
use Rattle.smc_shape.specs.Layout.{Layout}
use Rattle.smc_folds.specs.Kinds.{Kind}
use Rattle.smc_query.specs.Trees.{Word}
use Rattle.smc_load.specs.Files.{Told}
use Rattle.smc_replies.specs.Books.{Books}
use Rattle.smc_replies.specs.Loads.{Scene}
use Rattle.smc_desk.specs.declared.books.Books as own

-- what is known between commands, where the boxes of the bench are these
abbrev pub seen : own.Books → List Kind → Books
seen books kinds = record { names = books.names; keys = books.keys; folds = kinds }

-- what a script stands in
abbrev pub scene_of : Told → Layout → List Word → Scene
scene_of files shape folds = record { files = files; shape = shape; folds = folds }

-- What the schema of every table keeps.
use Rattle.std.specs.Prelude.{Bool, ◌&&◌, ◌==◌}
use Rattle.smc_types.specs.declared.schema.Schema.{Schema}
use Rattle.smc_types.specs.Columns.{references_last, value_count}

-- the columns of the file stand first, and behind them the references alone
abbrev pub files_first : Schema → Bool
files_first schema = references_last schema.columns && (value_count schema.columns == schema.file)

-- Where the box stands that a name means.
use Rattle.std.specs.Prelude.{ℕ, ◌+◌, List, [], ◌∷◌, Option, None, Some, option_map, if◌then◌else◌}
use Rattle.smc_folds.specs.Kinds.{Kind, has_name}

-- the place of the first box of this name
abbrev pub place_named : List Kind → List ℕ → Option ℕ
place_named [] name = None
place_named (kind ∷ kinds) name = if has_name name kind then Some 0 else option_map (λ n. n + 1) (place_named kinds name)

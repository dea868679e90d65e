-- Which names are names of files in a folder.
use Rattle.std.specs.Prelude.{ℕ, Bool, ◌||◌, not, List}
use Rattle.std.specs.List.{list_all}
use Rattle.std.specs.Path.{parent_dir, path_components, root_dir}
use Rattle.std.specs.Str.{bytes_eq}

-- this part of a name leads out of the folder: it is the root, or two dots
abbrev pub leads_out : List ℕ → Bool
leads_out part = bytes_eq part root_dir || bytes_eq part parent_dir

-- none of these parts leads out of the folder
abbrev pub stay_inside : List (List ℕ) → Bool
stay_inside parts = list_all (λ part. not (leads_out part)) parts

-- the name is one of a file in the folder, or in a folder of it
abbrev pub is_inside : List ℕ → Bool
is_inside name = stay_inside (path_components name)

-- Files of a shelf in memory, one after another.
use Rattle.std.proofs.Common.{◌≡◌, ℕ, ◌+◌, ◌<◌, ◌≤◌, true, false, List, ◌∷◌, length, get_or, drop, suc, add-one, map, Some, None, string_bytes, String, Vec, Global, refl, sym, ap, ◌∙◌, drop_of_length-le}
use Rattle.std.specs.Str.{bytes_eq}
use Rattle.std.proofs.Math.Seq.{drop-cons}
use Rattle.smc_outside.specs.Shelves.{file_named}

-- a file as it stands in memory
abbrev pub File : Type 0
File = String Global × Vec ℕ Global

-- the files as contracts see them
abbrev pub shown : List File → List (List ℕ × List ℕ)
shown files = map (λ file. (string_bytes file.0, file.1.items)) files

module _ (files : List File) (name : List ℕ) (i : ℕ) (file : File) (within : i < length files) (here : file ≡ get_or files i file)
    (so_far : file_named (shown files) name ≡ file_named (shown (drop i files)) name) where
  from_here : drop i files ≡ file ∷ drop (i + 1) files
  from_here = rw (add-one) (drop-cons files i file within ∙ ap (λ first. first ∷ drop (suc i) files) (sym here))

  -- this file has the name
  pub named-here : bytes_eq name (string_bytes file.0) ≡ true → file_named (shown files) name ≡ Some file.1.items
  named-here same = so_far ∙ rw (from_here, same) refl

  -- it has another
  pub named-later : bytes_eq name (string_bytes file.0) ≡ false → file_named (shown files) name ≡ file_named (shown (drop (i + 1) files)) name
  named-later other = so_far ∙ rw (from_here, other) refl

-- no file has the name
pub named-nowhere : (files : List File) (name : List ℕ) (i : ℕ) → length files ≤ i → file_named (shown files) name ≡ file_named (shown (drop i files)) name
    → file_named (shown files) name ≡ None
named-nowhere files name i past so_far = so_far ∙ rw (drop_of_length-le files {i = i} past) refl

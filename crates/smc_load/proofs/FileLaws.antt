-- A file that is read piece by piece.
use Rattle.std.proofs.Common.{◌≡◌, ℕ, ◌<◌, List, [], ◌∷◌, ◌++◌, take, drop, length, Option, Some, None, Ok, refl, sym, subst, ap, ◌∙◌, append_assoc, append-nil, take-append-drop, arith}
use Rattle.std.specs.Prelude.{⊤}
use Rattle.smc_outside.specs.Shelves.{Fetches, FetchesFrom, file_named}
use Rattle.smc_load.specs.Files.{IsFile, Told}

-- the file begins with these bytes, where there is one
abbrev pub StartsFile : Option (List ℕ) → List ℕ → Type 0
StartsFile None bytes = ⊤
StartsFile (Some file) bytes = (later : List ℕ) × (file ≡ bytes ++ later)

-- and that of the name, where the files are told
abbrev pub HasFront : Told → List ℕ → List ℕ → Type 0
HasFront None name bytes = ⊤
HasFront (Some files) name bytes = StartsFile (file_named files name) bytes

drop-front : (bytes later : List ℕ) → drop (length bytes) (bytes ++ later) ≡ later
drop-front [] later = refl
drop-front (byte ∷ bytes) later = drop-front bytes later

empty : (bytes : List ℕ) → length bytes ≡ 0 → bytes ≡ []
empty [] none = refl
empty (byte ∷ bytes) none = absurd (omega (arith, none))

start-none : (file : Option (List ℕ)) → StartsFile file []
start-none None = tt
start-none (Some file) = (file, refl)

start-more : (file : Option (List ℕ)) (bytes : List ℕ) (count : ℕ) (buf : List ℕ) → StartsFile file bytes → FetchesFrom file (length bytes) (Some count) buf → StartsFile file (bytes ++ take count buf)
start-more None bytes count buf so_far piece = absurd piece
start-more (Some file) bytes count buf (later, is) piece =
    let rest : drop (length bytes) file ≡ later = ap (drop (length bytes)) is ∙ drop-front bytes later in
    let given : take count buf ≡ take count later = piece.given ∙ ap (take count) rest in
    (drop count later, is ∙ ap (λ k. bytes ++ k) (sym (take-append-drop count later) ∙ ap (λ k. k ++ drop count later) (sym given)) ∙ sym (append_assoc bytes (take count buf) (drop count later)))

start-end : (file : Option (List ℕ)) (bytes buf : List ℕ) → 0 < length buf → StartsFile file bytes → FetchesFrom file (length bytes) (Some 0) buf → file ≡ Some bytes
start-end None bytes buf room so_far piece = absurd piece
start-end (Some file) bytes buf room (later, is) piece =
    let rest : drop (length bytes) file ≡ later = ap (drop (length bytes)) is ∙ drop-front bytes later in
    let size : length (drop (length bytes) file) ≡ length later = ap length rest in
    go later is size
  where
    go : (later : List ℕ) → file ≡ bytes ++ later → length (drop (length bytes) file) ≡ length later → Some file ≡ Some bytes
    go [] is size = ap Some (is ∙ append-nil bytes)
    go (byte ∷ later) is size =
        let never : 0 < 0 = piece.progress room (omega (arith, size)) in absurd (omega (arith, never))

start-missing : (file : Option (List ℕ)) (at : ℕ) (buf : List ℕ) → FetchesFrom file at None buf → file ≡ None
start-missing None at buf piece = refl
start-missing (Some file) at buf piece = absurd piece

-- ---- of the files of a shelf

-- what was fetched is of the file of that name
fetched : (files : List (List ℕ × List ℕ)) (now : Told) (name : List ℕ) (at place : ℕ) (answer : Option ℕ) (buf : List ℕ) → now ≡ Some files → at ≡ place → Fetches now name at (Ok answer) buf
    → FetchesFrom (file_named files name) place answer buf
fetched files now name at place answer buf kept here piece =
    subst (λ (k : ℕ). FetchesFrom (file_named files name) k answer buf) here (subst (λ (k : Told). Fetches k name at (Ok answer) buf) kept piece)

-- nothing is read yet
pub front-none : (told : Told) (name : List ℕ) → HasFront told name []
front-none None name = tt
front-none (Some files) name = start-none (file_named files name)

-- a piece more
pub front-more : (told now : Told) (name bytes : List ℕ) (at count : ℕ) (buf : List ℕ) → now ≡ told → at ≡ length bytes → HasFront told name bytes → Fetches now name at (Ok (Some count)) buf
    → HasFront told name (bytes ++ take count buf)
front-more None now name bytes at count buf kept here so_far piece = tt
front-more (Some files) now name bytes at count buf kept here so_far piece =
    start-more (file_named files name) bytes count buf so_far (fetched files now name at (length bytes) (Some count) buf kept here piece)

-- all of it
pub front-end : (told now : Told) (name bytes : List ℕ) (at : ℕ) (buf : List ℕ) → now ≡ told → at ≡ length bytes → 0 < length buf → HasFront told name bytes → Fetches now name at (Ok (Some 0)) buf
    → IsFile told name (Some bytes)
front-end None now name bytes at buf kept here room so_far piece = tt
front-end (Some files) now name bytes at buf kept here room so_far piece =
    start-end (file_named files name) bytes buf room so_far (fetched files now name at (length bytes) (Some 0) buf kept here piece)

-- no file
pub front-missing : (told now : Told) (name : List ℕ) (at : ℕ) (buf : List ℕ) → now ≡ told → Fetches now name at (Ok None) buf → IsFile told name None
front-missing None now name at buf kept piece = tt
front-missing (Some files) now name at buf kept piece = start-missing (file_named files name) at buf (fetched files now name at at None buf kept refl piece)

-- Paths and lists are read as they are printed.
use Rattle.std.proofs.Common.{◌≡◌, ℕ, ◌<◌, List, [], ◌∷◌, ◌++◌, length, append_assoc, append-nil, ap, arith}
use Rattle.smc_tokens.specs.declared.token.Token.{Token}
use Rattle.smc_tokens.specs.declared.token.Token.TheVariants.{Name, Word, Sign}
use Rattle.smc_tokens.specs.declared.reserved.Reserved.TheVariants as words
use Rattle.smc_tokens.specs.declared.sign.Sign.{Sign as AnySign}
use Rattle.smc_tokens.specs.declared.sign.Sign.TheVariants as signs
use Rattle.smc_query.specs.Trees.{PathTree, KeyTree}
use Rattle.smc_query.specs.Grammar.{ReadsPath, one_name, more_names, ReadsPaths, one_path, more_paths, ReadsKey, rising, falling, ReadsKeys, one_key, more_keys, ReadsBy, no_by, a_by, ReadsSort, no_sort, a_sort}
use Rattle.smc_print.specs.Printed.{listed, path_tokens, key_tokens, by_tokens, sort_tokens}
use Rattle.smc_print.proofs.WriteLaws.{listed_next, between_later}

-- one more part of a list that has parts stands behind the sign, before what follows
pub listed_later : {A : Type 0} (sign : AnySign) (tokens : A → List Token) (parts : List A) (part : A) (rest : List Token) → 0 < length parts
    → listed sign tokens (parts ++ part ∷ []) ++ rest ≡ listed sign tokens parts ++ Sign sign ∷ (tokens part ++ rest)
listed_later sign tokens parts part rest some =
    let next = listed_next sign tokens parts part in
    let later = between_later (length parts) sign some in
    rw (next, later) (append_assoc (listed sign tokens parts) (Sign sign ∷ tokens part) rest)

-- one part alone
pub listed_one : {A : Type 0} (sign : AnySign) (tokens : A → List Token) (part : A) (rest : List Token) → listed sign tokens (part ∷ []) ++ rest ≡ tokens part ++ rest
listed_one sign tokens part rest = ap (λ ts. ts ++ rest) (append-nil (tokens part))

-- a list has more with one more
pub some_more : {A : Type 0} (parts : List A) (part : A) → 0 < length (parts ++ part ∷ [])
some_more [] part = omega arith
some_more (first ∷ parts) part = omega arith

-- ---- paths

pub path_some : {s r : List Token} {p : PathTree} → ReadsPath s p r → 0 < length p
path_some one_name = omega arith
path_some (more_names {p = p} {n = n} before) = some_more p n

pub path_prints : {s r : List Token} {p : PathTree} → ReadsPath s p r → (rest : List Token) → ReadsPath (path_tokens p ++ rest) p rest
path_prints one_name rest = one_name
path_prints (more_names {p = p} {n = n} before) rest =
    let later = listed_later signs.Dot (λ (name : List ℕ). Name name ∷ []) p n rest (path_some before) in
    rw later (more_names (path_prints before (Sign signs.Dot ∷ (Name n ∷ rest))))

pub paths_some : {s r : List Token} {ps : List PathTree} → ReadsPaths s ps r → 0 < length ps
paths_some (one_path path) = omega arith
paths_some (more_paths {ps = ps} {p = p} before path) = some_more ps p

paths_print : {s r : List Token} {ps : List PathTree} → ReadsPaths s ps r → (rest : List Token) → ReadsPaths (listed signs.Comma path_tokens ps ++ rest) ps rest
paths_print (one_path {p = p} path) rest = rw (listed_one signs.Comma path_tokens p rest) (one_path (path_prints path rest))
paths_print (more_paths {ps = ps} {p = p} before path) rest =
    rw (listed_later signs.Comma path_tokens ps p rest (paths_some before)) (more_paths (paths_print before (Sign signs.Comma ∷ (path_tokens p ++ rest))) (path_prints path rest))

by_prints_some : (ps : List PathTree) (rest : List Token) → 0 < length ps → ReadsPaths (listed signs.Comma path_tokens ps ++ rest) ps rest → ReadsBy (by_tokens ps ++ rest) ps rest
by_prints_some [] rest some prints = absurd (omega arith)
by_prints_some (p ∷ ps) rest some prints = a_by prints

pub by_prints : {s r : List Token} {ps : List PathTree} → ReadsBy s ps r → (rest : List Token) → ReadsBy (by_tokens ps ++ rest) ps rest
by_prints no_by rest = no_by
by_prints (a_by {ps = ps} paths) rest = by_prints_some ps rest (paths_some paths) (paths_print paths rest)

-- ---- sort keys

key_prints : {s r : List Token} {k : KeyTree} → ReadsKey s k r → (rest : List Token) → ReadsKey (key_tokens k ++ rest) k rest
key_prints (rising {p = p} path) rest = rw (append-nil (path_tokens p)) (rising (path_prints path rest))
key_prints (falling {p = p} path) rest = rw (append_assoc (path_tokens p) (Word words.Desc ∷ []) rest) (falling (path_prints path (Word words.Desc ∷ rest)))

pub keys_some : {s r : List Token} {ks : List KeyTree} → ReadsKeys s ks r → 0 < length ks
keys_some (one_key key) = omega arith
keys_some (more_keys {ks = ks} {k = k} before key) = some_more ks k

keys_print : {s r : List Token} {ks : List KeyTree} → ReadsKeys s ks r → (rest : List Token) → ReadsKeys (listed signs.Comma key_tokens ks ++ rest) ks rest
keys_print (one_key {k = k} key) rest = rw (listed_one signs.Comma key_tokens k rest) (one_key (key_prints key rest))
keys_print (more_keys {ks = ks} {k = k} before key) rest =
    rw (listed_later signs.Comma key_tokens ks k rest (keys_some before)) (more_keys (keys_print before (Sign signs.Comma ∷ (key_tokens k ++ rest))) (key_prints key rest))

sort_prints_some : (ks : List KeyTree) (rest : List Token) → 0 < length ks → ReadsKeys (listed signs.Comma key_tokens ks ++ rest) ks rest → ReadsSort (sort_tokens ks ++ rest) ks rest
sort_prints_some [] rest some prints = absurd (omega arith)
sort_prints_some (k ∷ ks) rest some prints = a_sort prints

pub sort_prints : {s r : List Token} {ks : List KeyTree} → ReadsSort s ks r → (rest : List Token) → ReadsSort (sort_tokens ks ++ rest) ks rest
sort_prints no_sort rest = no_sort
sort_prints (a_sort {ks = ks} keys) rest = sort_prints_some ks rest (keys_some keys) (keys_print keys rest)

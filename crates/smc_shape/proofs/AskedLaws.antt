-- What a shape that is asked for has, where no fault is found in it.
use Rattle.std.proofs.Common.{◌≡◌, ◌↔◌, ℕ, ◌+◌, ◌%◌, ◌<◌, ◌≤◌, zero, suc, List, [], ◌∷◌, length, map, take, get_or, Option, Some, None, refl, sym, ap, subst, arith, sum_by}
use Rattle.std.specs.Option.{option_or}
use Rattle.std.proofs.lemmas.Bool.Decides.{nat_tests}
use Rattle.std.proofs.lemmas.List.{get_or-map, length-map, take_all}
use Rattle.std.proofs.lemmas.List.Sums.{sum_by_more}
use Rattle.smc_shape.specs.declared.coll.CollShape.{CollShape}
use Rattle.smc_shape.specs.declared.coll.TheConstants.{MAX_WIDTH, BLOCK_SLOTS}
use Rattle.smc_shape.specs.declared.shape.TheConstants.{FIRST_SECTION, MAX_COLLS, MAX_PASSES, MAX_WORDS}
use Rattle.smc_shape.specs.Layout.{Collection, IsCollection, IsShape, asked, asked_coll, no_coll, coll_of, coll_words, words_of}
use Rattle.smc_shape.specs.Faults.{count_fault, passes_fault, width_fault, slots_fault, coll_fault, colls_fault, size_fault, fault_of}
use Rattle.smc_shape.specs.Places.{start_of}

-- what stands where no collection is
abbrev pub none_asked : CollShape
none_asked = record { width = 0; slots = 0 }

-- of two tests none finds a fault exactly where neither does
or-none : {A : Type 0} (o p : Option A) → (option_or o p ≡ None) ↔ ((o ≡ None) × (p ≡ None))
or-none None p = (λ none. (refl, none), λ none. none.1)
or-none (Some x) p = (λ none. (none, cc), λ none. none.0)

-- what each test lets pass
count-none : (colls : ℕ) → (count_fault colls ≡ None) ↔ ((0 < colls) × (colls ≤ MAX_COLLS))
count-none colls = (λ none. grind (arith, nat_tests), λ some. grind (arith, nat_tests))

passes-none : (passes : ℕ) → (passes_fault passes ≡ None) ↔ ((0 < passes) × (passes ≤ MAX_PASSES))
passes-none passes = (λ none. grind (arith, nat_tests), λ some. grind (arith, nat_tests))

width-none : (width : ℕ) → (width_fault width ≡ None) ↔ ((0 < width) × (width ≤ MAX_WIDTH))
width-none width = (λ none. grind (arith, nat_tests), λ some. grind (arith, nat_tests))

slots-none : (slots : ℕ) → (slots_fault slots ≡ None) ↔ ((0 < slots) × (slots % BLOCK_SLOTS ≡ 0))
slots-none slots = (λ none. grind (arith, nat_tests), λ some. grind (arith, nat_tests))

size-none : (words : ℕ) → (size_fault words ≡ None) ↔ (words ≤ MAX_WORDS)
size-none words = (λ none. grind (arith, nat_tests), λ few. grind (arith, nat_tests))

-- where no collection has a fault, this one has none
pub no-coll_fault : (colls : List CollShape) (c : ℕ) → colls_fault colls ≡ None → c < length colls → coll_fault (get_or colls c none_asked) ≡ None
no-coll_fault [] c none l = absurd (omega arith)
no-coll_fault (x ∷ xs) zero none l = ((or-none (coll_fault x) (colls_fault xs)).0 none).0
no-coll_fault (x ∷ xs) (suc c) none l = no-coll_fault xs c ((or-none (coll_fault x) (colls_fault xs)).0 none).1 (omega arith)

-- a collection without a fault keeps what every collection keeps
pub sound-coll : (coll : CollShape) → coll_fault coll ≡ None → IsCollection (asked_coll coll)
sound-coll coll none =
    let sound = (or-none (width_fault coll.width) (slots_fault coll.slots)).0 none in
    let width = (width-none coll.width).0 sound.0 in
    let slots = (slots-none coll.slots).0 sound.1 in
    record { some_width = width.0; width = width.1; some_slots = slots.0; slots = slots.1; entries = slots.1; room = omega arith }

-- and its records are within the widest
pub asked-width : (colls : List CollShape) (c : ℕ) → colls_fault colls ≡ None → c < length colls → (get_or colls c none_asked).width ≤ MAX_WIDTH
asked-width colls c none l = (sound-coll (get_or colls c none_asked) (no-coll_fault colls c none l)).width

-- where the shape has no fault, no collection has one
pub no-colls_fault : (passes : ℕ) (colls : List CollShape) → fault_of passes colls ≡ None → colls_fault colls ≡ None
no-colls_fault passes colls none =
    let count = (or-none (count_fault (length colls)) _).0 none in
    let pass = (or-none (passes_fault passes) _).0 count.1 in
    ((or-none (colls_fault colls) _).0 pass.1).0

-- the collection with this index is the one that was asked for
pub asked-coll_of : (passes : ℕ) (colls : List CollShape) (c : ℕ) → c < length colls → coll_of (asked passes colls) c ≡ asked_coll (get_or colls c none_asked)
asked-coll_of passes colls c l = get_or-map asked_coll colls c none_asked no_coll l

-- a collection begins where the one before it ends
pub start_of-next : (passes : ℕ) (colls : List CollShape) (c : ℕ) → c < length colls
    → start_of (asked passes colls) (c + 1) ≡ start_of (asked passes colls) c + coll_words (asked_coll (get_or colls c none_asked))
start_of-next passes colls c l =
    let few : c < length (map asked_coll colls) = rw length-map l in
    let more = sum_by_more coll_words (map asked_coll colls) c no_coll few in
    let here = asked-coll_of passes colls c l in
    omega (arith, more, ap coll_words here)

-- the row ends where the last collection ends
pub start_of-last : (passes : ℕ) (colls : List CollShape) → start_of (asked passes colls) (length colls) ≡ words_of (asked passes colls)
unfolding words_of
start_of-last passes colls =
    let whole : take (length colls) (map asked_coll colls) ≡ map asked_coll colls = take_all (length colls) (map asked_coll colls) (rw length-map (omega arith)) in
    ap (λ xs. FIRST_SECTION + passes + sum_by coll_words xs) whole

-- a shape without a fault keeps what every shape keeps
pub no-fault_of : (passes : ℕ) (colls : List CollShape) → fault_of passes colls ≡ None → IsShape (asked passes colls)
no-fault_of passes colls none =
    let count = (or-none (count_fault (length colls)) _).0 none in
    let pass = (or-none (passes_fault passes) _).0 count.1 in
    let rest = (or-none (colls_fault colls) _).0 pass.1 in
    let many = (count-none (length colls)).0 count.0 in
    let some = (passes-none passes).0 pass.0 in
    record {
      some_pass = some.0;
      passes = some.1;
      some_coll = rw length-map many.0;
      colls = rw length-map many.1;
      coll = λ c l.
          let l' : c < length colls = rw length-map at l in
          let sound = sound-coll (get_or colls c none_asked) (no-coll_fault colls c rest.0 l') in
          subst (λ (coll : Collection). IsCollection coll) (sym (asked-coll_of passes colls c l')) sound;
      words = (size-none (words_of (asked passes colls))).0 rest.1;
    }

-- a collection that keeps what every collection keeps has no fault
coll_fault-none : (coll : CollShape) → IsCollection (asked_coll coll) → coll_fault coll ≡ None
coll_fault-none coll sound =
    (or-none (width_fault coll.width) (slots_fault coll.slots)).1
    ((width-none coll.width).1 (sound.some_width, sound.width), (slots-none coll.slots).1 (sound.some_slots, sound.slots))

-- where none of them has a fault, no collection has one
colls_fault-none : (colls : List CollShape) → ((c : ℕ) → c < length colls → coll_fault (get_or colls c none_asked) ≡ None) → colls_fault colls ≡ None
colls_fault-none [] each = refl
colls_fault-none (x ∷ xs) each =
    (or-none (coll_fault x) (colls_fault xs)).1 (each zero (omega arith), colls_fault-none xs (λ c l. each (suc c) (omega arith)))

-- a shape that keeps what every shape keeps has no fault
pub fault_of-none : (passes : ℕ) (colls : List CollShape) → IsShape (asked passes colls) → fault_of passes colls ≡ None
fault_of-none passes colls valid =
    let some : 0 < length colls = rw length-map at valid.some_coll in
    let few : length colls ≤ MAX_COLLS = rw length-map at valid.colls in
    let each : (c : ℕ) → c < length colls → coll_fault (get_or colls c none_asked) ≡ None = λ c l.
    let l' : c < length (map asked_coll colls) = rw length-map l in
    coll_fault-none (get_or colls c none_asked)
    (subst (λ (coll : Collection). IsCollection coll) (asked-coll_of passes colls c l) (valid.coll c l')) in
    (or-none (count_fault (length colls)) _).1 (
      (count-none (length colls)).1 (some, few),
      (or-none (passes_fault passes) _).1 (
        (passes-none passes).1 (valid.some_pass, valid.passes),
        (or-none (colls_fault colls) _).1 (colls_fault-none colls each, (size-none (words_of (asked passes colls))).1 valid.words),
      ),
    )

-- A script that was read may be run, where all its commands are known.
use Rattle.std.proofs.Common.{◌≡◌, ℕ, zero, suc, ◌<◌, Bool, true, false, List, [], ◌∷◌, inl, inr, Option, Some, None, length, map, refl, sym, subst, ap, ◌∙◌, arith}
use Rattle.std.specs.Option.{option_or}
use Rattle.std.specs.Prelude.{if◌then◌else◌, slice_get}
use Rattle.std.specs.List.{AllByRecursion}
use Rattle.std.proofs.lemmas.Bool.Decides.{nat_tests}
use Rattle.std.proofs.lemmas.List.{length-map}
use Rattle.smc_shape.specs.declared.coll.CollShape.{CollShape}
use Rattle.smc_shape.specs.Faults.{colls_fault, count_fault, fault_of, passes_fault, size_fault, width_fault}
use Rattle.smc_shape.specs.Layout.{asked, asked_coll, width_of, words_of}
use Rattle.smc_query.specs.Trees.{Word}
use Rattle.smc_types.specs.Tables.{the_tables}
use Rattle.smc_types.specs.declared.schema.Schema.{Schema}
use Rattle.smc_script.specs.Sound.{EachCommand, IsFit, IsPlaced, IsPlacedAmong, IsRoomPlace, Opens, coll_of_room}
use Rattle.smc_script.specs.Tables.{schema_of, table_width, width_by}
use Rattle.smc_script.specs.declared.script.Place.{Place}
use Rattle.smc_script.specs.Trees.{CommandTree, PartTree, add, compact, delete, drop_fold, get, load, one, group, query, remove, set, stat, update}
use Rattle.smc_script.specs.declared.script.Room.{Room}
use Rattle.smc_replies.specs.Commands.{CanRun, IsCollOf, IsTableOf, is_known}
use Rattle.smc_replies.specs.Scripts.{CanRunPart, is_known_part, line_of, unknown_line}
use Rattle.smc_runner.specs.Runs.{MayOpen, colls_asked, shape_asked}

-- ---- the rooms

-- the collections of the region are as many as the rooms
colls-many : (rooms : List Room) → length (shape_asked rooms).colls ≡ length rooms
colls-many rooms = length-map (colls_asked rooms) asked_coll ∙ length-map rooms (coll_of_room the_tables)

-- a room that stands among them
room-within : (rooms : List Room) (i : ℕ) (room : Room) → slice_get rooms i ≡ Some room → i < length rooms
room-within [] i room there = absurd cc
room-within (first ∷ rooms) zero room there = omega arith
room-within (first ∷ rooms) (suc i) room there = let h = room-within rooms i room there in omega (arith, h)

-- its collection is as wide as the records of its table
room-width : (rooms : List Room) (i : ℕ) (room : Room) → slice_get rooms i ≡ Some room → width_of (shape_asked rooms) i ≡ table_width the_tables room.place.table
room-width [] i room there = absurd cc
room-width (first ∷ rooms) zero room there = let same : first ≡ room = cc in ap (λ (x : Room). table_width the_tables x.place.table) same
room-width (first ∷ rooms) (suc i) room there = room-width rooms i room there

-- where neither of two faults is there
or-none : {A : Type 0} (a b : Option A) → option_or a b ≡ None → (a ≡ None) × (b ≡ None)
or-none None b is = (refl, is)
or-none (Some x) b is = absurd cc

some-width : (width : ℕ) → width_fault width ≡ None → 0 < width
some-width width none = grind (arith, nat_tests, none)

-- a region that may have it has records of some width
room-wide : (rooms : List Room) (i : ℕ) (room : Room) → colls_fault (colls_asked rooms) ≡ None → slice_get rooms i ≡ Some room → 0 < table_width the_tables room.place.table
room-wide [] i room none there = absurd cc
room-wide (first ∷ rooms) zero room none there =
    let same : first ≡ room = cc in
    let one = (or-none _ _ (or-none _ _ none).0).0 in
    subst (λ (x : Room). 0 < table_width the_tables x.place.table) same (some-width (table_width the_tables first.place.table) one)
room-wide (first ∷ rooms) (suc i) room none there = room-wide rooms i room (or-none _ _ none).1 there

-- a table of some width is there
has-schema : (by : Option Schema) → 0 < width_by by → (schema : Schema) × (by ≡ Some schema)
has-schema None some = absurd (omega (arith, some))
has-schema (Some schema) some = (schema, refl)

-- the collections of a region that there may be
colls-good : (colls : List CollShape) → fault_of 1 colls ≡ None → colls_fault colls ≡ None
colls-good colls none =
    let size = size_fault (words_of (asked 1 colls)) in
    let rest = option_or (colls_fault colls) size in
    let passes = or-none (count_fault (length colls)) (option_or (passes_fault 1) rest) none in
    (or-none (colls_fault colls) size (or-none (passes_fault 1) rest passes.1).1).0

-- the region of rooms that it may have
pub opens-may : (rooms : List Room) → Opens (map (coll_of_room the_tables) rooms) → MayOpen rooms
opens-may [] opens = tt
opens-may (first ∷ rooms) (inl none) = absurd cc
opens-may (first ∷ rooms) (inr each) = each 1 (omega arith) (omega arith)

coll-of : (rooms : List Room) (place : Place) → IsRoomPlace rooms place → IsCollOf (shape_asked rooms) place
coll-of rooms place is = let at = room-within rooms place.coll is.room is.there in omega (arith, at, colls-many rooms)

-- the place of a room is that of a table of the region
table-of : (rooms : List Room) (place : Place) → MayOpen rooms → IsRoomPlace rooms place → IsTableOf (shape_asked rooms) place
table-of [] place opens is = let at = room-within [] place.coll is.room is.there in absurd (omega (arith, at))
table-of (first ∷ rooms) place opens is =
    let all : List Room = first ∷ rooms in
    let none = colls-good (colls_asked all) opens in
    let width = room-width all place.coll is.room is.there in
    let table : is.room.place.table ≡ place.table = ap (λ (p : Place). p.table) is.same in
    let wide : 0 < table_width the_tables place.table = subst (λ (k : ℕ). 0 < table_width the_tables k) table (room-wide all place.coll is.room none is.there) in
    let found = has-schema (schema_of the_tables place.table) wide in
    record {
      schema = found.0;
      is = found.1;
      coll = coll-of all place is;
      width = sym (ap width_by found.1) ∙ sym (width ∙ ap (λ (k : ℕ). table_width the_tables k) table);
    }

-- ---- before the run

no-test : false ≡ true → ⊥
no-test is = cc

no-line : (line : ℕ) → Some line ≡ None → ⊥
no-line line is = cc

-- a part that is known, placed in a room, and fit for its table may be run
part-may : (folds : List Word) (rooms : List Room) (part : PartTree) → MayOpen rooms → IsPlaced rooms part → EachCommand (IsFit the_tables) part → is_known_part folds part ≡ true → CanRunPart (shape_asked rooms) folds part
part-may folds rooms (one numbered) opens placed fits known = go numbered.command placed fits known
  where
    go : (c : CommandTree) → IsPlacedAmong rooms c → IsFit the_tables c → is_known folds c ≡ true → CanRun (shape_asked rooms) folds c
    go (load place file) placed fits known = table-of rooms place opens placed
    go (stat place) placed fits known = coll-of rooms place placed
    go (compact place) placed fits known = coll-of rooms place placed
    go (query place tree) placed fits known = (known, coll-of rooms place placed)
    go (delete place filter) placed fits known = (known, coll-of rooms place placed)
    go (update place column value filter) placed fits known = (known, table-of rooms place opens placed)
    go (add place name row) placed fits known = (table-of rooms place opens placed, fits)
    go (get place name) placed fits known = table-of rooms place opens placed
    go (set place name column value) placed fits known = (table-of rooms place opens placed, fits)
    go (remove place name) placed fits known = coll-of rooms place placed
    go (drop_fold name) placed fits known = tt
part-may folds rooms (group workers) opens placed fits known = absurd (no-test known)

-- so may all parts of a script without a command that is not run
pub all-may : (folds : List Word) (rooms : List Room) (parts : List PartTree) → MayOpen rooms → AllByRecursion (IsPlaced rooms) parts → AllByRecursion (EachCommand (IsFit the_tables)) parts → unknown_line folds parts ≡ None
    → AllByRecursion (CanRunPart (shape_asked rooms) folds) parts
all-may folds rooms [] opens all fits none = tt
all-may folds rooms (part ∷ later) opens all fits none = go (is_known_part folds part) refl none (λ rest. all-may folds rooms later opens all.1 fits.1 rest)
  where
    go : (known : Bool) → is_known_part folds part ≡ known → (if known then unknown_line folds later else Some (line_of part)) ≡ None
        → (unknown_line folds later ≡ None → AllByRecursion (CanRunPart (shape_asked rooms) folds) later) → AllByRecursion (CanRunPart (shape_asked rooms) folds) (part ∷ later)
    go true is none rest = (part-may folds rooms part opens all.0 fits.0 is, rest none)
    go false is none rest = absurd (no-line (line_of part) none)

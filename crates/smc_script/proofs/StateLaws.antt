-- Rooms that a region has are few.
use Rattle.std.proofs.Common.{◌≡◌, ℕ, ◌≤◌, List, length, Bool, true, false, Option, None, Some, Result, Ok, Err, OnOk, refl, subst}
use Rattle.std.proofs.lemmas.Bool.{ltb-false}
use Rattle.std.proofs.lemmas.List.{length-map}
use Rattle.std.specs.Prelude.{is_some, ◌||◌, ◌==◌, nat_lt, if◌then◌else◌}
use Rattle.std.specs.Option.{option_or}
use Rattle.smc_shape.specs.Faults.{colls_fault, fault_of, passes_fault, size_fault}
use Rattle.smc_shape.specs.Layout.{asked, words_of}
use Rattle.smc_shape.specs.declared.fault.ShapeFault.{ShapeFault}
use Rattle.smc_shape.specs.declared.fault.ShapeFault.TheVariants.{NoCollections, TooManyCollections}
use Rattle.smc_shape.specs.declared.coll.CollShape.{CollShape}
use Rattle.smc_shape.specs.declared.shape.TheConstants.{MAX_COLLS, MAX_PASSES}
use Rattle.smc_types.specs.declared.catalog.Catalog.{Catalog}
use Rattle.smc_script.specs.Faults.{fault_where, has_room, is_doing, is_too_large, room_fault}
use Rattle.smc_script.specs.Says.{room}
use Rattle.smc_script.specs.States.{ReadState, coll_asked, colls_of, with_room}
use Rattle.smc_script.specs.declared.fault.ScriptKind.{ScriptKind}
use Rattle.smc_script.specs.declared.fault.ScriptKind.TheVariants.{Room}
use Rattle.smc_script.specs.declared.state.Asked.{Asked}

-- where a test gives no kind it fails
pub fault-none : (test : Bool) (kind : ScriptKind) → fault_where test kind ≡ None → test ≡ false
fault-none true kind is = absurd cc
fault-none false kind is = refl

-- where none of three holds the last doesn't
pub none-last : (a b c : Bool) → (a || b || c) ≡ false → c ≡ false
none-last true b c is = absurd cc
none-last false true c is = absurd cc
none-last false false c is = is

-- nothing is there where that is said
pub none-there : {A : Type 0} (o : Option A) → is_some o ≡ false → o ≡ None
none-there None is = refl
none-there (Some x) is = absurd cc

-- where a number of collections is not refused, it is not too great
count-none : (zero big : Bool) (rest : Option ShapeFault)
    → option_or (if zero then (Some NoCollections) else if big then (Some TooManyCollections) else None) rest ≡ None → big ≡ false
count-none true big rest is = absurd cc
count-none false true rest is = absurd cc
count-none false false rest is = refl

-- rooms that fit a region are those of no more collections than a region has
pub colls-few : (passes : ℕ) (colls : List CollShape) → fault_of passes colls ≡ None → length colls ≤ MAX_COLLS
colls-few passes colls is =
    ltb-false MAX_COLLS (length colls) (count-none (length colls == 0) (nat_lt MAX_COLLS (length colls))
    (option_or (passes_fault passes) (option_or (colls_fault colls) (size_fault (words_of (asked passes colls))))) is)

-- a room that is not refused leaves the rooms few
pub rooms-few : (catalog : Catalog) (state : ReadState) (table slots : ℕ) → room_fault catalog state (room table (Some slots)) ≡ None
    → length (with_room (record { table = table; slots = slots }) state.rooms) ≤ MAX_COLLS
rooms-few catalog state table slots is =
    let rooms : List Asked = with_room (record { table = table; slots = slots }) state.rooms in
    let test : is_too_large catalog rooms ≡ false =
    none-last (is_doing state.phase) (has_room state.rooms table) (is_too_large catalog rooms)
    (fault-none (is_doing state.phase || has_room state.rooms table || is_too_large catalog rooms) Room is) in
    let few = colls-few MAX_PASSES (colls_of catalog rooms) (none-there (fault_of MAX_PASSES (colls_of catalog rooms)) test) in
    subst (λ (n : ℕ). n ≤ MAX_COLLS) (length-map rooms (coll_asked catalog)) few

-- what holds where a call is done, of each catalog, holds of this one
pub each-ok : {T F : Type 0} (answer : Result T F) (holds : Catalog → Type 0) (catalog : Catalog) → OnOk answer ((other : Catalog) → holds other) → OnOk answer (holds catalog)
each-ok (Ok done) holds catalog each = each catalog
each-ok (Err fault) holds catalog each = tt

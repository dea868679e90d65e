-- What commands on one object reply, and what they make of the world.
use Rattle.std.proofs.Common.{◌≡◌, ℕ, Bool, true, false, Option, Some, None, List, [], ◌∷◌, inl, inr, sym, subst, ap, ◌∙◌}
use Rattle.std.specs.Prelude.{if◌then◌else◌, codes, slice_index, option_and_then, option_map}
use Rattle.smc_words.specs.declared.number.Number.{Number}
use Rattle.smc_model.specs.declared.event.Event.{Event}
use Rattle.smc_model.specs.declared.event.Event.TheVariants.{Look, Remove, Write}
use Rattle.smc_model.specs.World.{World, Replay, is_present, world_after, world_through}
use Rattle.smc_trace.specs.Named.{looks, removes, writes}
use Rattle.smc_trace.specs.Trace.{CallEnd, events_in}
use Rattle.smc_trace.proofs.TraceSteps.{events_in-append}
use Rattle.smc_objects.specs.Alone.{RemovesObject, SetsField}
use Rattle.smc_query.specs.Trees.{Word}
use Rattle.smc_types.specs.Records.{value_words}
use Rattle.smc_types.specs.declared.column.Column.{Column}
use Rattle.smc_types.specs.declared.row.Value.{Value}
use Rattle.smc_types.specs.declared.schema.Schema.{Schema}
use Rattle.smc_load.specs.Loading.{place_of}
use Rattle.smc_replies.specs.Objects.{OnObject, RemovesNamed, SetsBy, SetsObject, found_line, null_line}
use Rattle.smc_plain.specs.Objects.{after, remove_in, remove_text, set_in, set_text, write_at, write_of}
use Rattle.smc_plain.specs.Plain.{Plain, replies, on_object, by_schema}
use Rattle.smc_plain.proofs.Sections.{section-world, section-replay}

-- the same world and the same reply
pub same-turn : (plain : Plain) (next world : World) (text said : List ℕ) → next ≡ world → text ≡ said → replies (record plain { world = next }) text ≡ replies (record plain { world = world }) said
same-turn plain next world text said a b = λ i. replies (record plain { world = a i }) (b i)

-- what is done only with what is present
chosen : {A : Type 0} (b here : Bool) (x y : A) → b ≡ here → (if here then x else y) ≡ (if b then x else y)
chosen b here x y is = ap (λ (h : Bool). if h then x else y) (sym is)

-- a command on a name without an object does nothing
pub on-none : (plain : Plain) (calls : List CallEnd) (text : List ℕ) → calls ≡ [] → text ≡ null_line
    → replies plain null_line ≡ replies (record plain { world = world_through plain.world (events_in calls) }) text
on-none plain calls text none null =
    same-turn plain plain.world (world_through plain.world (events_in calls)) null_line text (ap (λ (x : List CallEnd). world_through plain.world (events_in x)) (sym none)) (sym null)

-- ---- remove

remove-inner : (world : World) (number : Number) (gone : Bool) (inner : List CallEnd) → RemovesObject number gone inner → Replay world (events_in inner) (world_through world (events_in inner))
    → (remove_in world number ≡ world_through world (events_in inner)) × (gone ≡ is_present world number)
remove-inner world number gone inner (inl (late, made)) replay =
    let said = subst (λ (cs : List CallEnd). Replay world (events_in cs) (world_through world (events_in cs))) made replay in (
      chosen false (is_present world number) (world_after world (Remove number true)) world said.0 ∙ ap (λ (cs : List CallEnd). world_through world (events_in cs)) (sym made),
      late ∙ said.0,
    )
remove-inner world number gone inner (inr (slot, made)) replay =
    let is : events_in inner ≡ Look number true ∷ Remove number gone ∷ [] = ap events_in made ∙ events_in-append (looks number (Some slot)) (removes number gone) in
    let said = subst (λ (es : List Event). Replay world es (world_through world es)) is replay in (
      chosen true (is_present world number) (world_after world (Remove number true)) world said.0 ∙ ap (world_through world) (sym is),
      said.1.0.1,
    )

remove-object : (plain : Plain) (number : Number) (calls : List CallEnd) (text : List ℕ) (last : World) → RemovesNamed number calls text → Replay plain.world (events_in calls) last
    → replies (record plain { world = remove_in plain.world number }) (remove_text plain.world number) ≡ replies (record plain { world = world_through plain.world (events_in calls) }) text
remove-object plain number calls text last removes replay =
    let inner = remove-inner plain.world number removes.gone removes.removes.inner removes.removes.holds (section-replay calls removes.removes plain.world last replay) in
    same-turn plain (remove_in plain.world number) (world_through plain.world (events_in calls)) (remove_text plain.world number) text
    (inner.0 ∙ sym (section-world calls removes.removes plain.world))
    (ap (λ (b : Bool). found_line b (codes "removed\n")) (sym inner.1) ∙ sym removes.reply)

pub remove-turn : (plain : Plain) (found : Option Number) (calls : List CallEnd) (text : List ℕ) (last : World) → OnObject found RemovesNamed calls text → Replay plain.world (events_in calls) last
    → on_object found (λ number. replies (record plain { world = remove_in plain.world number }) (remove_text plain.world number)) plain
    ≡ replies (record plain { world = world_through plain.world (events_in calls) }) text
remove-turn plain None calls text last runs replay = on-none plain calls text runs.0 runs.1
remove-turn plain (Some number) calls text last runs replay = remove-object plain number calls text last runs replay

-- ---- set

set-inner : (world : World) (number : Number) (field word : ℕ) (found : Bool) (inner : List CallEnd) → SetsField number field word found inner
    → Replay world (events_in inner) (world_through world (events_in inner))
    → ((if is_present world number then world_after world (Write number field word) else world) ≡ world_through world (events_in inner)) × (found ≡ is_present world number)
set-inner world number field word false inner made replay =
    let said = subst (λ (cs : List CallEnd). Replay world (events_in cs) (world_through world (events_in cs))) made replay in (
      chosen false (is_present world number) (world_after world (Write number field word)) world said.0 ∙ ap (λ (cs : List CallEnd). world_through world (events_in cs)) (sym made),
      said.0,
    )
set-inner world number field word true inner (slot, made) replay =
    let is : events_in inner ≡ Look number true ∷ Write number field word ∷ [] = ap events_in made ∙ events_in-append (looks number (Some slot)) (writes number field word) in
    let said = subst (λ (es : List Event). Replay world es (world_through world es)) is replay in (
      chosen true (is_present world number) (world_after world (Write number field word)) world said.0 ∙ ap (world_through world) (sym is),
      said.0,
    )

-- the write that a set makes
write-is : (columns : List Column) (name : Word) (value : Value) (number : Number) (calls : List CallEnd) (text : List ℕ) (sets : SetsObject columns name value number calls text)
    → write_of columns name value number ≡ Some (Write number (place_of columns sets.at) sets.word)
write-is columns name value number calls text sets =
    ap (λ (o : Option ℕ). option_and_then (write_at columns value number) o) sets.named
    ∙ ap (λ (o : Option Column). option_map (λ (column : Column). Write number (place_of columns sets.at) (slice_index (value_words column.kind value) 0)) o) sets.there
    ∙ ap (λ (words : List ℕ). Some (Write number (place_of columns sets.at) (slice_index words 0))) sets.is

set-object : (plain : Plain) (columns : List Column) (name : Word) (value : Value) (number : Number) (calls : List CallEnd) (text : List ℕ) (last : World)
    → SetsObject columns name value number calls text → Replay plain.world (events_in calls) last
    → replies (record plain { world = set_in columns name value plain.world number }) (set_text plain.world number) ≡ replies (record plain { world = world_through plain.world (events_in calls) }) text
set-object plain columns name value number calls text last sets replay =
    let inner = set-inner plain.world number (place_of columns sets.at) sets.word sets.found sets.sets.inner sets.sets.holds (section-replay calls sets.sets plain.world last replay) in
    same-turn plain (set_in columns name value plain.world number) (world_through plain.world (events_in calls)) (set_text plain.world number) text
    (ap (λ (o : Option Event). if is_present plain.world number then after plain.world o else plain.world) (write-is columns name value number calls text sets)
    ∙ inner.0 ∙ sym (section-world calls sets.sets plain.world))
    (ap (λ (b : Bool). found_line b (codes "set\n")) (sym inner.1) ∙ sym sets.reply)

pub set-turn : (plain : Plain) (by : Option Schema) (name : Word) (value : Value) (found : Option Number) (calls : List CallEnd) (text : List ℕ) (last : World)
    → OnObject found (SetsBy by name value) calls text → Replay plain.world (events_in calls) last
    → on_object found (λ number. by_schema by (λ (schema : Schema). replies (record plain { world = set_in schema.columns name value plain.world number }) (set_text plain.world number)) plain) plain
    ≡ replies (record plain { world = world_through plain.world (events_in calls) }) text
set-turn plain by name value None calls text last runs replay = on-none plain calls text runs.0 runs.1
set-turn plain None name value (Some number) calls text last runs replay = absurd runs
set-turn plain (Some schema) name value (Some number) calls text last runs replay = set-object plain schema.columns name value number calls text last runs replay

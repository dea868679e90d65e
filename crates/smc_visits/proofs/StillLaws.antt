-- What is read in a world that stands still.
use Rattle.std.proofs.Common.{◌≡◌, ℕ, ◌+◌, Bool, true, false, Option, Some, None, List, [], ◌∷◌, ◌++◌, length, refl, sym, subst, ap, ◌∙◌, arith}
use Rattle.std.specs.Prelude.{◌≢◌, ◌==◌, option_map, option_and_then, if◌then◌else◌}
use Rattle.std.specs.List.{AllByRecursion}
use Rattle.std.proofs.lemmas.Bool.Decides.{nat_tests}
use Rattle.smc_words.specs.declared.number.Number.{Number}
use Rattle.smc_shape.specs.Layout.{Layout, width_of}
use Rattle.smc_model.specs.World.{World, IsAllowed, is_present, word_of}
use Rattle.smc_model.specs.declared.event.Event.{Event}
use Rattle.smc_core.specs.Row.{unpacked_number}
use Rattle.smc_row.proofs.BackLaws.{number-read}
use Rattle.smc_types.specs.Columns as columns
use Rattle.smc_plan.specs.declared.leaf.Hop.{Hop}
use Rattle.smc_plan.specs.declared.leaf.Leaf.{Leaf}
use Rattle.smc_trace.specs.Trace.{CallEnd, events_in}
use Rattle.smc_trace.proofs.TraceSteps.{events_in-append}
use Rattle.smc_objects.specs.Alone.{reads_all}
use Rattle.smc_visits.specs.Rows.{Follows, ReadsLeaf, RefersTo, IsNull, RowOfVisit, arrives, wrong_width, meets_null, misses, goes_on, comes_to_none, wrong_table, reads_column, has_all, drops, reads_on}
use Rattle.smc_visits.specs.Still.{AreOf, last_in, leaf_in, of_width, present, referred, row_in, words_in}

-- ---- lists

all-front : {X : Type 0} (P : X → Type 0) (xs ys : List X) → AllByRecursion P (xs ++ ys) → AllByRecursion P xs
all-front P [] ys all = tt
all-front P (x ∷ xs) ys all = (all.0, all-front P xs ys all.1)

all-back : {X : Type 0} (P : X → Type 0) (xs ys : List X) → AllByRecursion P (xs ++ ys) → AllByRecursion P ys
all-back P [] ys all = all
all-back P (x ∷ xs) ys all = all-back P xs ys all.1

joined : (world : World) (calls rest : List CallEnd) → AreOf world (calls ++ rest) → AllByRecursion (IsAllowed world) (events_in calls ++ events_in rest)
joined world calls rest are = subst (λ (es : List Event). AllByRecursion (IsAllowed world) es) (events_in-append calls rest) are

front : (world : World) (calls rest : List CallEnd) → AreOf world (calls ++ rest) → AreOf world calls
front world calls rest are = all-front (IsAllowed world) (events_in calls) (events_in rest) (joined world calls rest are)

back : (world : World) (calls rest : List CallEnd) → AreOf world (calls ++ rest) → AreOf world rest
back world calls rest are = all-back (IsAllowed world) (events_in calls) (events_in rest) (joined world calls rest are)

-- ---- widths

of_width-is : {A : Type 0} (shape : Layout) (number : Number) (width : ℕ) (read : Option A) → width_of shape number.coll ≡ width → of_width shape number width read ≡ read
of_width-is shape number width read is = let e : (width_of shape number.coll == width) ≡ true = grind (arith, nat_tests, is) in rw e refl

of_width-not : {A : Type 0} (shape : Layout) (number : Number) (width : ℕ) (read : Option A) → width_of shape number.coll ≢ width → of_width shape number width read ≡ None
of_width-not shape number width read not = let e : (width_of shape number.coll == width) ≡ false = grind (arith, nat_tests, not) in rw e refl

-- ---- references

refers-is : (word : ℕ) (next : Number) → RefersTo word next → unpacked_number word ≡ Some next
refers-is word next refers = sym (number-read word (Some next) refers tt)

null-is : (word : ℕ) → IsNull word → unpacked_number word ≡ None
null-is word null = sym (number-read word None tt null)

-- a field refers to what its word says, if that is here
refers-in : (world : World) (number : Number) (field word : ℕ) (found : Option Number) → word_of world number field ≡ Some word → unpacked_number word ≡ found
    → referred world number field ≡ option_and_then (present world) found
refers-in world number field word found has is =
    ap (λ (o : Option ℕ). option_and_then (present world) (option_and_then unpacked_number o)) has ∙ ap (λ (o : Option Number). option_and_then (present world) o) is

here-is : (world : World) (number : Number) (b : Bool) → b ≡ is_present world number → present world number ≡ (if b then Some number else None)
here-is world number b is = ap (λ (x : Bool). if x then Some number else None) (sym is)

-- where a reference leads nowhere
goes-none : (shape : Layout) (world : World) (number : Number) (hop : Hop) (later : List Hop) → width_of shape number.coll ≡ hop.width → referred world number hop.at ≡ None
    → last_in shape world (hop ∷ later) number ≡ None
goes-none shape world number hop later width none =
    of_width-is shape number hop.width (option_and_then (last_in shape world later) (referred world number hop.at)) width ∙ ap (λ (o : Option Number). option_and_then (last_in shape world later) o) none

-- where it leads on
goes-some : (shape : Layout) (world : World) (number next : Number) (hop : Hop) (later : List Hop) → width_of shape number.coll ≡ hop.width → referred world number hop.at ≡ Some next
    → last_in shape world (hop ∷ later) number ≡ last_in shape world later next
goes-some shape world number next hop later width some =
    of_width-is shape number hop.width (option_and_then (last_in shape world later) (referred world number hop.at)) width ∙ ap (λ (o : Option Number). option_and_then (last_in shape world later) o) some

pub follows-in : {shape : Layout} {number : Number} {hops : List Hop} {last : Option Number} {calls : List CallEnd} (world : World) → Follows shape number hops last calls → AreOf world calls
    → last_in shape world hops number ≡ last
follows-in world arrives are = refl
follows-in world (wrong_width {shape} {number} {hop} {later} not) are = of_width-not shape number hop.width (option_and_then (last_in shape world later) (referred world number hop.at)) not
follows-in world (meets_null {shape} {number} {hop} {later} {word} width null) are =
    goes-none shape world number hop later width (refers-in world number hop.at word None are.0 (null-is word null))
follows-in world (misses {shape} {number} {next} {hop} {later} {word} width refers) are =
    goes-none shape world number hop later width (refers-in world number hop.at word (Some next) are.0 (refers-is word next refers) ∙ here-is world next false are.1.0)
follows-in world (goes_on {shape} {number} {next} {hop} {later} {word} {slot} {last} {rest} width refers follows) are =
    goes-some shape world number next hop later width (refers-in world number hop.at word (Some next) are.0 (refers-is word next refers) ∙ here-is world next true are.1.0)
    ∙ follows-in world follows are.1.1

-- ---- rows

words-read : (world : World) (number : Number) (field : ℕ) (words : List ℕ) → AreOf world (reads_all number field words) → words_in world number field (length words) ≡ Some words
words-read world number field [] are = refl
words-read world number field (word ∷ later) are =
    ap (λ (o : Option ℕ). option_and_then (λ first. option_map (λ words. first ∷ words) (words_in world number (field + 1) (length later))) o) are.0
    ∙ ap (λ (o : Option (List ℕ)). option_map (λ words. word ∷ words) o) (words-read world number (field + 1) later are.1)

leaf-of : (shape : Layout) (world : World) (leaf : Leaf) (number : Number) (last : Option Number) → last_in shape world leaf.hops number ≡ last
    → leaf_in shape world leaf number ≡ option_and_then (λ k. of_width shape k leaf.width (words_in world k leaf.at (columns.width_of leaf.kind))) last
leaf-of shape world leaf number last is = ap (λ (o : Option Number). option_and_then (λ k. of_width shape k leaf.width (words_in world k leaf.at (columns.width_of leaf.kind))) o) is

pub leaf-read : {shape : Layout} {number : Number} {leaf : Leaf} {words : Option (List ℕ)} {calls : List CallEnd} (world : World) → ReadsLeaf shape number leaf words calls → AreOf world calls
    → leaf_in shape world leaf number ≡ words
leaf-read world (comes_to_none {shape} {number} {leaf} {calls} follows) are = leaf-of shape world leaf number None (follows-in world follows are)
leaf-read world (wrong_table {shape} {number} {last} {leaf} {calls} follows not) are =
    leaf-of shape world leaf number (Some last) (follows-in world follows are) ∙ of_width-not shape last leaf.width (words_in world last leaf.at (columns.width_of leaf.kind)) not
leaf-read world (reads_column {shape} {number} {last} {leaf} {words} {calls} follows width long) are =
    leaf-of shape world leaf number (Some last) (follows-in world follows (front world calls (reads_all last leaf.at words) are))
    ∙ (of_width-is shape last leaf.width (words_in world last leaf.at (columns.width_of leaf.kind)) width
    ∙ (ap (λ (k : ℕ). words_in world last leaf.at k) (sym long) ∙ words-read world last leaf.at words (back world calls (reads_all last leaf.at words) are)))

pub row-read : {shape : Layout} {number : Number} {leaves : List Leaf} {row : Option (List ℕ)} {calls : List CallEnd} (world : World) → RowOfVisit shape number leaves row calls → AreOf world calls
    → row_in shape world leaves number ≡ row
row-read world has_all are = refl
row-read world (drops {shape} {number} {leaf} {later} {calls} reads) are =
    ap (λ (o : Option (List ℕ)). option_and_then (λ words. option_map (λ more. words ++ more) (row_in shape world later number)) o) (leaf-read world reads are)
row-read world (reads_on {shape} {number} {leaf} {later} words {row} {calls} {rest} reads more) are =
    ap (λ (o : Option (List ℕ)). option_and_then (λ first. option_map (λ more. first ++ more) (row_in shape world later number)) o) (leaf-read world reads (front world calls rest are))
    ∙ ap (λ (o : Option (List ℕ)). option_map (λ more. words ++ more) o) (row-read world more (back world calls rest are))

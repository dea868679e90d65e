-- A row is read step by step.
use Rattle.std.proofs.Common.{◌≡◌, ℕ, Bool, true, false, Option, Some, None, List, [], ◌∷◌, ◌++◌, ◌+◌, length, refl, sym, subst, ap, ◌∙◌, arith}
use Rattle.std.specs.Prelude.{IfSome, option_map, if◌then◌else◌}
use Rattle.std.proofs.lemmas.List.{length-append}
use Rattle.std.proofs.lemmas.List.Sums.{sum_by-cons}
use Rattle.smc_words.specs.declared.number.Number.{Number}
use Rattle.smc_shape.specs.Layout.{Layout, width_of}
use Rattle.smc_core.specs.declared.local.Local.{Local}
use Rattle.smc_region.specs.declared.held.Held.{Held}
use Rattle.smc_region.specs.Callers.{Caller}
use Rattle.smc_region.specs.Looks.{LooksUp, slot_found}
use Rattle.smc_types.specs.Columns as columns
use Rattle.smc_plan.specs.declared.leaf.Hop.{Hop}
use Rattle.smc_plan.specs.declared.leaf.Leaf.{Leaf}
use Rattle.smc_plan.specs.Leaves.{leaves_words}
use Rattle.smc_trace.specs.Named.{looks, reads}
use Rattle.smc_trace.specs.Trace.{CallEnd}
use Rattle.smc_does.specs.Does.{IsHeld}
use Rattle.smc_does.proofs.Bridges.{look-holds}
use Rattle.smc_visits.specs.Rows.{Follows, ReadsLeaf, RefersTo, RowOfVisit, comes_to_none, drops, goes_on, has_all, reads_column, reads_on, wrong_table}
use Rattle.smc_visits.specs.Still.{AreWhole}

-- ---- look-ups

-- a look-up begins no scan, and passes no slot
pub look-scans : (old new : Local) (number : Number) (slot : Option ℕ) → LooksUp slot number old new → new.stand.scans ≡ old.stand.scans
look-scans old new number None is = ap (λ (l : Local). l.stand.scans) is
look-scans old new number (Some slot) is = ap (λ (l : Local). l.stand.scans) is

-- what it finds is held, under its number
pub look-held : (old new : Caller) (number : Number) (found : Option Held) → IfSome found (λ held. held.number ≡ number) → LooksUp (slot_found found) number old.local new.local
    → IfSome found (λ held. IsHeld new held × (held.number ≡ number))
look-held old new number None same is = tt
look-held old new number (Some held) same is = (look-holds old new number held same is, same)

-- ---- paths and rows

-- a list of no length
pub empty : {A : Type 0} (xs : List A) → length xs ≡ 0 → xs ≡ []
empty [] is = refl
empty (x ∷ xs) is = grind (arith, is)

-- a path goes on from the object that was found
pub follows-on : {shape now : Layout} {number next found : Number} {hop : Hop} {later : List Hop} {word slot : ℕ} {last : Option Number} {rest : List CallEnd}
    → now ≡ shape → found ≡ next → width_of shape number.coll ≡ hop.width → RefersTo word next → Follows now found later last rest
    → Follows shape number (hop ∷ later) last (reads number hop.at word ++ (looks next (Some slot) ++ rest))
follows-on {shape} {now} {number} {next} {found} {hop} {later} {word} {slot} {last} {rest} same is width refers follows =
    goes_on width refers (subst (λ (k : Layout). Follows k next later last rest) same (subst (λ (n : Number). Follows now n later last rest) is follows))

-- a row of no leaves is whole
pub row-none : {shape : Layout} {number : Number} (leaves : List Leaf) (row : List ℕ) → length leaves ≡ 0 → length row ≡ leaves_words leaves → RowOfVisit shape number leaves (Some row) []
row-none [] [] none long = has_all
row-none [] (word ∷ row) none long = let zero : length (word ∷ row) ≡ 0 = long in absurd (omega (arith, zero))
row-none (leaf ∷ later) row none long = absurd (omega (arith, none))

-- a row with one leaf more in front
pub row-more : {shape now : Layout} {number : Number} {leaf : Leaf} {later : List Leaf} {calls rest : List CallEnd} (words row : List ℕ) (whole : Bool)
    → now ≡ shape → ReadsLeaf shape number leaf (Some words) calls → RowOfVisit now number later (if whole then Some row else None) rest
    → RowOfVisit shape number (leaf ∷ later) (if whole then Some (words ++ row) else None) (calls ++ rest)
row-more {shape} {now} {number} {leaf} {later} {calls} {rest} words row true same reads more =
    reads_on words reads (subst (λ (k : Layout). RowOfVisit k number later (Some row) rest) same more)
row-more {shape} {now} {number} {leaf} {later} {calls} {rest} words row false same reads more =
    reads_on words reads (subst (λ (k : Layout). RowOfVisit k number later None rest) same more)

-- ---- how long rows are

leaf-whole : {shape : Layout} {number : Number} {leaf : Leaf} {words : Option (List ℕ)} {calls : List CallEnd} → ReadsLeaf shape number leaf words calls
    → IfSome words (λ got. length got ≡ columns.width_of leaf.kind)
leaf-whole (comes_to_none follows) = tt
leaf-whole (wrong_table follows not) = tt
leaf-whole (reads_column follows width long) = long

row-whole : {shape : Layout} {number : Number} {leaves : List Leaf} {row : Option (List ℕ)} {calls : List CallEnd} → RowOfVisit shape number leaves row calls
    → IfSome row (λ got. length got ≡ leaves_words leaves)
row-whole has_all = refl
row-whole (drops reads) = tt
row-whole (reads_on {shape} {number} {leaf} {later} words {row} {calls} {rest} reads more) = join row (row-whole more)
  where
    join : (got : Option (List ℕ)) → IfSome got (λ k. length k ≡ leaves_words later) → IfSome (option_map (λ k. words ++ k) got) (λ k. length k ≡ leaves_words (leaf ∷ later))
    join None long = tt
    join (Some k) long =
        length-append words k ∙ (ap (λ (n : ℕ). n + length k) (leaf-whole reads) ∙ (ap (λ (n : ℕ). columns.width_of leaf.kind + n) long
        ∙ sym (sum_by-cons (λ (l : Leaf). columns.width_of l.kind) leaf later)))

-- a whole row has as many words as its leaves
pub rows-whole : AreWhole
rows-whole shape number leaves row calls reads = row-whole reads

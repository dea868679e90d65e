-- The row of a visited object: what is read of it, and of the objects that its paths lead to.
use Rattle.std.specs.Prelude.{◌≡◌, ◌≢◌, ℕ, ◌+◌, ◌<◌, ◌≤◌, Option, Some, None, List, [], ◌∷◌, ◌++◌, length, option_map}
use Rattle.std.specs.List.{AllByRecursion}
use Rattle.smc_words.specs.declared.number.Number.{Number}
use Rattle.smc_words.specs.Number.{FitsNumber, packed_number}
use Rattle.smc_shape.specs.Layout.{Layout, width_of}
use Rattle.smc_types.specs.Columns as columns
use Rattle.smc_plan.specs.declared.leaf.Hop.{Hop}
use Rattle.smc_plan.specs.declared.leaf.Leaf.{Leaf}
use Rattle.smc_trace.specs.Named.{looks, reads}
use Rattle.smc_trace.specs.Trace.{CallEnd}
use Rattle.smc_objects.specs.Alone.{reads_all}

-- ---- what a plan keeps

-- the word of a reference stands within its record
abbrev pub FitsHop : Hop → Type 0
FitsHop hop = hop.at < hop.width

-- the words that a path reads stand within their records
pub record FitsRecord (leaf : Leaf) : Type 0 where
  pub hops : AllByRecursion FitsHop leaf.hops
  pub column : leaf.at + columns.width_of leaf.kind ≤ leaf.width

-- ---- references

-- the word of a reference is the number of this object
abbrev pub RefersTo : ℕ → Number → Type 0
RefersTo word number = FitsNumber number × (packed_number number ≡ word)

-- the word of a reference is null: it is the number of no object
abbrev pub IsNull : ℕ → Type 0
IsNull word = (number : Number) → FitsNumber number → packed_number number ≢ word

-- references are followed from an object: each word is read, and its object looked up, until one is null or is not here; of an
-- object whose records have not the width of the table nothing is read
pub data Follows : Layout → Number → List Hop → Option Number → List CallEnd → Type 0 where
  arrives : {shape : Layout} {number : Number} → Follows shape number [] (Some number) []
  wrong_width : {shape : Layout} {number : Number} {hop : Hop} {later : List Hop}
      → width_of shape number.coll ≢ hop.width → Follows shape number (hop ∷ later) None []
  meets_null : {shape : Layout} {number : Number} {hop : Hop} {later : List Hop} {word : ℕ}
      → width_of shape number.coll ≡ hop.width → IsNull word → Follows shape number (hop ∷ later) None (reads number hop.at word)
  misses : {shape : Layout} {number next : Number} {hop : Hop} {later : List Hop} {word : ℕ}
      → width_of shape number.coll ≡ hop.width → RefersTo word next
      → Follows shape number (hop ∷ later) None (reads number hop.at word ++ looks next None)
  goes_on : {shape : Layout} {number next : Number} {hop : Hop} {later : List Hop} {word slot : ℕ} {last : Option Number} {rest : List CallEnd}
      → width_of shape number.coll ≡ hop.width → RefersTo word next → Follows shape next later last rest
      → Follows shape number (hop ∷ later) last (reads number hop.at word ++ (looks next (Some slot) ++ rest))

-- ---- rows

-- the words of a leaf are read: its path is followed, and then its column is read; nothing is had where the path comes to no
-- object, or to one whose records have not the width of the table
pub data ReadsLeaf : Layout → Number → Leaf → Option (List ℕ) → List CallEnd → Type 0 where
  comes_to_none : {shape : Layout} {number : Number} {leaf : Leaf} {calls : List CallEnd}
      → Follows shape number leaf.hops None calls → ReadsLeaf shape number leaf None calls
  wrong_table : {shape : Layout} {number last : Number} {leaf : Leaf} {calls : List CallEnd}
      → Follows shape number leaf.hops (Some last) calls → width_of shape last.coll ≢ leaf.width → ReadsLeaf shape number leaf None calls
  reads_column : {shape : Layout} {number last : Number} {leaf : Leaf} {words : List ℕ} {calls : List CallEnd}
      → Follows shape number leaf.hops (Some last) calls → width_of shape last.coll ≡ leaf.width → length words ≡ columns.width_of leaf.kind
      → ReadsLeaf shape number leaf (Some words) (calls ++ reads_all last leaf.at words)

-- the row of an object: its leaves are read in order, up to the first of which nothing is had; then the row is dropped
pub data RowOfVisit : Layout → Number → List Leaf → Option (List ℕ) → List CallEnd → Type 0 where
  has_all : {shape : Layout} {number : Number} → RowOfVisit shape number [] (Some []) []
  drops : {shape : Layout} {number : Number} {leaf : Leaf} {later : List Leaf} {calls : List CallEnd}
      → ReadsLeaf shape number leaf None calls → RowOfVisit shape number (leaf ∷ later) None calls
  reads_on : {shape : Layout} {number : Number} {leaf : Leaf} {later : List Leaf} (words : List ℕ) {row : Option (List ℕ)} {calls rest : List CallEnd}
      → ReadsLeaf shape number leaf (Some words) calls → RowOfVisit shape number later row rest
      → RowOfVisit shape number (leaf ∷ later) (option_map (λ more. words ++ more) row) (calls ++ rest)

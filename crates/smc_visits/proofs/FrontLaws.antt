-- The calls of a scan that reads rows are read off from the front of a trace.
use Rattle.std.proofs.Common.{◌≡◌, ℕ, ◌+◌, true, Option, Some, None, List, [], ◌∷◌, ◌++◌, length, refl, sym, subst, ap, ◌∙◌, append_assoc, arith}
use Rattle.std.specs.Prelude.{flat_map, option_map}
use Rattle.std.specs.List.{AllByRecursion, AllZip}
use Rattle.smc_words.specs.declared.number.Number.{Number}
use Rattle.smc_shape.specs.Layout.{Layout, width_of}
use Rattle.smc_model.specs.declared.event.Event.TheVariants as event
use Rattle.smc_core.specs.declared.done.Done.TheVariants as done
use Rattle.smc_core.specs.declared.local.Held.{Held}
use Rattle.smc_plan.specs.declared.leaf.Hop.{Hop}
use Rattle.smc_plan.specs.declared.leaf.Leaf.{Leaf}
use Rattle.smc_trace.specs.Named.{comes_to}
use Rattle.smc_trace.specs.Trace.{CallEnd}
use Rattle.smc_objects.specs.Alone.{reads_all}
use Rattle.smc_visits.specs.Rows.{Follows, ReadsLeaf, RefersTo, IsNull, RowOfVisit, arrives, wrong_width, meets_null, misses, goes_on, comes_to_none, wrong_table, reads_column, has_all, drops, reads_on}

-- ---- one call and the next

-- the first of two equal lists of calls have one answer, and one event
pub first-done : (x y : CallEnd) (s t : List CallEnd) → (x ∷ s) ≡ (y ∷ t) → x.done ≡ y.done
first-done x y s t is = let same : x ≡ y = cc in ap (λ (k : CallEnd). k.done) same

pub first-event : (x y : CallEnd) (s t : List CallEnd) → (x ∷ s) ≡ (y ∷ t) → x.event ≡ y.event
first-event x y s t is = let same : x ≡ y = cc in ap (λ (k : CallEnd). k.event) same

pub later-calls : (x y : CallEnd) (s t : List CallEnd) → (x ∷ s) ≡ (y ∷ t) → s ≡ t
later-calls x y s t is = cc

pub one-value : (value other : ℕ) → done.Value value ≡ done.Value other → value ≡ other
one-value value other is = cc

pub null-is-not-here : (slot : ℕ) → done.Null ≡ done.Here slot → ⊥
null-is-not-here slot is = cc

one-looked : (number other : Number) → Some (event.Look number true) ≡ Some (event.Look other true) → number ≡ other
one-looked number other is = cc

none-is-not-some : {A : Type 0} (a : A) → ◌≡◌ {A = Option A} None (Some a) → ⊥
none-is-not-some a is = cc

one-some : {A : Type 0} (a b : A) → Some a ≡ Some b → a ≡ b
one-some a b is = cc

-- ---- rows

-- two readings of one thing at one front have the same, and the same calls are left behind
abbrev pub IsOneRead : {A : Type 0} → A → A → List CallEnd → List CallEnd → Type 0
IsOneRead one other rest behind = (one ≡ other) × (rest ≡ behind)

-- a reference refers to an object, or is null
not-both : (word other : ℕ) (number : Number) → word ≡ other → IsNull word → RefersTo other number → ⊥
not-both word other number is null refers = null number refers.0 (refers.1 ∙ sym is)

follows-front : {shape : Layout} {number : Number} {hops : List Hop} {last other : Option Number} {first second : List CallEnd} (rest behind : List CallEnd)
    → Follows shape number hops last first → Follows shape number hops other second → first ++ rest ≡ second ++ behind → IsOneRead last other rest behind
follows-front rest behind arrives arrives same = (refl, same)
follows-front rest behind (wrong_width not) (wrong_width again) same = (refl, same)
follows-front rest behind (wrong_width not) (meets_null width null) same = absurd (not width)
follows-front rest behind (wrong_width not) (misses width refers) same = absurd (not width)
follows-front rest behind (wrong_width not) (goes_on width refers follows) same = absurd (not width)
follows-front rest behind (meets_null width null) (wrong_width not) same = absurd (not width)
follows-front rest behind (meets_null width null) (meets_null also again) same = (refl, later-calls _ _ _ _ same)
follows-front rest behind (meets_null {shape} {number} {hop} {later} {word} width null) (misses {next = next} {word = said} also refers) same =
    absurd (not-both word said next (one-value word said (first-done _ _ _ _ same)) null refers)
follows-front rest behind (meets_null {shape} {number} {hop} {later} {word} width null) (goes_on {next = next} {word = said} also refers follows) same =
    absurd (not-both word said next (one-value word said (first-done _ _ _ _ same)) null refers)
follows-front rest behind (misses width refers) (wrong_width not) same = absurd (not width)
follows-front rest behind (misses {next = next} {word = word} width refers) (meets_null {word = said} also null) same =
    absurd (not-both said word next (sym (one-value word said (first-done _ _ _ _ same))) null refers)
follows-front rest behind (misses width refers) (misses also again) same = (refl, later-calls _ _ _ _ (later-calls _ _ _ _ same))
follows-front rest behind (misses width refers) (goes_on {slot = slot} also again follows) same =
    absurd (null-is-not-here slot (first-done _ _ _ _ (later-calls _ _ _ _ same)))
follows-front rest behind (goes_on width refers follows) (wrong_width not) same = absurd (not width)
follows-front rest behind (goes_on {next = next} {word = word} width refers follows) (meets_null {word = said} also null) same =
    absurd (not-both said word next (sym (one-value word said (first-done _ _ _ _ same))) null refers)
follows-front rest behind (goes_on {slot = slot} width refers follows) (misses also again) same =
    absurd (null-is-not-here slot (sym (first-done _ _ _ _ (later-calls _ _ _ _ same))))
follows-front rest behind (goes_on {shape} {number} {next} {hop} {later} {word} {slot} {last} {rest = more} width refers follows)
    (goes_on {next = found} {word = said} {slot = place} {last = other} {rest = others} also again there) same =
    let below = later-calls _ _ _ _ same in
    let one : next ≡ found = one-looked next found (first-event _ _ _ _ below) in
    follows-front rest behind (subst (λ (n : Number). Follows shape n later last more) one follows) there (later-calls _ _ _ _ below)

-- as many fields at one front have the same words
words-front : (n m : Number) (field place : ℕ) (words said : List ℕ) (rest behind : List CallEnd) → length words ≡ length said
    → reads_all n field words ++ rest ≡ reads_all m place said ++ behind → IsOneRead words said rest behind
words-front n m field place [] [] rest behind long same = (refl, same)
words-front n m field place [] (v ∷ said) rest behind long same = absurd (omega (arith, long))
words-front n m field place (w ∷ words) [] rest behind long same = absurd (omega (arith, long))
words-front n m field place (w ∷ words) (v ∷ said) rest behind long same =
    let one : w ≡ v = one-value w v (first-done _ _ _ _ same) in
    let later = words-front n m (field + 1) (place + 1) words said rest behind (omega (arith, long)) (later-calls _ _ _ _ same) in
    (ap (λ (x : ℕ). x ∷ words) one ∙ ap (λ (x : List ℕ). v ∷ x) later.0, later.1)

-- calls in two parts, with those behind them
flat : (one other rest calls behind : List CallEnd) (back : List CallEnd) → (one ++ other) ++ rest ≡ (calls ++ back) ++ behind → one ++ (other ++ rest) ≡ calls ++ (back ++ behind)
flat one other rest calls behind back same = sym (append_assoc one other rest) ∙ same ∙ append_assoc calls back behind

leaf-front : {shape : Layout} {number : Number} {leaf : Leaf} {words said : Option (List ℕ)} {first second : List CallEnd} (rest behind : List CallEnd)
    → ReadsLeaf shape number leaf words first → ReadsLeaf shape number leaf said second → first ++ rest ≡ second ++ behind → IsOneRead words said rest behind
leaf-front rest behind (comes_to_none follows) (comes_to_none there) same = (refl, (follows-front rest behind follows there same).1)
leaf-front rest behind (comes_to_none follows) (wrong_table {last = last} there not) same = absurd (none-is-not-some last (follows-front rest behind follows there same).0)
leaf-front rest behind (comes_to_none follows) (reads_column {last = last} {leaf = leaf} {words = words} there width long) same =
    absurd (none-is-not-some last (follows-front rest (reads_all last leaf.at words ++ behind) follows there (same ∙ append_assoc _ (reads_all last leaf.at words) behind)).0)
leaf-front rest behind (wrong_table {last = last} follows not) (comes_to_none there) same = absurd (none-is-not-some last (sym (follows-front rest behind follows there same).0))
leaf-front rest behind (wrong_table follows not) (wrong_table there again) same = (refl, (follows-front rest behind follows there same).1)
leaf-front rest behind (wrong_table {shape} {number} {last} {leaf} follows not) (reads_column {last = other} {words = words} there width long) same =
    let read = follows-front rest (reads_all other leaf.at words ++ behind) follows there (same ∙ append_assoc _ (reads_all other leaf.at words) behind) in
    absurd (not (ap (λ (n : Number). width_of shape n.coll) (one-some last other read.0) ∙ width))
leaf-front rest behind (reads_column {last = last} {leaf = leaf} {words = words} follows width long) (comes_to_none there) same =
    absurd (none-is-not-some last (sym (follows-front (reads_all last leaf.at words ++ rest) behind follows there (sym (append_assoc _ (reads_all last leaf.at words) rest) ∙ same)).0))
leaf-front rest behind (reads_column {shape} {number} {last} {leaf} {words} follows width long) (wrong_table {last = other} there not) same =
    let read = follows-front (reads_all last leaf.at words ++ rest) behind follows there (sym (append_assoc _ (reads_all last leaf.at words) rest) ∙ same) in
    absurd (not (ap (λ (n : Number). width_of shape n.coll) (sym (one-some last other read.0)) ∙ width))
leaf-front rest behind (reads_column {last = last} {leaf = leaf} {words = words} {calls = calls} follows width long) (reads_column {last = other} {words = said} {calls = others} there also many) same =
    let read = follows-front (reads_all last leaf.at words ++ rest) (reads_all other leaf.at said ++ behind) follows there
    (flat calls (reads_all last leaf.at words) rest others behind (reads_all other leaf.at said) same) in
    let column = words-front last other leaf.at leaf.at words said rest behind (long ∙ sym many) read.1 in
    (ap (λ (x : List ℕ). Some x) column.0, column.1)

-- the row of an object, and that it is dropped, is read off from the calls that read it
pub row-front : {shape : Layout} {number : Number} {leaves : List Leaf} {row said : Option (List ℕ)} {first second : List CallEnd} (rest behind : List CallEnd)
    → RowOfVisit shape number leaves row first → RowOfVisit shape number leaves said second → first ++ rest ≡ second ++ behind → IsOneRead row said rest behind
row-front rest behind has_all has_all same = (refl, same)
row-front rest behind (drops reads) (drops there) same = (refl, (leaf-front rest behind reads there same).1)
row-front rest behind (drops reads) (reads_on words {calls = calls} {rest = more} there later) same =
    absurd (none-is-not-some words (leaf-front rest (more ++ behind) reads there (same ∙ append_assoc calls more behind)).0)
row-front rest behind (reads_on words {calls = calls} {rest = more} reads later) (drops there) same =
    absurd (none-is-not-some words (sym (leaf-front (more ++ rest) behind reads there (sym (append_assoc calls more rest) ∙ same)).0))
row-front rest behind (reads_on words {row = row} {calls = calls} {rest = more} reads later) (reads_on got {row = said} {calls = others} {rest = also} there after) same =
    let leaf = leaf-front (more ++ rest) (also ++ behind) reads there (flat calls more rest others behind also same) in
    let on = row-front rest behind later after leaf.1 in
    (ap (λ (x : List ℕ). option_map (λ k. x ++ k) row) (one-some words got leaf.0) ∙ ap (λ (x : Option (List ℕ)). option_map (λ k. got ++ k) x) on.0, on.1)

-- ---- scans

pub same-held : (x y : Held) → x.number ≡ y.number → x.slot ≡ y.slot → x ≡ y
same-held x y number slot =
    ap (λ (n : Number). let one : Held = record { number = n; slot = x.slot } in one) number
    ∙ ap (λ (k : ℕ). let one : Held = record { number = y.number; slot = k } in one) slot

pub visit-is-no-end : (number : Number) (slot : ℕ) → done.Visit number slot ≡ done.End → ⊥
visit-is-no-end number slot is = cc

pub visit-number : (number other : Number) (slot place : ℕ) → done.Visit number slot ≡ done.Visit other place → number ≡ other
visit-number number other slot place is = cc

pub visit-slot : (number other : Number) (slot place : ℕ) → done.Visit number slot ≡ done.Visit other place → slot ≡ place
visit-slot number other slot place is = cc

-- a visit: the scan comes to an object, and these calls follow
module _ {Visit : Type 0} (held : Visit → Held) (made : Visit → List CallEnd) (Is : Visit → Type 0) (Same : Visit → Visit → Type 0) where
  abbrev pub calls-of : ℕ → Visit → List CallEnd
  calls-of scan visit = comes_to scan (Some (held visit)) ++ made visit

  -- the visits of two scans at one front are the same, where two visits to one object are, and each scan comes to its end behind them
  pub scan-front : ((one other : Visit) (rest behind : List CallEnd) → held one ≡ held other → Is one → Is other → made one ++ rest ≡ made other ++ behind → Same one other × (rest ≡ behind))
      → (scan scan' : ℕ) (visits others : List Visit) (rest behind : List CallEnd) → AllByRecursion Is visits → AllByRecursion Is others
      → flat_map (calls-of scan) visits ++ (comes_to scan None ++ rest) ≡ flat_map (calls-of scan') others ++ (comes_to scan' None ++ behind)
      → AllZip Same visits others × (rest ≡ behind)
  scan-front each scan scan' [] [] rest behind are also same = (tt, later-calls _ _ _ _ same)
  scan-front each scan scan' [] (y ∷ ys) rest behind are also same = absurd (visit-is-no-end (held y).number (held y).slot (sym (first-done _ _ _ _ same)))
  scan-front each scan scan' (x ∷ xs) [] rest behind are also same = absurd (visit-is-no-end (held x).number (held x).slot (first-done _ _ _ _ same))
  scan-front each scan scan' (x ∷ xs) (y ∷ ys) rest behind are also same =
      let answer = first-done _ _ _ _ same in
      let one : held x ≡ held y = same-held (held x) (held y) (visit-number _ _ _ _ answer) (visit-slot _ _ _ _ answer) in
      let below = flat (made x) (flat_map (calls-of scan) xs) (comes_to scan None ++ rest) (made y) (comes_to scan' None ++ behind) (flat_map (calls-of scan') ys) (later-calls _ _ _ _ same) in
      let read = each x y (flat_map (calls-of scan) xs ++ (comes_to scan None ++ rest)) (flat_map (calls-of scan') ys ++ (comes_to scan' None ++ behind)) one are.0 also.0 below in
      let later = scan-front each scan scan' xs ys rest behind are.1 also.1 read.1 in
      ((read.0, later.0), later.1)

-- A scan edits one object after another.
use Rattle.std.proofs.Common.{◌≡◌, ℕ, ◌+◌, ◌≤◌, Bool, true, false, cond, Option, Some, None, List, [], ◌∷◌, ◌++◌, sym, subst, ap, ◌∙◌, arith, append_assoc}
use Rattle.std.specs.Prelude.{flat_map}
use Rattle.std.proofs.lemmas.List.Sums.{sum_by_push}
use Rattle.smc_shape.specs.Layout.{Layout}
use Rattle.smc_core.specs.declared.local.Held.{Held}
use Rattle.smc_plan.specs.declared.leaf.Leaf.{Leaf}
use Rattle.smc_region.specs.Callers.{Caller}
use Rattle.smc_trace.specs.Named.{begins, comes_to}
use Rattle.smc_trace.specs.Trace.{CallEnd}
use Rattle.smc_does.specs.Does.{Does, DoesSome}
use Rattle.smc_does.proofs.DoesLaws.{does-then}
use Rattle.smc_visits.specs.declared.edits.Edit.{Edit}
use Rattle.smc_visits.specs.declared.edits.Edit.TheVariants.{Leave, Remove, Write, Skip}
use Rattle.smc_visits.specs.declared.edits.Edits.{Edits}
use Rattle.smc_visits.specs.Rows.{RowOfVisit}
use Rattle.smc_visits.specs.Visits.{IsVisit, Visited}
use Rattle.smc_visits.specs.Edits.{AreFew, Edited, EditsRows, counts_of, edit_calls, edit_in, edit_of, edited_calls, is_removed, is_skipped, is_written, with_edit}
use Rattle.smc_visits.proofs.VisitLaws.{SoFar, visits-all, visits-more}

-- ---- counts

-- the counts are the same where each is
pub same-counts : (a b c a' b' c' : ℕ) → a ≡ a' → b ≡ b' → c ≡ c'
    → (let x : Edits = record { removed = a; written = b; skipped = c } in x) ≡ (let x : Edits = record { removed = a'; written = b'; skipped = c' } in x)
same-counts a b c a' b' c' is is' is'' =
    ap (λ (k : ℕ). let x : Edits = record { removed = k; written = b; skipped = c } in x) is
    ∙ (ap (λ (k : ℕ). let x : Edits = record { removed = a'; written = k; skipped = c } in x) is'
    ∙ ap (λ (k : ℕ). let x : Edits = record { removed = a'; written = b'; skipped = k } in x) is'')

-- one more is counted
added : (edits : Edits) (edit : Edit) (first : Bool)
    → (let x : Edits = record { removed = edits.removed + cond (is_removed edit first) 1 0; written = edits.written + cond (is_written edit) 1 0; skipped = edits.skipped + cond (is_skipped edit) 1 0 } in x)
    ≡ with_edit edits edit first
added edits Leave first = same-counts _ _ _ _ _ _ (omega arith) (omega arith) (omega arith)
added edits Remove false = same-counts _ _ _ _ _ _ (omega arith) (omega arith) (omega arith)
added edits Remove true = same-counts _ _ _ _ _ _ (omega arith) (omega arith) (omega arith)
added edits (Write field value) first = same-counts _ _ _ _ _ _ (omega arith) (omega arith) (omega arith)
added edits Skip first = same-counts _ _ _ _ _ _ (omega arith) (omega arith) (omega arith)

counts-more : (decide : List ℕ → Edit) (visits : List Edited) (one : Edited) → counts_of decide (visits ++ one ∷ []) ≡ with_edit (counts_of decide visits) (edit_in decide one) one.first
counts-more decide visits one =
    same-counts _ _ _ _ _ _ (sum_by_push (λ (e : Edited). cond (is_removed (edit_in decide e) e.first) 1 0) visits one) (sum_by_push (λ (e : Edited). cond (is_written (edit_in decide e)) 1 0) visits one)
    (sum_by_push (λ (e : Edited). cond (is_skipped (edit_in decide e)) 1 0) visits one)
    ∙ added (counts_of decide visits) (edit_in decide one) one.first

few-by : (edits next : Edits) (most more : ℕ) → most + 1 ≤ more → next.removed ≤ edits.removed + 1 → next.written ≤ edits.written + 1 → next.skipped ≤ edits.skipped + 1
    → AreFew edits most → AreFew next more
few-by edits next most more less removed written skipped few =
    let a = few.removed in
    let b = few.written in
    let c = few.skipped in
    record { removed = omega (arith, less, removed, a); written = omega (arith, less, written, b); skipped = omega (arith, less, skipped, c) }

-- no count grows by more than one
pub few-more : (edits : Edits) (edit : Edit) (first : Bool) (most more : ℕ) → most + 1 ≤ more → AreFew edits most → AreFew (with_edit edits edit first) more
few-more edits Leave first most more less few = few-by edits (with_edit edits Leave first) most more less (omega arith) (omega arith) (omega arith) few
few-more edits Remove false most more less few = few-by edits (with_edit edits Remove false) most more less (omega arith) (omega arith) (omega arith) few
few-more edits Remove true most more less few = few-by edits (with_edit edits Remove true) most more less (omega arith) (omega arith) (omega arith) few
few-more edits (Write field value) first most more less few = few-by edits (with_edit edits (Write field value) first) most more less (omega arith) (omega arith) (omega arith) few
few-more edits Skip first most more less few = few-by edits (with_edit edits Skip first) most more less (omega arith) (omega arith) (omega arith) few

-- ---- edits

-- a scan has come to some objects, which were edited
abbrev pub EditsSoFar : Caller → Caller → ℕ → List Leaf → (List ℕ → Edit) → ℕ → Edits → Type 0
EditsSoFar old now coll leaves decide scan edits =
    SoFar Edited (edited_calls decide) (λ one. IsVisit old.shape leaves one.visit) old coll (λ visits. edits ≡ counts_of decide visits) now scan

-- it comes to one object more, which is edited
pub edits-more : (old now met next : Caller) (coll : ℕ) (leaves : List Leaf) (decide : List ℕ → Edit) (scan after : ℕ) (edits : Edits) (held : Held) (edit : Edit) (first : Bool) → after ≡ scan
    → EditsSoFar old now coll leaves decide scan edits → Does now met (comes_to scan (Some held))
    → ((got : Option (List ℕ)) × (calls : List CallEnd) × RowOfVisit met.shape held.number leaves got calls × (edit ≡ edit_of decide got) × Does met next (calls ++ edit_calls held.number edit first))
    → EditsSoFar old next coll leaves decide after (with_edit edits edit first)
edits-more old now met next coll leaves decide scan after edits held edit first same so comes read =
    let visit : Visited = record { held = held; row = read.0; calls = read.1 } in
    let one : Edited = record { visit = visit; first = first } in
    let there : Does old met ((begins scan coll ++ flat_map (edited_calls decide scan) so.visits) ++ comes_to scan (Some held)) = does-then so.does comes in
    let is : IsVisit old.shape leaves visit = subst (λ (k : Layout). RowOfVisit k held.number leaves read.0 read.1) there.same.1 read.2 in
    let makes : Does now next (comes_to scan (Some held) ++ (read.1 ++ edit_calls held.number (edit_of decide read.0) first)) =
    does-then comes (subst (λ (e : Edit). Does met next (read.1 ++ edit_calls held.number e first)) read.3 read.4) in
    visits-more Edited (edited_calls decide) (λ e. IsVisit old.shape leaves e.visit) old coll (λ visits. edits ≡ counts_of decide visits) (λ visits. with_edit edits edit first ≡ counts_of decide visits)
    now next scan after one same so (subst (λ (k : List CallEnd). Does now next k) (sym (append_assoc (comes_to scan (Some held)) read.1 (edit_calls held.number (edit_of decide read.0) first))) makes) is
    (λ was. ap (λ (k : Edits). with_edit k edit first) was ∙ (ap (λ (e : Edit). with_edit (counts_of decide so.visits) e first) read.3 ∙ sym (counts-more decide so.visits one)))

-- it comes to its end
pub edits-all : (old now last : Caller) (coll : ℕ) (leaves : List Leaf) (decide : List ℕ → Edit) (scan : ℕ) (edits : Edits) → EditsSoFar old now coll leaves decide scan edits
    → Does now last (comes_to scan None) → DoesSome old last (EditsRows old.shape coll leaves decide edits)
edits-all old now last coll leaves decide scan edits so ends =
    let all = visits-all Edited (edited_calls decide) (λ e. IsVisit old.shape leaves e.visit) old coll (λ visits. edits ≡ counts_of decide visits) now last scan so ends in
    (all.0, all.1, record { visits = so.visits; scans = all.2; counts = so.fact })

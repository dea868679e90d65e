-- The calls of a scan that edits objects are read off from the front of a trace.
use Rattle.std.proofs.Common.{◌≡◌, ℕ, ◌+◌, Bool, true, false, cond, None, List, [], ◌∷◌, ◌++◌, refl, sym, subst, ap, ◌∙◌, append_assoc}
use Rattle.std.specs.Prelude.{flat_map, if◌then◌else◌, sum_by}
use Rattle.std.specs.List.{AllZip}
use Rattle.std.proofs.lemmas.List.Sums.{sum_by-cons}
use Rattle.smc_words.specs.declared.number.Number.{Number}
use Rattle.smc_shape.specs.Layout.{Layout}
use Rattle.smc_core.specs.declared.done.Done.TheVariants as done
use Rattle.smc_core.specs.declared.local.Held.{Held}
use Rattle.smc_plan.specs.declared.leaf.Leaf.{Leaf}
use Rattle.smc_trace.specs.Named.{comes_to}
use Rattle.smc_trace.specs.Trace.{CallEnd}
use Rattle.smc_visits.specs.declared.edits.Edit.{Edit}
use Rattle.smc_visits.specs.declared.edits.Edit.TheVariants.{Leave, Remove, Write, Skip}
use Rattle.smc_visits.specs.declared.edits.Edits.{Edits}
use Rattle.smc_visits.specs.Rows.{RowOfVisit}
use Rattle.smc_visits.specs.Visits.{IsVisit}
use Rattle.smc_visits.specs.Edits.{Edited, EditsRows, counts_of, edit_calls, edit_in, edit_of, edited_calls, is_removed, is_skipped, is_written}
use Rattle.smc_visits.proofs.EditLaws.{same-counts}
use Rattle.smc_visits.proofs.FrontLaws.{IsOneRead, first-done, later-calls, row-front, scan-front}

-- ---- one edit

first-is-not-late : done.First ≡ done.Late → ⊥
first-is-not-late is = cc

one-gone : (gone here : Bool) → (if gone then done.First else done.Late) ≡ (if here then done.First else done.Late) → gone ≡ here
one-gone true true is = refl
one-gone true false is = absurd (first-is-not-late is)
one-gone false true is = absurd (first-is-not-late (sym is))
one-gone false false is = refl

-- the calls of an edit tell whether it removed its object first
edit-front : (n m : Number) (edit : Edit) (first here : Bool) (rest behind : List CallEnd) → edit_calls n edit first ++ rest ≡ edit_calls m edit here ++ behind
    → IsOneRead (is_removed edit first) (is_removed edit here) rest behind
edit-front n m Leave first here rest behind same = (refl, same)
edit-front n m Remove first here rest behind same = (one-gone first here (first-done _ _ _ _ same), later-calls _ _ _ _ same)
edit-front n m (Write field value) first here rest behind same = (refl, later-calls _ _ _ _ same)
edit-front n m Skip first here rest behind same = (refl, same)

-- ---- all edits

-- two objects were edited in the same way
record IsSame (decide : List ℕ → Edit) (one other : Edited) : Type 0 where
  edit : edit_in decide one ≡ edit_in decide other
  removed : is_removed (edit_in decide one) one.first ≡ is_removed (edit_in decide other) other.first

module _ (shape : Layout) (leaves : List Leaf) (decide : List ℕ → Edit) where
  visit-front : (one other : Edited) (rest behind : List CallEnd) → one.visit.held ≡ other.visit.held → IsVisit shape leaves one.visit → IsVisit shape leaves other.visit
      → (one.visit.calls ++ edit_calls one.visit.held.number (edit_in decide one) one.first) ++ rest ≡ (other.visit.calls ++ edit_calls other.visit.held.number (edit_in decide other) other.first) ++ behind
      → IsSame decide one other × (rest ≡ behind)
  visit-front one other rest behind held reads there same =
      let n = one.visit.held.number in
      let m = other.visit.held.number in
      let mine = edit_calls n (edit_in decide one) one.first in
      let yours = edit_calls m (edit_in decide other) other.first in
      let flat = sym (append_assoc one.visit.calls mine rest) ∙ same ∙ append_assoc other.visit.calls yours behind in
      let here = subst (λ (h : Held). RowOfVisit shape h.number leaves one.visit.row one.visit.calls) held reads in
      let row = row-front (mine ++ rest) (yours ++ behind) here there flat in
      let edit : edit_in decide one ≡ edit_in decide other = ap (edit_of decide) row.0 in
      let calls : edit_calls n (edit_in decide other) one.first ++ rest ≡ yours ++ behind = ap (λ (e : Edit). edit_calls n e one.first ++ rest) (sym edit) ∙ row.1 in
      let read = edit-front n m (edit_in decide other) one.first other.first rest behind calls in
      (record { edit = edit; removed = ap (λ (e : Edit). is_removed e one.first) edit ∙ read.0 }, read.1)

  -- a sum over objects that were edited in the same way
  sum-same : (count : Edited → ℕ) → ((one other : Edited) → IsSame decide one other → count one ≡ count other) → (visits others : List Edited) → AllZip (IsSame decide) visits others
      → sum_by count visits ≡ sum_by count others
  sum-same count each [] [] are = refl
  sum-same count each [] (y ∷ ys) are = absurd are
  sum-same count each (x ∷ xs) [] are = absurd are
  sum-same count each (x ∷ xs) (y ∷ ys) are =
      sum_by-cons count x xs
      ∙ (ap (λ (k : ℕ). k + sum_by count xs) (each x y are.0) ∙ ap (λ (k : ℕ). count y + k) (sum-same count each xs ys are.1))
      ∙ sym (sum_by-cons count y ys)

  counts-same : (visits others : List Edited) → AllZip (IsSame decide) visits others → counts_of decide visits ≡ counts_of decide others
  counts-same visits others are =
      same-counts _ _ _ _ _ _
      (sum-same (λ (e : Edited). cond (is_removed (edit_in decide e) e.first) 1 0) (λ one other is. ap (λ (b : Bool). cond b 1 0) is.removed) visits others are)
      (sum-same (λ (e : Edited). cond (is_written (edit_in decide e)) 1 0) (λ one other is. ap (λ (e : Edit). cond (is_written e) 1 0) is.edit) visits others are)
      (sum-same (λ (e : Edited). cond (is_skipped (edit_in decide e)) 1 0) (λ one other is. ap (λ (e : Edit). cond (is_skipped e) 1 0) is.edit) visits others are)

  -- two scans at one front have edited as many objects
  pub edits-front : (coll : ℕ) (edits counted : Edits) (first other rest behind : List CallEnd) → EditsRows shape coll leaves decide edits first → EditsRows shape coll leaves decide counted other
      → first ++ rest ≡ other ++ behind → IsOneRead edits counted rest behind
  edits-front coll edits counted first other rest behind one two same =
      let mine = flat_map (edited_calls decide one.scans.scan) one.visits in
      let yours = flat_map (edited_calls decide two.scans.scan) two.visits in
      let made = sym (ap (λ (x : List CallEnd). x ++ rest) one.scans.made) ∙ same ∙ ap (λ (x : List CallEnd). x ++ behind) two.scans.made in
      let below = sym (append_assoc mine (comes_to one.scans.scan None) rest) ∙ later-calls _ _ _ _ made ∙ append_assoc yours (comes_to two.scans.scan None) behind in
      let read =
      scan-front (λ (e : Edited). e.visit.held) (λ (e : Edited). e.visit.calls ++ edit_calls e.visit.held.number (edit_in decide e) e.first) (λ (e : Edited). IsVisit shape leaves e.visit) (IsSame decide)
      visit-front one.scans.scan two.scans.scan one.visits two.visits rest behind one.scans.each two.scans.each below in
      (one.counts ∙ counts-same one.visits two.visits read.0 ∙ sym two.counts, read.1)

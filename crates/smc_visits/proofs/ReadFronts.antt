-- The rows that a scan reads are read off from the front of a trace.
use Rattle.std.proofs.Common.{◌≡◌, ℕ, Option, None, List, [], ◌∷◌, ◌++◌, refl, sym, subst, ap, ◌∙◌, append_assoc}
use Rattle.std.specs.Prelude.{flat_map, option_to_list}
use Rattle.std.specs.List.{AllZip}
use Rattle.smc_shape.specs.Layout.{Layout}
use Rattle.smc_core.specs.declared.local.Held.{Held}
use Rattle.smc_plan.specs.declared.leaf.Leaf.{Leaf}
use Rattle.smc_trace.specs.Named.{comes_to}
use Rattle.smc_trace.specs.Trace.{CallEnd}
use Rattle.smc_visits.specs.Rows.{RowOfVisit}
use Rattle.smc_visits.specs.Visits.{IsVisit, Scans, Visited, rows_in, visit_calls}
use Rattle.smc_visits.proofs.FrontLaws.{later-calls, row-front, scan-front}

-- two visits have read the same row, or have dropped it
abbrev IsSameRow : Visited → Visited → Type 0
IsSameRow one other = one.row ≡ other.row

rows-same : (visits others : List Visited) → AllZip IsSameRow visits others → rows_in visits ≡ rows_in others
rows-same [] [] are = refl
rows-same [] (y ∷ ys) are = absurd are
rows-same (x ∷ xs) [] are = absurd are
rows-same (x ∷ xs) (y ∷ ys) are =
    ap (λ (r : Option (List ℕ)). option_to_list r ++ rows_in xs) are.0 ∙ ap (λ (k : List (List ℕ)). option_to_list y.row ++ k) (rows-same xs ys are.1)

module _ (shape : Layout) (leaves : List Leaf) where
  visit-front : (one other : Visited) (rest behind : List CallEnd) → one.held ≡ other.held → IsVisit shape leaves one → IsVisit shape leaves other
      → one.calls ++ rest ≡ other.calls ++ behind → IsSameRow one other × (rest ≡ behind)
  visit-front one other rest behind held reads there same =
      row-front rest behind (subst (λ (h : Held). RowOfVisit shape h.number leaves one.row one.calls) held reads) there same

  -- two scans at one front have read the same rows
  pub scans-front : (coll : ℕ) (visits others : List Visited) (first other rest behind : List CallEnd) → Scans Visited visit_calls (IsVisit shape leaves) coll visits first
      → Scans Visited visit_calls (IsVisit shape leaves) coll others other → first ++ rest ≡ other ++ behind → (rows_in visits ≡ rows_in others) × (rest ≡ behind)
  scans-front coll visits others first other rest behind one two same =
      let mine = flat_map (visit_calls one.scan) visits in
      let yours = flat_map (visit_calls two.scan) others in
      let made = sym (ap (λ (x : List CallEnd). x ++ rest) one.made) ∙ same ∙ ap (λ (x : List CallEnd). x ++ behind) two.made in
      let below = sym (append_assoc mine (comes_to one.scan None) rest) ∙ later-calls _ _ _ _ made ∙ append_assoc yours (comes_to two.scan None) behind in
      let read = scan-front (λ (v : Visited). v.held) (λ (v : Visited). v.calls) (IsVisit shape leaves) IsSameRow visit-front one.scan two.scan visits others rest behind one.each two.each below in
      (rows-same visits others read.0, read.1)

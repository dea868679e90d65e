-- A region is opened, and its passes are dealt out to seats of their own.
use Rattle.std.proofs.Common.{◌≡◌, ◌≢◌, ℕ, zero, suc, ◌+◌, ◌-◌, ◌<◌, ◌≤◌, List, [], ◌∷◌, ◌++◌, length, set, replicate, refl, sym, ap, ◌∙◌, subst, inl, inr, ⊎_elim, ◌⊎◌, arith, eq-eqb, ne_eqb}
use Rattle.std.specs.Prelude.{Some, slice_get, if◌then◌else◌, ◌==◌}
use Rattle.std.specs.List.{AllByRecursion}
use mathlib.Core.Option.{some, some-injective, some-ne-none}
use mathlib.Core.Logic.{dite}
use native.Mathlib.Decide.{ℕ_discrete}
use lib.ListN.{get_elem?}
use Rattle.atomic_table.specs.Seated.{TableId}
use Rattle.atomic_table.specs.Table.{Me, Splits, opening}
use Rattle.atomic_table.proofs.Lists.{at_set}
use Rattle.smc_shape.specs.Layout.{Layout, IsShape, words_of}
use Rattle.smc_core.specs.declared.local.Local.{Local}
use Rattle.smc_core.specs.declared.local.Opening.{Opening}
use Rattle.smc_core.specs.Local.{fresh}
use Rattle.smc_model.specs.World.{empty_world}
use Rattle.smc_rules.proofs.HistoryLaws.{new_starts}
use Rattle.smc_core.specs.Machine.{IsOpening, IsOpened, started}
use Rattle.smc_region.specs.declared.law.View.{View}
use Rattle.smc_region.specs.Callers.{IsOutside, IsSeatOf, caller_of, new_caller}
use Rattle.smc_region.specs.Reached.{IsReached}
use Rattle.smc_region.specs.Rule.{Fits, HoldsLocal}
use Rattle.smc_region.specs.Views.{one, numbered, holding, first_view, behind, front, sole}
use Rattle.smc_region.proofs.Keeps.{Rule}
use Rattle.smc_region.proofs.StepLaws.{get-longer, reached_by}

-- what a list with one more at its end has
pub at_snoc_where : {A : Type 0} (xs : List A) (b : A) (j : ℕ) (v : A) → get_elem? (xs ++ b ∷ []) j ≡ some v → ((j ≡ length xs) × (b ≡ v)) ⊎ ((j < length xs) × (get_elem? xs j ≡ some v))
at_snoc_where [] b zero v e = inl (refl, some-injective b v e)
at_snoc_where [] b (suc j) v e = absurd (some-ne-none v (sym e))
at_snoc_where (x ∷ xs) b zero v e = inr (omega arith, e)
at_snoc_where (x ∷ xs) b (suc j) v e = ⊎_elim (λ h. inl (ap suc h.0, h.1)) (λ h. let n = h.0 in inr (omega arith, h.1)) (at_snoc_where xs b j v e)

module _ (shape : Layout) where
  fresh-here : (n i : ℕ) → i < n → slice_get (replicate n (fresh shape)) i ≡ Some (fresh shape)
  fresh-here zero i h = absurd (omega arith)
  fresh-here (suc n) zero h = refl
  fresh-here (suc n) (suc i) h = fresh-here n i (omega arith)

  -- the passes from i on stand in a region of new passes
  all_fresh : (total i n : ℕ) → i + n ≤ total → AllByRecursion (HoldsLocal shape (replicate total (fresh shape)) (λ _. 0) 0 shape) (numbered i (replicate n (fresh shape)))
  all_fresh total i zero h = tt
  all_fresh total i (suc n) h = ((refl, refl, fresh-here total i (omega arith)), all_fresh total (i + 1) n (omega arith))

  -- a region that opens is in a state that is reached
  pub opened_is_reached : (opens : Opening) (row : List ℕ) → IsShape shape → IsOpening opens → IsOpened shape opens row → IsReached shape opens row (started shape row).locals
  opened_is_reached opens row valid is opened = reached_by shape opens (started shape row) valid (record { start = row; starts = new_starts shape opens row is opened; steps = []; leads = refl })

  pub opens_rule : (opens : Opening) (row : List ℕ) → IsShape shape → IsOpening opens → IsOpened shape opens row → Rule shape opens (opening row [] (first_view shape))
  opens_rule opens row valid is opened = record {
    locals = (started shape row).locals;
    owner = λ _. 0;
    noter = λ _ _. 0;
    reached = opened_is_reached opens row valid is opened;
    fits = λ seat view at. only seat view at;
  }
    where
      only : (seat : ℕ) (view : View) → get_elem? (first_view shape ∷ []) seat ≡ some view → Fits shape (replicate shape.passes (fresh shape)) (λ _. 0) (λ _ _. 0) seat view
      only zero view at = subst (λ (u : View). Fits shape (replicate shape.passes (fresh shape)) (λ _. 0) (λ _ _. 0) 0 u) (some-injective (first_view shape) view at)
          record { passes = all_fresh shape.passes 0 shape.passes (omega arith); notes = tt }
      only (suc seat) view at = absurd (some-ne-none view (sym at))

-- the owner of each pass, once this one has moved to a new seat
abbrev moved : (ℕ → ℕ) → ℕ → ℕ → ℕ → ℕ
moved owner pass new q = if q == pass then new else owner q

moved-here : (owner : ℕ → ℕ) (pass new : ℕ) → moved owner pass new pass ≡ new
moved-here owner pass new = rw (eq-eqb pass pass refl) refl

moved-else : (owner : ℕ → ℕ) (pass new q : ℕ) → q ≢ pass → moved owner pass new q ≡ owner q
moved-else owner pass new q ne = rw (ne_eqb q pass ne) refl

module _ (shape : Layout) (locals : List Local) (owner : ℕ → ℕ) (pass new : ℕ) where
  -- seats that do not have the pass keep what they hold
  kept_by : (seat : ℕ) (told : Layout) (xs : List (ℕ × Local)) → owner pass ≢ seat → AllByRecursion (HoldsLocal shape locals owner seat told) xs → AllByRecursion (HoldsLocal shape locals (moved owner pass new) seat told) xs
  kept_by seat told [] away h = tt
  kept_by seat told (x ∷ xs) away (h, hs) = let ne : x.0 ≢ pass = λ e. away (ap owner (sym e) ∙ h.1) in ((h.0, moved-else owner pass new x.0 ne ∙ h.1, h.2), kept_by seat told xs away hs)

  above : (seat : ℕ) (told : Layout) (from : ℕ) (ls : List Local) → pass < from → AllByRecursion (HoldsLocal shape locals owner seat told) (numbered from ls)
      → AllByRecursion (HoldsLocal shape locals (moved owner pass new) seat told) (numbered from ls)
  above seat told from [] lt h = tt
  above seat told from (l ∷ ls) lt (h, hs) = ((h.0, moved-else owner pass new from (λ e. omega arith) ∙ h.1, h.2), above seat told (from + 1) ls (omega arith) hs)

-- the first pass of a seat that has no note goes to a seat of its own
deals : (shape : Layout) (opens : Opening) (seat : ℕ) (told : Layout) (pass : ℕ) (l : Local) (ls : List Local)
    → Splits (Rule shape opens) seat (holding told pass (l ∷ ls)) (holding told (pass + 1) ls) (one told pass l)
deals shape opens seat told pass l ls s kept at =
    let v : View = holding told pass (l ∷ ls) in
    let w : View = holding told (pass + 1) ls in
    let mine : Fits shape kept.locals kept.owner kept.noter seat v = kept.fits seat v at in
    let new : ℕ = length (set s.views seat w) in
    record {
      locals = kept.locals;
      owner = moved kept.owner pass new;
      noter = kept.noter;
      reached = kept.reached;
      fits = λ j u is. ⊎_elim
          (λ (h : (j ≡ new) × (one told pass l ≡ u)). subst (λ (x : View). Fits shape kept.locals (moved kept.owner pass new) kept.noter j x) h.1
          record { passes = ((mine.passes.0.0, moved-here kept.owner pass new ∙ sym h.0, mine.passes.0.2), tt); notes = tt })
          (λ (h : (j < new) × (get_elem? (set s.views seat w) j ≡ some u)). ⊎_elim
          (λ (g : (j ≡ seat) × (w ≡ u)). subst (λ (x : View). Fits shape kept.locals (moved kept.owner pass new) kept.noter j x) g.1
          (subst (λ (z : ℕ). Fits shape kept.locals (moved kept.owner pass new) kept.noter z w) (sym g.0)
          record { passes = above shape kept.locals kept.owner pass new seat told (pass + 1) ls (omega arith) mine.passes.1; notes = tt }))
          (λ (g : (j ≢ seat) × (get_elem? s.views j ≡ some u)). let f = kept.fits j u g.1 in
          record { passes = kept_by shape kept.locals kept.owner pass new j u.shape u.locals (λ e. g.0 (sym e ∙ mine.passes.0.1)) f.passes; notes = f.notes })
          (at_set s.views seat j w u h.1))
          (at_snoc_where (set s.views seat w) (one told pass l) j u is);
    }

-- the view that still has the passes from this one on, none of which has done anything
abbrev pub dealing : Layout → ℕ → View
dealing shape pass = holding shape pass (replicate (shape.passes - pass) (fresh shape))

abbrev dealt : Layout → ℕ → View
dealt shape pass = holding shape pass (fresh shape ∷ replicate (shape.passes - (pass + 1)) (fresh shape))

dealing-is : (shape : Layout) (pass : ℕ) → pass < shape.passes → dealing shape pass ≡ dealt shape pass
dealing-is shape pass below = let n : shape.passes - pass ≡ suc (shape.passes - (pass + 1)) = omega arith in λ k. holding shape pass (replicate (n k) (fresh shape))

pub deal_step : (shape : Layout) (opens : Opening) (seat : ℕ) (told : Layout) (pass : ℕ) (me : Me (Unit {0}) View) → me ≡ (dealing told pass, []) → pass < told.passes → Splits (Rule shape opens) seat me.0 (behind me.0) (front me.0)
deal_step shape opens seat told pass me is below =
    let same : me.0 ≡ dealt told pass = (λ k. (is k).0) ∙ dealing-is told pass below in
    subst (λ (v : View). Splits (Rule shape opens) seat v (behind v) (front v)) (sym same) (deals shape opens seat told pass (fresh told) (replicate (told.passes - (pass + 1)) (fresh told)))

pub deal_front : (told : Layout) (pass : ℕ) (me me' : Me (Unit {0}) View) → me ≡ (dealing told pass, []) → pass < told.passes → me' ≡ (front me.0, []) → me' ≡ (one told pass (fresh told), [])
deal_front told pass me me' is below is' = let same : me.0 ≡ dealt told pass = (λ k. (is k).0) ∙ dealing-is told pass below in is' ∙ (λ k. (front (same k), []))

pub deal_behind : (told : Layout) (pass : ℕ) (me me' : Me (Unit {0}) View) → me ≡ (dealing told pass, []) → pass < told.passes → me' ≡ (behind me.0, me.1) → me' ≡ (dealing told (pass + 1), [])
deal_behind told pass me me' is below is' = let same : me.0 ≡ dealt told pass = (λ k. (is k).0) ∙ dealing-is told pass below in is' ∙ (λ k. (behind (same k), (is k).1))

-- the new seat is that of its pass
pub new_seat : (told : Layout) (pass : ℕ) (me : Me (Unit {0}) View) → me ≡ (one told pass (fresh told), []) → pass < told.passes → IsSeatOf pass me
new_seat told pass me is below = subst (λ (m : Me (Unit {0}) View). IsSeatOf pass m) (sym is) record { is = refl; below = below }

-- one more caller at the end
pub push_at : {A : Type 0} (f : ℕ → A) (xs ys : List A) (x : A) (n : ℕ) → length xs ≡ n → ys ≡ xs ++ x ∷ [] → x ≡ f n → ((k : ℕ) → k < n → slice_get xs k ≡ Some (f k))
    → (k : ℕ) → k < n + 1 → slice_get ys k ≡ Some (f k)
push_at f xs ys x n len is new old k below = rw is (dite (ℕ_discrete k n)
    (λ e. let t : k ≡ length xs = omega arith in get_last xs x k t ∙ ap (λ y. Some y) new ∙ ap (λ i. Some (f i)) (sym e))
    (λ ne. get-longer xs (x ∷ []) k (f k) (old k (omega arith))))
  where
    get_last : {A : Type 0} (xs : List A) (x : A) (k : ℕ) → k ≡ length xs → slice_get (xs ++ x ∷ []) k ≡ Some x
    get_last [] x zero e = refl
    get_last [] x (suc k) e = absurd (omega arith)
    get_last (y ∷ xs) x zero e = absurd (omega arith)
    get_last (y ∷ xs) x (suc k) e = get_last xs x k (omega arith)

pub new_caller_is : (told : Layout) (pass : ℕ) (table : TableId) (me : Me (Unit {0}) View) → me ≡ (one told pass (fresh told), []) → caller_of pass table me ≡ new_caller table told pass
new_caller_is told pass table me is k = caller_of pass table (is k)

-- a new pass is outside a section
pub new_outside : (told : Layout) (pass : ℕ) (me : Me (Unit {0}) View) → me ≡ (one told pass (fresh told), []) → IsOutside (sole me.0.shape me.0.locals)
new_outside told pass me is = subst (λ (m : Me (Unit {0}) View). IsOutside (sole m.0.shape m.0.locals)) (sym is) record { phase = refl; section = refl; scans = refl }

-- every region has a word
pub some_words : (shape : Layout) → 0 < words_of shape
unfolding words_of
some_words shape = omega arith

-- Each note that a pass has learnt is one that another pass has made.
use Rattle.std.proofs.Common.{◌≡◌, ◌≢◌, ℕ, zero, suc, Bool, true, false, Option, Some, None, List, [], ◌∷◌, ◌++◌, length, replicate, refl, sym, ap, ◌∙◌, subst, inl, inr, ⊎_elim, ◌⊎◌, eq-eqb, ne_eqb}
use Rattle.std.specs.Prelude.{slice_get, slice_set, option_and_then, ◌||◌, ◌&&◌, ◌==◌, if◌then◌else◌}
use Rattle.std.proofs.lemmas.Bool.{or_left, or_right}
use Rattle.smc_shape.specs.Layout.{Layout}
use Rattle.smc_core.specs.declared.call.Call.TheVariants as call
use Rattle.smc_core.specs.declared.call.Choice.{Choice}
use Rattle.smc_core.specs.declared.call.Choice.TheVariants.{Start}
use Rattle.smc_core.specs.declared.local.Learnt.{Learnt}
use Rattle.smc_core.specs.declared.local.Local.{Local}
use Rattle.smc_core.specs.Local.{fresh, after, learnt_after, notes_after}
use Rattle.smc_core.specs.Machine.{Machine, Steps, Leads, Reach, told_by, has_learnt, is_learnt, noted_length, started}
use Rattle.smc_core.specs.Row.{row_shows}
use Rattle.smc_rules.proofs.CarryLaws.{by_pass}
use Rattle.smc_region.proofs.StepLaws.{get-set_same, get-set_other, notes-longer, some-same}

-- one of two tests that hold together or apart holds
or_where : (x y : Bool) → (x || y) ≡ true → (x ≡ true) ⊎ (y ≡ true)
or_where true y e = inl refl
or_where false y e = inr e

-- a pass that has learnt one note more has not learnt another one by it
pub has_learnt-else : (learnt : List Learnt) (pass number other note : ℕ) → (pass ≡ other → number ≢ note)
    → has_learnt (learnt ++ record { pass = pass; note = number } ∷ []) other note ≡ has_learnt learnt other note
has_learnt-else [] pass number other note apart = by_pass pass other
    (λ e. rw (eq-eqb pass other e, ne_eqb number note (apart e)) refl)
    (λ ne. rw (ne_eqb pass other ne) refl)
has_learnt-else (first ∷ later) pass number other note apart = ap (λ (b : Bool). (first.pass == other && first.note == note) || b) (has_learnt-else later pass number other note apart)

-- what it has learnt then, it had learnt, or it is that note
has_learnt-where : (learnt : List Learnt) (choice : Choice) (other note : ℕ) → has_learnt (learnt_after learnt choice) other note ≡ true
    → (has_learnt learnt other note ≡ true) ⊎ (choice ≡ Start (call.Learn other note))
has_learnt-where learnt (Start (call.Learn pass number)) other note is = by_pass pass other
    (λ e. by_pass number note
    (λ f. inr (λ i. Start (call.Learn (e i) (f i))))
    (λ ne. inl (sym (has_learnt-else learnt pass number other note (λ _. ne)) ∙ is)))
    (λ ne. inl (sym (has_learnt-else learnt pass number other note (λ e. absurd (ne e))) ∙ is))
has_learnt-where learnt _ other note is = inl is

-- what some pass has learnt after a step of one, it had learnt, or that one has
is_learnt-where : (locals : List Local) (pass : ℕ) (new : Local) (other note : ℕ) → is_learnt (slice_set locals pass new) other note ≡ true
    → (is_learnt locals other note ≡ true) ⊎ (has_learnt new.learnt other note ≡ true)
is_learnt-where [] pass new other note is = inl is
is_learnt-where (first ∷ later) zero new other note is = ⊎_elim
    (λ h. inr h)
    (λ h. inl (or_right (has_learnt first.learnt other note) (is_learnt later other note) h))
    (or_where (has_learnt new.learnt other note) (is_learnt later other note) is)
is_learnt-where (first ∷ later) (suc pass) new other note is = ⊎_elim
    (λ h. inl (or_left (has_learnt first.learnt other note) (is_learnt later other note) h))
    (λ h. ⊎_elim (λ k. inl (or_right (has_learnt first.learnt other note) (is_learnt later other note) k)) (λ k. inr k) (is_learnt-where later pass new other note h))
    (or_where (has_learnt first.learnt other note) (is_learnt (slice_set later pass new) other note) is)

-- what one pass has learnt is learnt
learnt-here : (locals : List Local) (pass : ℕ) (l : Local) (other note : ℕ) → slice_get locals pass ≡ Some l → has_learnt l.learnt other note ≡ true → is_learnt locals other note ≡ true
learnt-here [] pass l other note here has = cc
learnt-here (first ∷ later) zero l other note here has =
    or_left (has_learnt first.learnt other note) (is_learnt later other note) (ap (λ (k : Local). has_learnt k.learnt other note) (some-same first l here) ∙ has)
learnt-here (first ∷ later) (suc pass) l other note here has =
    or_right (has_learnt first.learnt other note) (is_learnt later other note) (learnt-here later pass l other note here has)

-- a note that may be learnt was made
pub told-noted : (locals : List Local) (pass other note told : ℕ) → told_by locals pass (Start (call.Learn other note)) ≡ Some told → noted_length locals other note ≡ Some told
told-noted locals pass other note told is = go (other == pass || is_learnt locals other note) is
  where
    go : (t : Bool) → (if t then None else noted_length locals other note) ≡ Some told → noted_length locals other note ≡ Some told
    go true e = absurd (cc)
    go false e = e

-- the length that a note tells stays what it is
noted_length-stays : (locals : List Local) (pass : ℕ) (l new : Local) (choice : Choice) (other note n : ℕ) → slice_get locals pass ≡ Some l → new.notes ≡ notes_after l.notes (length l.log) choice
    → noted_length locals other note ≡ Some n → noted_length (slice_set locals pass new) other note ≡ Some n
noted_length-stays locals pass l new choice other note n here notes is =
    let of : Option Local → Option ℕ = option_and_then (λ (k : Local). slice_get k.notes note) in by_pass other pass
    (λ e. let found : slice_get locals other ≡ Some l = subst (λ (q : ℕ). slice_get locals q ≡ Some l) (sym e) here in
    let there : slice_get (slice_set locals pass new) other ≡ Some new = subst (λ (q : ℕ). slice_get (slice_set locals pass new) q ≡ Some new) (sym e) (get-set_same locals pass l new here) in
    ap of there ∙ (ap (λ (ns : List ℕ). slice_get ns note) notes ∙ notes-longer l.notes choice (length l.log) note n (sym (ap of found) ∙ is)))
    (λ ne. ap of (get-set_other locals pass other new ne) ∙ is)

-- each note that was learnt was made
abbrev pub WereMade : List Local → Type 0
WereMade locals = (other note : ℕ) → is_learnt locals other note ≡ true → (n : ℕ) × (noted_length locals other note ≡ Some n)

made_step : (shape : Layout) (m next : Machine) (pass : ℕ) (choice : Choice) → Steps shape m pass choice next → WereMade m.locals → WereMade next.locals
made_step shape m next pass choice step made =
    let l : Local = step.local in
    let new : Local = after shape pass l choice step.told (row_shows shape step.offered.op m.row) in
    let go : WereMade (slice_set m.locals pass new) = (λ other note is.
    let was : (n : ℕ) × (noted_length m.locals other note ≡ Some n) = ⊎_elim
    (λ h. made other note h)
    (λ h. ⊎_elim
    (λ k. made other note (learnt-here m.locals pass l other note step.here k))
    (λ (k : choice ≡ Start (call.Learn other note)). (step.told, told-noted m.locals pass other note step.told (subst (λ (c : Choice). told_by m.locals pass c ≡ Some step.told) k step.allows)))
    (has_learnt-where l.learnt choice other note h))
    (is_learnt-where m.locals pass new other note is) in
    (was.0, noted_length-stays m.locals pass l new choice other note was.0 step.here refl was.1)) in
    subst (λ (k : Machine). WereMade k.locals) (sym step.leads) go

made_along : (shape : Layout) (first : Machine) (steps : List (ℕ × Choice)) (last : Machine) → Leads shape first steps last → WereMade first.locals → WereMade last.locals
made_along shape first [] last leads made = subst (λ (k : Machine). WereMade k.locals) leads made
made_along shape first (one ∷ later) last leads made = made_along shape leads.0 later last leads.2 (made_step shape first leads.0 one.0 one.1 leads.1 made)

-- new passes have learnt nothing
none_learnt : (shape : Layout) (n other note : ℕ) → is_learnt (replicate n (fresh shape)) other note ≡ true → ⊥
none_learnt shape zero other note is = cc
none_learnt shape (suc n) other note is = none_learnt shape n other note is

pub were_made : (shape : Layout) (start row : List ℕ) (locals : List Local) → Reach shape start row locals → WereMade locals
were_made shape start row locals reach = made_along shape (started shape start) reach.0 record { row = row; locals = locals } reach.1
    (λ other note is. absurd (none_learnt shape shape.passes other note is))

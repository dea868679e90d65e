-- What a pass's log and answers tell of it holds after every list of steps; how its log and answers go on from a moment.
use Rattle.std.proofs.Common.{◌≡◌, ℕ, ◌+◌, ◌≤◌, ◌<◌, nat_le, Bool, true, false, Option, Some, None, List, [], ◌∷◌, ◌++◌, length, append-nil, refl, sym, ap, ◌∙◌, subst, arith}
use Rattle.std.specs.Prelude.{⊤, filter, slice_get, slice_set, if◌then◌else◌}
use Rattle.std.proofs.lemmas.Bool.Decides.{nat_tests}
use Rattle.std.proofs.lemmas.List.{length-append}
use Rattle.std.proofs.lemmas.List.Elements.{filter-append}
use Rattle.smc_shape.specs.Layout.{Layout}
use Rattle.smc_model.specs.declared.event.Event.{Event}
use Rattle.smc_core.specs.declared.call.Choice.{Choice}
use Rattle.smc_core.specs.declared.change.Change.{Change}
use Rattle.smc_core.specs.declared.done.Done.{Done}
use Rattle.smc_core.specs.declared.local.Answer.{Answer}
use Rattle.smc_core.specs.declared.local.Local.{Local}
use Rattle.smc_core.specs.declared.op.Offer.{Offer}
use Rattle.smc_core.specs.declared.word.Word.{Word}
use Rattle.smc_core.specs.Change.{change}
use Rattle.smc_core.specs.Local.{after, answered, logged}
use Rattle.smc_core.specs.Machine.{Machine, Leads, local_offer}
use Rattle.smc_core.specs.Row.{row_shows}
use Rattle.smc_rules.proofs.CarryLaws.{by_pass, get-set_same, get-set_other, some-same}
use Rattle.smc_refine.specs.Alone.{is_enter, is_leave, owns_then, owns_after, answers_until}
use Rattle.smc_refine.proofs.OrderSteps.{told_of, logged-told}
use Rattle.smc_refine.proofs.OwnLogs.{owns_told}
use Rattle.smc_refine.proofs.OwnSteps.{enters, leaves, Tied, Follows, is_inside, is_some, owns_at, follows}

-- all these answers were kept while the log had at most so many events
abbrev pub KeptWithin : ℕ → List Answer → Type 0
KeptWithin most [] = ⊤
KeptWithin most (first ∷ later) = (first.length ≤ most) × KeptWithin most later

kept-more : (most more : ℕ) (answers : List Answer) → most ≤ more → KeptWithin most answers → KeptWithin more answers
kept-more most more [] le k = tt
kept-more most more (first ∷ later) le k = (omega (arith, le, k.0), kept-more most more later le k.1)

kept-one_more : (most : ℕ) (answers : List Answer) (d : Option Done) → KeptWithin most answers → KeptWithin most (answered answers most d)
kept-one_more most answers None k = k
kept-one_more most [] (Some done) k = (omega arith, tt)
kept-one_more most (first ∷ later) (Some done) k = (k.0, kept-one_more most later (Some done) k.1)

-- an answer more decides whether the pass has a round
owns-answered : (owns : Bool) (answers : List Answer) (n : ℕ) (d : Option Done) → owns_after owns (answered answers n d) ≡ owns_told (owns_after owns answers) d
owns-answered owns answers n None = refl
owns-answered owns [] n (Some done) = refl
owns-answered owns (first ∷ later) n (Some done) = owns-answered (owns_then owns first.done) later n (Some done)

-- one answer, if it is kept by a test
abbrev one : Bool → ℕ → Done → List Answer
one t n done = let answer : Answer = record { length = n; done = done } in if t then answer ∷ [] else []

-- the answers up to a length
pub until-all : (count : ℕ) (answers : List Answer) → KeptWithin count answers → answers_until count answers ≡ answers
until-all count [] k = refl
until-all count (first ∷ later) k = go (nat_le first.length count) refl (until-all count later k.1)
  where
    go : (t : Bool) → nat_le first.length count ≡ t → answers_until count later ≡ later
        → (if t then first ∷ answers_until count later else answers_until count later) ≡ first ∷ later
    go true is rest = ap (λ (xs : List Answer). first ∷ xs) rest
    go false is rest = absurd (grind (arith, nat_tests, is, k.0))

-- an answer that is kept later is not among them
pub until-later : (count n : ℕ) (answers : List Answer) (d : Option Done) → count < n → answers_until count (answered answers n d) ≡ answers_until count answers
until-later count n answers None lt = refl
until-later count n answers (Some done) lt =
    filter-append (λ (x : Answer). nat_le x.length count) answers (record { length = n; done = done } ∷ [])
    ∙ (ap (λ (xs : List Answer). answers_until count answers ++ xs) (go (nat_le n count) refl) ∙ append-nil (answers_until count answers))
  where
    go : (t : Bool) → nat_le n count ≡ t → one t n done ≡ []
    go true is = absurd (grind (arith, nat_tests, is, lt))
    go false is = refl

-- one that says nothing of rounds changes nothing
pub until-quiet : (count n : ℕ) (answers : List Answer) (d : Option Done) → ((owns : Bool) → owns_told owns d ≡ owns)
    → owns_after false (answers_until count (answered answers n d)) ≡ owns_after false (answers_until count answers)
until-quiet count n answers None quiet = refl
until-quiet count n answers (Some done) quiet =
    ap (owns_after false) (filter-append (λ (x : Answer). nat_le x.length count) answers (record { length = n; done = done } ∷ []))
    ∙ go (nat_le n count)
  where
    go : (t : Bool) → owns_after false (answers_until count answers ++ one t n done) ≡ owns_after false (answers_until count answers)
    go true = owns-answered false (answers_until count answers) n (Some done) ∙ quiet (owns_after false (answers_until count answers))
    go false = ap (owns_after false) (append-nil (answers_until count answers))

-- a log with what a step tells has the marks of both
marks-logged : (p : Event → Bool) (log : List Event) (e : Option Event) → length (filter p (logged log e)) ≡ length (filter p log) + length (filter p (told_of e))
marks-logged p log e =
    ap (λ (es : List Event). length (filter p es)) (logged-told log e)
    ∙ (ap length (filter-append p log (told_of e)) ∙ length-append (filter p log) (filter p (told_of e)))

-- what its log and answers tell of a pass
pub record Own (l : Local) : Type 0 where
  pub tied : Tied l.stand.section l.stand.phase (enters l.log) (leaves l.log)
  pub round : is_some l.stand.round ≡ owns_at l.stand.phase (owns_after false l.answers)
  pub within : KeptWithin (length l.log) l.answers

longer : (log : List Event) (e : Option Event) → length log ≤ length (logged log e)
longer log None = omega arith
longer log (Some event) = omega (arith, length-append {A = Event} log (event ∷ []))

module _ (shape : Layout) (pass : ℕ) where
  module _ (l : Local) (choice : Choice) (o : Offer) (told : ℕ) (w : Word) (own : Own l) (offers : local_offer shape pass l choice ≡ Some o) where
    abbrev c : Change
    c = change shape pass l.stand l.stand.section l.stand.phase choice told w

    abbrev l' : Local
    l' = after shape pass l choice told w

    made : Follows l.stand.section l'.stand.section l'.stand.phase l'.stand.round c.event c.answer (enters l.log) (leaves l.log) (owns_after false l.answers)
    made = follows shape pass l.stand l.stand.round o told w (enters l.log) (leaves l.log) (owns_after false l.answers) l.stand.section l.stand.phase choice own.tied own.round offers

    -- a step keeps it
    pub own-after : Own (after shape pass l choice told w)
    own-after = record {
      tied = subst (λ (n : ℕ). Tied l'.stand.section l'.stand.phase n (leaves l'.log)) (sym (marks-logged is_enter l.log c.event))
          (subst (λ (n : ℕ). Tied l'.stand.section l'.stand.phase (enters l.log + enters (told_of c.event)) n) (sym (marks-logged is_leave l.log c.event)) made.tied);
      round = made.round ∙ ap (owns_at l'.stand.phase) (sym (owns-answered false l.answers (length (logged l.log c.event)) c.answer));
      within = kept-one_more (length (logged l.log c.event)) l.answers c.answer (kept-more (length l.log) (length (logged l.log c.event)) l.answers (longer l.log c.event) own.within);
    }

    -- outside a section a step that tells nothing does not speak of rounds
    pub quiet-after : is_inside l.stand.section ≡ false → c.event ≡ None → (is_inside l'.stand.section ≡ false) × ((owns : Bool) → owns_told owns c.answer ≡ owns)
    quiet-after = made.quiet

  -- what holds of a pass and is kept by each of its steps goes on to hold
  pub carries : (P : Local → Type 0)
      → ((l : Local) (choice : Choice) (o : Offer) (told : ℕ) (w : Word) → P l → local_offer shape pass l choice ≡ Some o → P (after shape pass l choice told w))
      → (m : Machine) (steps : List (ℕ × Choice)) (last : Machine) (l : Local) → Leads shape m steps last → slice_get m.locals pass ≡ Some l → P l
      → (l' : Local) × (slice_get last.locals pass ≡ Some l') × P l'
  carries P keeps m [] last l leads here p = (l, subst (λ (k : Machine). slice_get k.locals pass ≡ Some l) leads here, p)
  carries P keeps m (first ∷ later) last l (next, step, leads) here p =
      let l'' : Local = after shape first.0 step.local first.1 step.told (row_shows shape step.offered.op m.row) in
      by_pass pass first.0
      (λ same.
      let found : slice_get m.locals pass ≡ Some step.local = subst (λ (k : ℕ). slice_get m.locals k ≡ Some step.local) (sym same) step.here in
      let own : P step.local = subst P (some-same l step.local (sym here ∙ found)) p in
      let moved : P (after shape pass step.local first.1 step.told (row_shows shape step.offered.op m.row)) =
      keeps step.local first.1 step.offered step.told (row_shows shape step.offered.op m.row) own (subst (λ (k : ℕ). local_offer shape k step.local first.1 ≡ Some step.offered) (sym same) step.offers) in
      carries P keeps next later last l'' leads
      (subst (λ (k : Machine). slice_get k.locals pass ≡ Some l'') (sym step.leads)
      (subst (λ (k : ℕ). slice_get (slice_set m.locals first.0 l'') k ≡ Some l'') (sym same) (get-set_same m.locals first.0 step.local l'' step.here)))
      (subst (λ (k : ℕ). P (after shape k step.local first.1 step.told (row_shows shape step.offered.op m.row))) same moved))
      (λ apart.
      carries P keeps next later last l leads
      (subst (λ (k : Machine). slice_get k.locals pass ≡ Some l) (sym step.leads) (get-set_other m.locals first.0 pass l'' apart ∙ here)) p)

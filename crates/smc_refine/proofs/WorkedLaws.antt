-- Worked schedules after which events are alone, or are not, computed.
use Rattle.std.proofs.Common.{◌≡◌, ℕ, zero, suc, ◌≤◌, true, false, Option, Some, None, List, [], ◌∷◌, map, ◌⊎◌, inl, inr, refl, sym, ap, ◌∙◌, subst, arith}
use Rattle.std.specs.Prelude.{IfSome, IsSomeAnd, Contains, option_map, slice_get, take}
use Rattle.smc_shape.specs.Places.{at}
use Rattle.smc_model.specs.declared.event.Event.{Event}
use Rattle.smc_model.specs.declared.event.Event.TheVariants.{Add, Told, Enter, Leave}
use Rattle.smc_core.specs.declared.done.Done.{Done}
use Rattle.smc_core.specs.declared.done.Done.TheVariants.{At, Cancelled, Early, Learned, Made, Noted, Out, Round}
use Rattle.smc_core.specs.declared.local.Answer.{Answer}
use Rattle.smc_core.specs.declared.local.Local.{Local}
use Rattle.smc_core.specs.Machine.{Machine}
use Rattle.smc_core.specs.Played.{object, played}
use Rattle.smc_rules.proofs.CarryLaws.{some-same}
use Rattle.smc_refine.specs.Alone.{Alone, IsApart, IsLeft, TellsOf, answers_until, owns_after}
use Rattle.smc_refine.specs.Worked.{cancels_its_round, enters_too_soon, keeps_its_round, told_too_soon, works_between, IsAloneAfter, IsNotAloneAfter}

-- what a pass keeps for others to read
abbrev kept_by : Local → List Event × List Answer
kept_by l = (l.log, l.answers)

-- what the passes of a machine keep
abbrev kept_in : Option Machine → Option (List (List Event × List Answer))
kept_in m = option_map (λ (k : Machine). map kept_by k.locals) m

-- an answer that was kept at this length
abbrev kept : ℕ → Done → Answer
kept length done = record { length = length; done = done }

-- what the two passes of each schedule keep
works_between-kept : kept_in (played works_between) ≡ Some (
    (Enter ∷ Leave ∷ Told 1 3 ∷ Enter ∷ Leave ∷ [], kept 1 (At 2) ∷ kept 2 Out ∷ kept 2 (Noted 0) ∷ kept 3 Learned ∷ kept 4 (At 2) ∷ kept 5 Out ∷ [])
    ∷ (Told 0 2 ∷ Enter ∷ Leave ∷ [], kept 1 Learned ∷ kept 2 (At 2) ∷ kept 3 Out ∷ kept 3 (Noted 0) ∷ []) ∷ [])
unfolding at played
works_between-kept = refl

enters_too_soon-kept : kept_in (played enters_too_soon) ≡ Some (
    (Enter ∷ Leave ∷ Enter ∷ Leave ∷ Told 1 3 ∷ [], kept 1 (At 2) ∷ kept 2 Out ∷ kept 2 (Noted 0) ∷ kept 3 (At 2) ∷ kept 4 Out ∷ kept 5 Learned ∷ [])
    ∷ (Told 0 2 ∷ Enter ∷ Leave ∷ [], kept 1 Learned ∷ kept 2 (At 2) ∷ kept 3 Out ∷ kept 3 (Noted 0) ∷ []) ∷ [])
unfolding at played
enters_too_soon-kept = refl

told_too_soon-kept : kept_in (played told_too_soon) ≡ Some (
    (Enter ∷ Leave ∷ Told 1 1 ∷ [], kept 1 (At 2) ∷ kept 2 Out ∷ kept 2 (Noted 0) ∷ kept 3 Learned ∷ [])
    ∷ (Told 0 2 ∷ Enter ∷ Leave ∷ [], kept 1 Learned ∷ kept 1 (Noted 0) ∷ kept 2 (At 2) ∷ kept 3 Out ∷ []) ∷ [])
unfolding at played
told_too_soon-kept = refl

keeps_its_round-kept : kept_in (played keeps_its_round) ≡ Some ((
  Enter ∷ Add (object 1 0) 0 (1 ∷ []) ∷ Add (object 1 64) 0 (2 ∷ []) ∷ Leave ∷ Told 1 3 ∷ [],
  kept 1 (At 5) ∷ kept 2 (Made 0) ∷ kept 3 (Made 64) ∷ kept 3 (Round 0 6 1) ∷ kept 3 (Early 5 6) ∷ kept 4 Out ∷ kept 4 (Noted 0) ∷ kept 5 Learned ∷ [],
)
    ∷ (Told 0 4 ∷ Enter ∷ Leave ∷ [], kept 1 Learned ∷ kept 2 (At 5) ∷ kept 3 Out ∷ kept 3 (Noted 0) ∷ []) ∷ [])
unfolding at played
keeps_its_round-kept = refl

cancels_its_round-kept : kept_in (played cancels_its_round) ≡ Some ((
  Enter ∷ Add (object 1 0) 0 (1 ∷ []) ∷ Add (object 1 64) 0 (2 ∷ []) ∷ Leave ∷ Told 1 3 ∷ [],
  kept 1 (At 5) ∷ kept 2 (Made 0) ∷ kept 3 (Made 64) ∷ kept 3 (Round 0 6 1) ∷ kept 3 Cancelled ∷ kept 4 Out ∷ kept 4 (Noted 0) ∷ kept 5 Learned ∷ [],
)
    ∷ (Told 0 4 ∷ Enter ∷ Leave ∷ [], kept 1 Learned ∷ kept 2 (At 5) ∷ kept 3 Out ∷ kept 3 (Noted 0) ∷ []) ∷ [])
unfolding at played
cancels_its_round-kept = refl

-- of two passes, with what they keep
module _ (since until : ℕ) (log mine : List Event) (answers own : List Answer) where
  abbrev Both : Option Machine → Type 0
  Both found = kept_in found ≡ Some ((log, answers) ∷ (mine, own) ∷ [])

  abbrev Same : List Local → Type 0
  Same locals = map kept_by locals ≡ (log, answers) ∷ (mine, own) ∷ []

  first-log : (a b : Local) (more : List Local) → Same (a ∷ b ∷ more) → (a.log ≡ log) × (a.answers ≡ answers) × (b.log ≡ mine)
  first-log a b more same =
      let one : kept_by a ≡ (log, answers) = cc in
      let two : kept_by b ≡ (mine, own) = cc in
      (ap (λ (z : List Event × List Answer). z.0) one, ap (λ (z : List Event × List Answer). z.1) one, ap (λ (z : List Event × List Answer). z.0) two)

  alone-kept : ((l : Local) → l.log ≡ log → l.answers ≡ answers → IsApart 1 since until mine 0 l)
      → (found : Option Machine) → Both found → IsSomeAnd found (λ m. Alone m.locals 1 since until)
  alone-kept apart None both = absurd (cc)
  alone-kept apart (Some m) both = go m.locals (some-same (map kept_by m.locals) ((log, answers) ∷ (mine, own) ∷ []) both)
    where
      go : (locals : List Local) → Same locals → Alone locals 1 since until
      go [] same other l ne here = absurd (cc)
      go (a ∷ []) same other l ne here = absurd (cc)
      go (a ∷ b ∷ c ∷ more) same other l ne here = absurd (cc)
      go (a ∷ b ∷ []) same zero l ne here =
          let (log_is, answers_are, mine_is) = first-log a b [] same in
          let is : a ≡ l = some-same a l here in
          subst (λ (es : List Event). IsApart 1 since until es 0 l) (sym mine_is)
          (apart l (sym (ap (λ (k : Local). k.log) is) ∙ log_is) (sym (ap (λ (k : Local). k.answers) is) ∙ answers_are))
      go (a ∷ b ∷ []) same (suc zero) l ne here = absurd (ne refl)
      go (a ∷ b ∷ []) same (suc (suc other)) l ne here = absurd (cc)

  not_alone-kept : ((l : Local) → l.log ≡ log → l.answers ≡ answers → ¬ (IsApart 1 since until mine 0 l))
      → (found : Option Machine) → Both found → IsSomeAnd found (λ m. ¬ (Alone m.locals 1 since until))
  not_alone-kept not_apart None both = absurd (cc)
  not_alone-kept not_apart (Some m) both = go m.locals (some-same (map kept_by m.locals) ((log, answers) ∷ (mine, own) ∷ []) both)
    where
      go : (locals : List Local) → Same locals → ¬ (Alone locals 1 since until)
      go [] same alone = absurd (cc)
      go (a ∷ []) same alone = absurd (cc)
      go (a ∷ b ∷ more) same alone =
          let (log_is, answers_are, mine_is) = first-log a b more same in
          not_apart a log_is answers_are (subst (λ (es : List Event). IsApart 1 since until es 0 a) mine_is (alone 0 a (λ e. cc) refl))

-- the pass has come this far, and stands aside there
apart-kept : (since until count : ℕ) (log mine : List Event) (answers : List Answer)
    → IsLeft (take count log) → owns_after false (answers_until count answers) ≡ false → Contains (take since mine) (Told 0 count) → IfSome (slice_get log count) (TellsOf 1 until)
    → (l : Local) → l.log ≡ log → l.answers ≡ answers → IsApart 1 since until mine 0 l
apart-kept since until count log mine answers left none told next l log_is answers_are = record {
  count = count;
  left = subst (λ (es : List Event). IsLeft (take count es)) (sym log_is) left;
  no_round = ap (λ (these : List Answer). owns_after false (answers_until count these)) answers_are ∙ none;
  told = inr told;
  next = subst (λ (es : List Event). IfSome (slice_get es count) (TellsOf 1 until)) (sym log_is) next;
}

-- what is told in a log of one event
told-once : (most count : ℕ) → Contains (Told 0 most ∷ []) (Told 0 count) → count ≡ most
told-once most count (zero, lt, is) = cc
told-once most count (suc k, lt, is) = absurd (omega (arith, lt))

pub works_between-alone : IsAloneAfter works_between 1 1 3
works_between-alone = alone-kept 1 3 _ _ _ _
    (apart-kept 1 3 2 (Enter ∷ Leave ∷ Told 1 3 ∷ Enter ∷ Leave ∷ []) (Told 0 2 ∷ Enter ∷ Leave ∷ []) _ refl refl (0, omega arith, refl) (refl, omega arith))
    (played works_between) works_between-kept

pub cancels_its_round-alone : IsAloneAfter cancels_its_round 1 1 3
cancels_its_round-alone = alone-kept 1 3 _ _ _ _
    (apart-kept 1 3 4 (Enter ∷ Add (object 1 0) 0 (1 ∷ []) ∷ Add (object 1 64) 0 (2 ∷ []) ∷ Leave ∷ Told 1 3 ∷ []) (Told 0 4 ∷ Enter ∷ Leave ∷ []) _ refl refl (0, omega arith, refl) (refl, omega arith))
    (played cancels_its_round) cancels_its_round-kept

-- told of it once, the pass is apart there, or has nothing in its log but what tells of this one
apart-told : (since until most : ℕ) (later log : List Event) (answers : List Answer)
    → ((count : ℕ) → (count ≡ 0) ⊎ (count ≡ most) → owns_after false (answers_until count answers) ≡ false → IfSome (slice_get log count) (TellsOf 1 until) → ⊥)
    → take since (Told 0 most ∷ later) ≡ Told 0 most ∷ []
    → (l : Local) → l.log ≡ log → l.answers ≡ answers → ¬ (IsApart 1 since until (Told 0 most ∷ later) 0 l)
apart-told since until most later log answers never front l log_is answers_are apart =
    never apart.count
    (elim apart.told [
      | inl none ↦ inl none
      | inr told ↦ inr (told-once most apart.count (subst (λ (es : List Event). Contains es (Told 0 apart.count)) front told))
    ])
    (ap (λ (these : List Answer). owns_after false (answers_until apart.count these)) (sym answers_are) ∙ apart.no_round)
    (subst (λ (es : List Event). IfSome (slice_get es apart.count) (TellsOf 1 until)) log_is apart.next)

-- by each of the two
by_count : {P : Type 0} (Q : ℕ → Type 0) (most : ℕ) → (Q 0 → P) → (Q most → P) → (count : ℕ) → (count ≡ 0) ⊎ (count ≡ most) → Q count → P
by_count Q most none all count is q = elim is [
  | inl zero_is ↦ none (subst Q zero_is q)
  | inr most_is ↦ all (subst Q most_is q)
]

pub enters_too_soon-not : IsNotAloneAfter enters_too_soon 1 1 3
enters_too_soon-not = not_alone-kept 1 3 _ _ _ _
    (apart-told 1 3 2 (Enter ∷ Leave ∷ []) (Enter ∷ Leave ∷ Enter ∷ Leave ∷ Told 1 3 ∷ []) _
    (λ count is none next. by_count (λ (k : ℕ). IfSome (slice_get (Enter ∷ Leave ∷ Enter ∷ Leave ∷ Told 1 3 ∷ []) k) (TellsOf 1 3)) 2 (λ q. q) (λ q. q) count is next) refl)
    (played enters_too_soon) enters_too_soon-kept

pub told_too_soon-not : IsNotAloneAfter told_too_soon 1 1 3
told_too_soon-not = not_alone-kept 1 3 _ _ _ _
    (apart-told 1 3 2 (Enter ∷ Leave ∷ []) (Enter ∷ Leave ∷ Told 1 1 ∷ []) _
    (λ count is none next. by_count (λ (k : ℕ). IfSome (slice_get (Enter ∷ Leave ∷ Told 1 1 ∷ []) k) (TellsOf 1 3)) 2 (λ q. q)
    (λ q. let late : 3 ≤ 1 = q.1 in omega (arith, late)) count is next) refl)
    (played told_too_soon) told_too_soon-kept

abbrev these_answers : List Answer
these_answers = kept 1 (At 5) ∷ kept 2 (Made 0) ∷ kept 3 (Made 64) ∷ kept 3 (Round 0 6 1) ∷ kept 3 (Early 5 6) ∷ kept 4 Out ∷ kept 4 (Noted 0) ∷ kept 5 Learned ∷ []

pub keeps_its_round-not : IsNotAloneAfter keeps_its_round 1 1 3
keeps_its_round-not = not_alone-kept 1 3 _ _ _ _
    (apart-told 1 3 4 (Enter ∷ Leave ∷ []) (Enter ∷ Add (object 1 0) 0 (1 ∷ []) ∷ Add (object 1 64) 0 (2 ∷ []) ∷ Leave ∷ Told 1 3 ∷ []) these_answers
    (λ count is none next. by_count (λ (k : ℕ). (owns_after false (answers_until k these_answers) ≡ false)
    × IfSome (slice_get (Enter ∷ Add (object 1 0) 0 (1 ∷ []) ∷ Add (object 1 64) 0 (2 ∷ []) ∷ Leave ∷ Told 1 3 ∷ []) k) (TellsOf 1 3)) 4 (λ q. q.1)
    (λ q. absurd (let e : true ≡ false = q.0 in cc)) count is (none, next)) refl)
    (played keeps_its_round) keeps_its_round-kept

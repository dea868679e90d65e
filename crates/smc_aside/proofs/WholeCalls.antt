-- A pass that plays whole calls, one after the other, makes each of them.
use Rattle.std.proofs.Common.{◌≡◌, ℕ, zero, suc, ◌<◌, Bool, true, false, Option, Some, None, List, [], ◌∷◌, ◌++◌, length, map, refl, sym, ap, ◌∙◌, subst, inl, arith}
use Rattle.std.specs.Prelude.{◌↔◌, option_map, replicate, slice_get, if◌then◌else◌}
use Rattle.std.proofs.lemmas.Bool.{eq-eqb}
use Rattle.std.proofs.lemmas.Option.{none-some, same_Some}
use Rattle.smc_shape.specs.Layout.{Layout}
use Rattle.smc_core.specs.declared.call.Call.{Call}
use Rattle.smc_core.specs.declared.call.Choice.{Choice}
use Rattle.smc_core.specs.declared.call.Choice.TheVariants.{Start, Go}
use Rattle.smc_core.specs.declared.done.Done.{Done}
use Rattle.smc_core.specs.declared.local.Answer.{Answer}
use Rattle.smc_core.specs.declared.local.Local.{Local}
use Rattle.smc_core.specs.declared.local.Owned.{Owned}
use Rattle.smc_core.specs.declared.phase.Phase.{Phase}
use Rattle.smc_core.specs.declared.phase.Phase.TheVariants as phase
use Rattle.smc_core.specs.declared.section.Section.{Section}
use Rattle.smc_core.specs.declared.section.Section.TheVariants.{Outside}
use Rattle.smc_core.specs.Machine.{Machine, Leads, Reach, Steps}
use Rattle.smc_core.specs.Played.{Calls, Schedule, MANY, after_line, ended_in, opening_row, played, rests, shape_of, step_of}
use Rattle.smc_aside.specs.Aside.{IsAlone, IsResting, IsUndisturbed, StandsIdle}
use Rattle.smc_aside.specs.Makes.{own_choices, HasAnswered, Makes}

-- the pass makes these calls, one after the other, and they end with these answers
abbrev pub MakesEach : Layout → ℕ → List (Call × Done × ℕ) → Machine → Machine → Type 0
MakesEach shape pass [] m last = m ≡ last
MakesEach shape pass (made ∷ later) m last = (next : Machine) × Makes shape pass made.0 made.1 m next × MakesEach shape pass later next last

-- how long the log of a pass is, and what it has answered
abbrev pub kept_by : Local → ℕ × List Answer
kept_by l = (length l.log, l.answers)

abbrev pub kept_in : ℕ → Option Machine → Option (ℕ × List Answer)
kept_in pass None = None
kept_in pass (Some m) = option_map kept_by (slice_get m.locals pass)

-- the same before these calls, and after each of them
abbrev pub kept_along : Layout → ℕ → List Call → Option Machine → List (Option (ℕ × List Answer))
kept_along shape pass [] m = kept_in pass m ∷ []
kept_along shape pass (call ∷ later) m = kept_in pass m ∷ kept_along shape pass later (after_line shape (Calls pass call) m)

-- and what it is where they end with these answers
abbrev pub kept_with : ℕ → List Answer → List (Call × Done × ℕ) → List (Option (ℕ × List Answer))
kept_with long before [] = Some (long, before) ∷ []
kept_with long before (made ∷ later) = Some (long, before) ∷ kept_with made.2 (before ++ record { length = made.2; done = made.1 } ∷ []) later

abbrev pub calls_of : List (Call × Done × ℕ) → List Call
calls_of made = map (λ (one : Call × Done × ℕ). one.0) made

-- the step that is computed is the one that a pass takes
abbrev pub StepsAreComputed : Type 0
StepsAreComputed = (shape : Layout) (m : Machine) (pass : ℕ) (choice : Choice) (next : Machine) → (step_of shape m pass choice ≡ Some next) ↔ Steps shape m pass choice next

-- a schedule that is played leads to where steps reach
abbrev pub SchedulesAreReached : Type 0
SchedulesAreReached = (s : Schedule) (m : Machine) → played s ≡ Some m → Reach (shape_of s) (opening_row s) m.row m.locals

module _ (computed : StepsAreComputed) (shape : Layout) (pass : ℕ) where
  taken : (m next : Machine) (choice : Choice) → step_of shape m pass choice ≡ Some next → Steps shape m pass choice next
  taken m next choice is = (computed shape m pass choice next).0 is

  -- the call goes on so many steps
  record GoesOn (m last : Machine) : Type 0 where
    more : ℕ
    leads : Leads shape m (replicate more (pass, Go)) last

  ended-none : (most : ℕ) → ended_in most shape pass None ≡ None
  ended-none zero = refl
  ended-none (suc most) = refl

  -- one that is played to its end goes on to it
  goes_on : (most : ℕ) (m last : Machine) → ended_in most shape pass (Some m) ≡ Some last → GoesOn m last
  goes_on zero m last ends = absurd (none-some last ends)
  goes_on (suc most) m last ends = go (λ next. goes_on most next last) (rests (slice_get m.locals pass)) (step_of shape m pass Go) refl ends
    where
      go : ((next : Machine) → ended_in most shape pass (Some next) ≡ Some last → GoesOn next last)
          → (resting : Bool) (next : Option Machine) → step_of shape m pass Go ≡ next → (if resting then Some m else ended_in most shape pass next) ≡ Some last → GoesOn m last
      go on true next is_next is = record { more = 0; leads = same_Some m last is }
      go on false None is_next is = absurd (none-some last (sym (ended-none most) ∙ is))
      go on false (Some next) is_next is =
          let k : GoesOn next last = on next is in record { more = suc k.more; leads = (next, taken m next Go is_next, k.leads) }

  own-going : (more : ℕ) → own_choices pass (replicate more (pass, Go)) ≡ replicate more Go
  own-going zero = refl
  own-going (suc more) =
      ap (λ (own : Bool). if own then Go ∷ own_choices pass (replicate more (pass, Go)) else own_choices pass (replicate more (pass, Go))) (eq-eqb pass pass refl)
      ∙ ap (λ (xs : List Choice). Go ∷ xs) (own-going more)

  own-undisturbed : (more : ℕ) → IsUndisturbed pass (replicate more (pass, Go))
  own-undisturbed zero = tt
  own-undisturbed (suc more) = (inl refl, own-undisturbed more)

  -- a call that is played is made
  pub call_made : (m last : Machine) (call : Call) (answer : Done) → after_line shape (Calls pass call) (Some m) ≡ Some last
      → HasAnswered m last pass answer → Makes shape pass call answer m last
  call_made m last call answer ends answered = go (step_of shape m pass (Start call)) refl ends
    where
      go : (first : Option Machine) → step_of shape m pass (Start call) ≡ first → ended_in MANY shape pass first ≡ Some last → Makes shape pass call answer m last
      go None is_first is = absurd (none-some last (sym (ended-none MANY) ∙ is))
      go (Some first) is_first is =
          let k : GoesOn first last = goes_on MANY first last is in record {
            steps = (pass, Start call) ∷ replicate k.more (pass, Go);
            leads = (first, taken m first (Start call) is_first, k.leads);
            undisturbed = (inl refl, own-undisturbed k.more);
            more = k.more;
            choices = ap (λ (own : Bool). if own then Start call ∷ own_choices pass (replicate k.more (pass, Go)) else own_choices pass (replicate k.more (pass, Go))) (eq-eqb pass pass refl)
                ∙ ap (λ (xs : List Choice). Start call ∷ xs) (own-going k.more);
            answered = answered;
          }

  -- a pass that keeps something is there
  record Keeps (m : Machine) (long : ℕ) (answers : List Answer) : Type 0 where
    local : Local
    here : slice_get m.locals pass ≡ Some local
    long_is : length local.log ≡ long
    answers_are : local.answers ≡ answers

  keeps-in : (m : Machine) (long : ℕ) (answers : List Answer) → kept_in pass (Some m) ≡ Some (long, answers) → Keeps m long answers
  keeps-in m long answers is = go (slice_get m.locals pass) refl is
    where
      go : (found : Option Local) → slice_get m.locals pass ≡ found → option_map kept_by found ≡ Some (long, answers) → Keeps m long answers
      go None here same = absurd (none-some (long, answers) same)
      go (Some l) here same =
          let pair : kept_by l ≡ (long, answers) = same_Some (kept_by l) (long, answers) same in record {
            local = l;
            here = here;
            long_is = ap (λ (z : ℕ × List Answer). z.0) pair;
            answers_are = ap (λ (z : ℕ × List Answer). z.1) pair;
          }

  -- what is kept first
  first-kept : (made : List (Call × Done × ℕ)) (long : ℕ) (before : List Answer) (m : Option Machine)
      → kept_along shape pass (calls_of made) m ≡ kept_with long before made → kept_in pass m ≡ Some (long, before)
  first-kept [] long before m is = cc
  first-kept (one ∷ later) long before m is = cc

  -- and later
  later-kept : (one : Call × Done × ℕ) (later : List (Call × Done × ℕ)) (long : ℕ) (before : List Answer) (m : Machine)
      → kept_along shape pass (calls_of (one ∷ later)) (Some m) ≡ kept_with long before (one ∷ later)
      → kept_along shape pass (calls_of later) (after_line shape (Calls pass one.0) (Some m)) ≡ kept_with one.2 (before ++ record { length = one.2; done = one.1 } ∷ []) later
  later-kept one later long before m is = cc

  answers-so : (m next : Machine) (long longer : ℕ) (before : List Answer) (answer : Done) → Keeps m long before
      → Keeps next longer (before ++ record { length = longer; done = answer } ∷ []) → HasAnswered m next pass answer
  answers-so m next long longer before answer old new = record {
    before = old.local;
    after = new.local;
    here = old.here;
    now = new.here;
    kept = new.answers_are
        ∙ (ap (λ (xs : List Answer). xs ++ record { length = longer; done = answer } ∷ []) (sym old.answers_are)
        ∙ ap (λ (n : ℕ). old.local.answers ++ record { length = n; done = answer } ∷ []) (sym new.long_is));
  }

  -- calls that are played, and end with these answers, are made
  pub each_made : (made : List (Call × Done × ℕ)) (long : ℕ) (before : List Answer) (m : Machine)
      → kept_along shape pass (calls_of made) (Some m) ≡ kept_with long before made → (last : Machine) × MakesEach shape pass made m last
  each_made [] long before m is = (m, refl)
  each_made (one ∷ later) long before m is =
      go (λ next. each_made later one.2 (before ++ record { length = one.2; done = one.1 } ∷ []) next) (after_line shape (Calls pass one.0) (Some m)) refl (later-kept one later long before m is)
    where
      after : List Answer
      after = before ++ record { length = one.2; done = one.1 } ∷ []

      go : ((next : Machine) → kept_along shape pass (calls_of later) (Some next) ≡ kept_with one.2 after later → (last : Machine) × MakesEach shape pass later next last)
          → (next : Option Machine) → after_line shape (Calls pass one.0) (Some m) ≡ next → kept_along shape pass (calls_of later) next ≡ kept_with one.2 after later
          → (last : Machine) × MakesEach shape pass (one ∷ later) m last
      go on None leads kept = absurd (none-some (one.2, after) (first-kept later one.2 after None kept))
      go on (Some next) leads kept =
          let (last, each) = on next kept in
          let old : Keeps m long before = keeps-in m long before (first-kept (one ∷ later) long before (Some m) is) in
          let new : Keeps next one.2 after = keeps-in next one.2 after (first-kept later one.2 after (Some next) kept) in
          (last, (next, call_made m next one.0 one.1 leads (answers-so m next long one.2 before one.1 old new), each))

-- where a pass stands: its section, its call in progress, and its round
abbrev pub place_of : Local → Section × Phase × Option Owned
place_of l = (l.stand.section, l.stand.phase, l.stand.round)

abbrev pub places_in : Option Machine → Option (List (Section × Phase × Option Owned))
places_in found = option_map (λ (m : Machine). map place_of m.locals) found

-- where all stand in one place, so does each
pub each-place : (place : Section × Phase × Option Owned) (count : ℕ) (locals : List Local) → map place_of locals ≡ replicate count place
    → (pass : ℕ) (l : Local) → slice_get locals pass ≡ Some l → place_of l ≡ place
each-place place zero [] same pass l here = absurd (cc)
each-place place zero (first ∷ later) same pass l here = absurd (cc)
each-place place (suc count) [] same pass l here = absurd (cc)
each-place place (suc count) (first ∷ later) same zero l here = cc
each-place place (suc count) (first ∷ later) same (suc pass) l here = each-place place count later (cc) pass l here

-- where a pass stands that is idle outside sections, without a round
abbrev pub at_rest : Section × Phase × Option Owned
at_rest = (Outside, phase.Idle, None)

-- where all stand so, each stands idle
rests-idle : (count pass : ℕ) (locals : List Local) → pass < count → map place_of locals ≡ replicate count at_rest → StandsIdle pass locals
rests-idle zero pass locals lt same = absurd (omega (arith, lt))
rests-idle (suc count) pass [] lt same = absurd (cc)
rests-idle (suc count) zero (first ∷ later) lt same =
    let is : place_of first ≡ at_rest = cc in record {
      local = first;
      here = refl;
      idle = ap (λ (z : Section × Phase × Option Owned). z.1) is;
      outside = ap (λ (z : Section × Phase × Option Owned). z.0) is;
      no_round = ap (λ (z : Section × Phase × Option Owned). z.2) is;
    }
rests-idle (suc count) (suc pass) (first ∷ later) lt same =
    let idle : StandsIdle pass later = rests-idle count pass later (omega (arith, lt)) (cc) in
    record { local = idle.local; here = idle.here; idle = idle.idle; outside = idle.outside; no_round = idle.no_round }

-- and each is alone
pub rests-alone : (count pass : ℕ) (m : Machine) → pass < count → map place_of m.locals ≡ replicate count at_rest → IsAlone pass m
rests-alone count pass m lt same = record {
  idle = rests-idle count pass m.locals lt same;
  others = λ other l apart here.
      let is : place_of l ≡ at_rest = each-place at_rest count m.locals same other l here in record {
        outside = ap (λ (z : Section × Phase × Option Owned). z.0) is;
        resting = subst IsResting (sym (ap (λ (z : Section × Phase × Option Owned). z.1) is)) tt;
        no_round = ap (λ (z : Section × Phase × Option Owned). z.2) is;
      };
}

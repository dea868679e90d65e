-- The calls of a drive, one behind the other.
use Rattle.std.proofs.Common.{◌≡◌, ℕ, ◌+◌, ◌≤◌, ◌<◌, Bool, Some, None, List, [], ◌∷◌, ◌++◌, length, refl, sym, subst, ap, ◌∙◌, append_assoc, append-nil, arith}
use Rattle.std.specs.Prelude.{flat_map}
use Rattle.std.proofs.lemmas.List.Concat.{flat_map-append}
use Rattle.smc_shape.specs.Layout.{Layout}
use Rattle.smc_model.specs.declared.event.Event.TheVariants as event
use Rattle.smc_core.specs.declared.done.Done.{Done}
use Rattle.smc_core.specs.declared.done.Done.TheVariants as done
use Rattle.smc_core.specs.declared.local.Answer.{Answer}
use Rattle.smc_core.specs.declared.local.Local.{Local}
use Rattle.smc_region.specs.declared.advance.Advance.{Advance}
use Rattle.smc_region.specs.declared.advance.Advance.TheVariants as advance
use Rattle.smc_region.specs.Advances.{done_of}
use Rattle.smc_region.specs.Callers.{Caller, IsSame, entered, left}
use Rattle.smc_region.specs.Named.{latest}
use Rattle.smc_trace.specs.Named.{advances, enters, leaves, rounds}
use Rattle.smc_trace.specs.Trace.{CallEnd, Tells, answers_in}
use Rattle.smc_trace.proofs.TraceSteps.{tells-then}
use Rattle.smc_does.proofs.Bridges.{tells-one}
use Rattle.smc_compact.specs.declared.begun.Begun.{Begun}
use Rattle.smc_compact.specs.declared.begun.Begun.TheVariants as begun
use Rattle.smc_compact.specs.declared.begun.Round.{Round}
use Rattle.smc_compact.specs.declared.outcome.Outcome.{Outcome}
use Rattle.smc_compact.specs.declared.outcome.Outcome.TheVariants as outcome
use Rattle.smc_compact.specs.declared.outcome.Waited.{Waited}
use Rattle.smc_compact.specs.declared.outcome.Waited.TheVariants as waited
use Rattle.smc_compact.specs.Calls.{HasBound, IsBusyFor, Keeps, OwnsBy, begun_done}
use Rattle.smc_compact.specs.Drives.{ByAdvance, ClosesBy, ComesBy, DriveCause, GoesOnBy, advance_in, advances_in, in_section}
use Rattle.smc_compact.specs.Paces.{EndsFor, HasWaited, WaitCause}
use Rattle.smc_compact.specs.Parts.{HasClosed, HasDriven, HasEnded, HasOpened, OpenCause}

-- the pass is still the same
pub same-then : (a b c : Caller) → IsSame a b → IsSame b c → IsSame a c
same-then a b c one two = (two.0 ∙ one.0, two.1 ∙ one.1, two.2 ∙ one.2)

-- a section begins
enters-tells : (p s : Local) (epoch : ℕ) (calm : Bool) → s ≡ entered p epoch calm → Tells p s (enters epoch)
enters-tells p s epoch calm is = subst (λ (l : Local). Tells p l (enters epoch)) (sym is) (tells-one p (entered p epoch calm) event.Enter (done.At epoch) refl refl)

-- it ends
leaves-tells : (t q : Local) → q ≡ left t → Tells t q leaves
leaves-tells t q is = subst (λ (l : Local). Tells t l leaves) (sym is) (tells-one t (left t) event.Leave done.Out refl refl)

-- calls in a section of their own
pub section-tells : (p s t q : Local) (epoch : ℕ) (calm : Bool) (calls : List CallEnd) → s ≡ entered p epoch calm → Tells s t calls → q ≡ left t
    → Tells p q (in_section epoch calls)
section-tells p s t q epoch calm calls come tells go =
    tells-then p s q (enters epoch) (calls ++ leaves) (enters-tells p s epoch calm come) (tells-then s t q calls leaves tells (leaves-tells t q go))

-- and what the pass keeps through them
pub section-keeps : (p s t q : Local) (epoch : ℕ) (calm : Bool) → s ≡ entered p epoch calm → Keeps s t → q ≡ left t → Keeps p q
section-keeps p s t q epoch calm come keeps go = record {
  notes = ap (λ (l : Local). l.notes) go ∙ (keeps.notes ∙ ap (λ (l : Local). l.notes) come);
  learnt = ap (λ (l : Local). l.learnt) go ∙ (keeps.learnt ∙ ap (λ (l : Local). l.learnt) come);
  cursors = ap (λ (l : Local). l.cursors) go ∙ (keeps.cursors ∙ ap (λ (l : Local). l.cursors) come);
}

latest-behind : (answers later : List Answer) → latest later ≤ latest (answers ++ later)
latest-behind [] later = omega arith
latest-behind (one ∷ answers) later = let h = latest-behind answers later in omega (arith, h)

-- so the pass knows of the section's epoch
section-knows : (p q : Local) (epoch : ℕ) (calls : List CallEnd) → Tells p q (in_section epoch calls) → epoch ≤ latest q.answers
section-knows p q epoch calls tells =
    let all = in_section epoch calls in
    let is : latest q.answers ≡ latest (p.answers ++ answers_in (length p.log) all) = ap latest tells.answers in
    let behind = latest-behind p.answers (answers_in (length p.log) all) in
    let first : epoch ≤ latest (answers_in (length p.log) all) = omega arith in
    omega (arith, is, behind, first)

-- what a call leaves of the round, its section leaves
owns-through : (p s t q : Caller) (answer : Begun) → s.local.stand.round ≡ p.local.stand.round → q.local.stand.round ≡ t.local.stand.round → q.shape ≡ t.shape
    → OwnsBy s t answer → OwnsBy p q answer
owns-through p s t q (begun.Round round) come go shape owns = record {
  coll = subst (λ (k : Layout). round.coll < length k.colls) (sym shape) owns.coll;
  owned = go ∙ owns.owned;
}
owns-through p s t q begun.Nothing come go shape owns = go ∙ owns
owns-through p s t q (begun.Busy seen) come go shape owns = go ∙ (owns ∙ come)

-- why a begin found another round open, told with its section
open-cause : (p s : Caller) (t : Local) (epoch : ℕ) (calm : Bool) (coll : ℕ) (answer : Begun) → IsSame p s → s.local ≡ entered p.local epoch calm → IsBusyFor s t answer
    → OpenCause p (in_section epoch (rounds (begun_done coll answer))) answer
open-cause p s t epoch calm coll (begun.Round round) same come busy = tt
open-cause p s t epoch calm coll begun.Nothing same come busy = tt
open-cause p s t epoch calm coll (begun.Busy seen) same come busy = record {
  front = enters epoch;
  rest = leaves;
  before = s;
  next = t;
  is = refl;
  same = same;
  told = enters-tells p.local s.local epoch calm come;
  saw = busy;
}

-- a begin in a section of its own
pub has-opened : (coll : ℕ) (p s t q : Caller) (epoch : ℕ) (calm : Bool) (answer : Begun) → IsSame p s → IsSame t q → s.local ≡ entered p.local epoch calm
    → Tells s.local t.local (rounds (begun_done coll answer)) → OwnsBy s t answer → HasBound coll epoch answer → IsBusyFor s t.local answer → q.local ≡ left t.local
    → HasOpened coll p q answer
has-opened coll p s t q epoch calm answer same still come tells owns bound busy go =
    let calls = rounds (begun_done coll answer) in
    let all = section-tells p.local s.local t.local q.local epoch calm calls come tells go in
    record {
      epoch = epoch;
      tells = all;
      owns = owns-through p s t q answer (ap (λ (l : Local). l.stand.round) come) (ap (λ (l : Local). l.stand.round) go) still.1 owns;
      bound = bound;
      knows = section-knows p.local q.local epoch calls all;
      cause = open-cause p s t.local epoch calm coll answer same come busy;
    }

-- the end of a round in a section of its own
pub has-ended : (p s t q : Caller) (epoch : ℕ) (calm : Bool) (answer : Done) → s.local ≡ entered p.local epoch calm → Tells s.local t.local (rounds answer)
    → t.local.stand.round ≡ None → q.local ≡ left t.local → HasEnded p q answer
has-ended p s t q epoch calm answer come tells none go = record {
  epoch = epoch;
  tells = section-tells p.local s.local t.local q.local epoch calm (rounds answer) come tells go;
  owns = ap (λ (l : Local). l.stand.round) go ∙ none;
}

advance-later : (old next : Caller) (first calls : List CallEnd) (answer : Advance) → IsSame old next → Tells old.local next.local first → ByAdvance next calls answer
    → ByAdvance old (first ++ calls) answer
advance-later old next first calls answer same tells cause = record {
  front = first ++ cause.front;
  rest = cause.rest;
  before = cause.before;
  after = cause.after;
  is = ap (λ (s : List CallEnd). first ++ s) cause.is ∙ sym (append_assoc first cause.front (advances (done_of answer) ++ cause.rest));
  same = same-then old next cause.before same cause.same;
  told = tells-then old.local next.local cause.before.local first cause.front tells cause.told;
  cause = cause.cause;
}

advance-before : (old : Caller) (calls rest : List CallEnd) (answer : Advance) → ByAdvance old calls answer → ByAdvance old (calls ++ rest) answer
advance-before old calls rest answer cause = record {
  front = cause.front;
  rest = cause.rest ++ rest;
  before = cause.before;
  after = cause.after;
  is = ap (λ (s : List CallEnd). s ++ rest) cause.is ∙ append_assoc cause.front (advances (done_of answer) ++ cause.rest) rest;
  same = cause.same;
  told = cause.told;
  cause = cause.cause;
}

-- a cause stands behind other calls
cause-later : (old next : Caller) (first calls : List CallEnd) (ended : Outcome) → IsSame old next → Tells old.local next.local first → DriveCause next ended calls
    → DriveCause old ended (first ++ calls)
cause-later old next first calls (outcome.Done moved abandoned gone) same tells cause = tt
cause-later old next first calls outcome.Nothing same tells cause = tt
cause-later old next first calls (outcome.Busy round) same tells cause = record {
  front = first ++ cause.front;
  rest = cause.rest;
  before = cause.before;
  next = cause.next;
  is = ap (λ (s : List CallEnd). first ++ s) cause.is ∙ sym (append_assoc first cause.front (rounds (done.Busy round.bound round.pass round.coll) ++ cause.rest));
  same = same-then old next cause.before same cause.same;
  told = tells-then old.local next.local cause.before.local first cause.front tells cause.told;
  saw = cause.saw;
}
cause-later old next first calls (outcome.Later pass seen) same tells cause = advance-later old next first calls (advance.NotYet pass seen) same tells cause
cause-later old next first calls outcome.Spent same tells cause = advance-later old next first calls advance.Spent same tells cause

-- and before others
pub cause-before : (old : Caller) (calls rest : List CallEnd) (ended : Outcome) → DriveCause old ended calls → DriveCause old ended (calls ++ rest)
cause-before old calls rest (outcome.Done moved abandoned gone) cause = tt
cause-before old calls rest outcome.Nothing cause = tt
cause-before old calls rest (outcome.Busy round) cause =
    let one = rounds (done.Busy round.bound round.pass round.coll) in record {
      front = cause.front;
      rest = cause.rest ++ rest;
      before = cause.before;
      next = cause.next;
      is = ap (λ (s : List CallEnd). s ++ rest) cause.is ∙ append_assoc cause.front (one ++ cause.rest) rest;
      same = cause.same;
      told = cause.told;
      saw = cause.saw;
    }
cause-before old calls rest (outcome.Later pass seen) cause = advance-before old calls rest (advance.NotYet pass seen) cause
cause-before old calls rest outcome.Spent cause = advance-before old calls rest advance.Spent cause

-- what a waiting ended with is the cause of the drive
pub wait-by : (old new : Caller) (waits : List Done) (answer : Advance) → EndsFor old new waits answer → ByAdvance old (flat_map advances waits) answer
wait-by old new waits answer by = record {
  front = flat_map advances by.front;
  rest = [];
  before = by.before;
  after = new;
  is = ap (flat_map advances) by.is ∙ flat_map-append advances by.front (done_of answer ∷ []);
  same = by.does.same;
  told = by.does.tells;
  cause = by.cause;
}

advances-append : (s t : List CallEnd) → advances_in (s ++ t) ≡ advances_in s + advances_in t
advances-append [] t = omega arith
advances-append (call ∷ s) t = let h = advances-append s t in omega (arith, h)

at-most-one : (answer : Done) → advance_in answer ≤ 1
at-most-one answer = grind arith

advances-few : (waits : List Done) → advances_in (flat_map advances waits) ≤ length waits
advances-few [] = omega arith
advances-few (one ∷ later) = let few = at-most-one one in let h = advances-few later in omega (arith, few, h)

begun-none : (coll epoch : ℕ) (answer : Begun) → advances_in (in_section epoch (rounds (begun_done coll answer))) ≡ 0
begun-none coll epoch (begun.Round round) = refl
begun-none coll epoch begun.Nothing = refl
begun-none coll epoch (begun.Busy seen) = refl

-- the round is ended as the waiting for it ended
pub closes : (bound turns : ℕ) (old middle new : Caller) (ended : Waited) (answer : Done) (outcome : Outcome)
    → HasWaited (Some (bound + 2)) turns old middle ended → HasEnded middle new answer → advance_in answer ≡ 0 → ClosesBy ended answer outcome
    → ((waits : List Done) → WaitCause old middle waits ended → DriveCause old outcome (flat_map advances waits)) → HasClosed bound turns old new outcome
closes bound turns old middle new ended answer outcome w e none is cause =
    let waits = flat_map advances w.answers in
    let section = in_section e.epoch (rounds answer) in
    let first = advances-few w.answers in
    let both = advances-append waits section in
    let few = w.few in
    let last : advances_in section ≡ 0 = omega (arith, none) in
    record {
      calls = waits ++ section;
      tells = tells-then old.local middle.local new.local waits section w.does.tells e.tells;
      closes = record { waits = w.answers; waited = ended; epoch = e.epoch; answer = answer; waits_for = w.is; made = refl; is = is };
      cause = cause-before old waits section outcome (cause w.answers w.cause);
      few = omega (arith, first, both, few, last);
    }

-- the first waiting ended the drive
pub drives-out : (coll turns : ℕ) (old new : Caller) (ended : Waited) (outcome : Outcome)
    → HasWaited None turns old new ended → ComesBy coll ended outcome []
    → ((waits : List Done) → WaitCause old new waits ended → DriveCause old outcome (flat_map advances waits)) → HasDriven coll turns old new outcome
drives-out coll turns old new ended outcome w is cause =
    let waits = flat_map advances w.answers in
    let first = advances-few w.answers in
    let few = w.few in
    record {
      calls = waits;
      tells = w.does.tells;
      drives = record { waits = w.answers; waited = ended; later = []; waits_for = w.is; made = sym (append-nil waits); comes = is; few = omega (arith, first, few) };
      cause = cause w.answers w.cause;
    }

-- it went on
pub drives-on : (coll turns left : ℕ) (old middle next new : Caller) (answer : Begun) (outcome : Outcome) (later : List CallEnd)
    → (w : HasWaited None turns old middle (waited.Named left)) → (o : HasOpened coll middle next answer) → Tells next.local new.local later → advances_in later ≤ left + 4
    → GoesOnBy coll left o.epoch (begun_done coll answer) outcome later → DriveCause middle outcome (in_section o.epoch (rounds (begun_done coll answer)) ++ later)
    → HasDriven coll turns old new outcome
drives-on coll turns left old middle next new answer outcome later w o tells fewer is cause =
    let waits = flat_map advances w.answers in
    let section = in_section o.epoch (rounds (begun_done coll answer)) in
    let first = advances-few w.answers in
    let none = begun-none coll o.epoch answer in
    let both = advances-append waits (section ++ later) in
    let behind = advances-append section later in
    let few = w.few in
    record {
      calls = waits ++ (section ++ later);
      tells = tells-then old.local middle.local new.local waits (section ++ later) w.does.tells (tells-then middle.local next.local new.local section later o.tells tells);
      drives = record {
        waits = w.answers;
        waited = waited.Named left;
        later = section ++ later;
        waits_for = w.is;
        made = refl;
        comes = record { epoch = o.epoch; answer = begun_done coll answer; later = later; made = refl; goes_on = is };
        few = omega (arith, first, none, both, behind, few, fewer);
      };
      cause = cause-later old middle waits (section ++ later) outcome w.does.same w.does.tells cause;
    }

-- it went on with a round
pub drives-round : (coll turns left : ℕ) (old middle next new : Caller) (round : Round) (outcome : Outcome)
    → HasWaited None turns old middle (waited.Named left) → HasOpened coll middle next (begun.Round round) → HasClosed round.bound left next new outcome
    → IsSame middle next → HasDriven coll turns old new outcome
drives-round coll turns left old middle next new round outcome w o e still =
    let bound = o.bound.1 in
    let knows = o.knows in
    let few = e.few in
    drives-on coll turns left old middle next new (begun.Round round) outcome e.calls w o e.tells (omega (arith, bound, knows, few)) (refl, bound, e.closes)
    (cause-later middle next (in_section o.epoch (rounds (begun_done coll (begun.Round round)))) e.calls outcome still o.tells e.cause)

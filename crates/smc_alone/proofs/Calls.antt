-- Calls that were made undisturbed, by their ends.
use Rattle.std.proofs.Common.{◌≡◌, ℕ, Some, None, List, [], ◌∷◌, ◌++◌, flat_map, refl, ap, ◌∙◌, subst}
use Rattle.std.specs.List.{AllByRecursion}
use Rattle.smc_shape.specs.Layout.{Layout, IsShape}
use Rattle.smc_model.specs.declared.event.Cause.{Cause}
use Rattle.smc_model.specs.declared.event.Event.TheVariants as event
use Rattle.smc_core.specs.declared.call.Call.{Call}
use Rattle.smc_core.specs.declared.call.Call.TheVariants as call
use Rattle.smc_core.specs.declared.call.Choice.{Choice}
use Rattle.smc_core.specs.declared.done.Done.{Done}
use Rattle.smc_core.specs.declared.done.Done.TheVariants as done
use Rattle.smc_core.specs.declared.local.Opening.{Opening}
use Rattle.smc_core.specs.Machine.{Leads, Machine, started}
use Rattle.smc_model.specs.World.{World}
use Rattle.smc_rules.specs.History.{History}
use Rattle.smc_aside.specs.Makes.{Makes}
use Rattle.smc_packing.specs.Drive.{Advances}
use Rattle.smc_trace.specs.Named.{advances, enters, finishes, leaves, refuses, rounds, surveys}
use Rattle.smc_trace.specs.Trace.{CallEnd}
use Rattle.smc_calls.specs.Calls.{MakesEnds}
use Rattle.smc_calls.specs.Ends.{EndsSo, IsEndOf}
use Rattle.smc_alone.specs.AloneCalls.{MadeAlone}
use Rattle.smc_alone.proofs.AloneMakes.{alone-calls_made}
use Rattle.smc_alone.specs.Laws.{DidAlone}
use Rattle.smc_alone.specs.Drives.{IsOfAdvance}

-- calls in two parts
pub record EndsParts (shape : Layout) (pass : ℕ) (s t : List CallEnd) (m last : Machine) : Type 0 where
  pub middle : Machine
  pub first : MakesEnds shape pass s m middle
  pub second : MakesEnds shape pass t middle last

pub ends-parts : (shape : Layout) (pass : ℕ) (s t : List CallEnd) (m last : Machine) → MakesEnds shape pass (s ++ t) m last → EndsParts shape pass s t m last
ends-parts shape pass [] t m last makes = record { middle = m; first = refl; second = makes }
ends-parts shape pass (end ∷ s) t m last (made, next, is_end, makes, rest) =
    let parts : EndsParts shape pass s t next last = ends-parts shape pass s t next last rest in
    record { middle = parts.middle; first = (made, next, is_end, makes, parts.first); second = parts.second }

-- one call, then others
pub record One (shape : Layout) (pass : ℕ) (made : Call) (answer : Done) (later : List CallEnd) (m last : Machine) : Type 0 where
  pub next : Machine
  pub makes : Makes shape pass made answer m next
  pub rest : MakesEnds shape pass later next last

module _ (shape : Layout) (pass : ℕ) where
  -- the call that ends so
  one : (made : Call) (end : CallEnd) (later : List CallEnd) (m last : Machine) → ((c : Call) → IsEndOf c end → c ≡ made) → MakesEnds shape pass (end ∷ later) m last
      → One shape pass made end.done later m last
  one made end later m last is (c, next, is_end, makes, rest) = record {
    next = next;
    makes = subst (λ (k : Call). Makes shape pass k end.done m next) (is c is_end) makes;
    rest = rest;
  }

  pub enter : (epoch : ℕ) (later : List CallEnd) (m last : Machine) → MakesEnds shape pass (enters epoch ++ later) m last → One shape pass call.Enter (done.At epoch) later m last
  enter epoch later m last makes = one call.Enter (record { event = Some event.Enter; done = done.At epoch }) later m last (λ c is. is.1) makes

  pub leave : (later : List CallEnd) (m last : Machine) → MakesEnds shape pass (leaves ++ later) m last → One shape pass call.Leave done.Out later m last
  leave later m last makes = one call.Leave (record { event = Some event.Leave; done = done.Out }) later m last (λ c is. is.1) makes

  of-advance : (answer : Done) → IsOfAdvance answer → (c : Call) → EndsSo answer None c → c ≡ call.Advance
  of-advance (done.Advanced epoch) of c is = is.1
  of-advance (done.NotYet other seen) of c is = is.1
  of-advance (done.Overtaken seen) of c is = is.1
  of-advance done.Spent of c is = is.1
  of-advance _ of c is = absurd of

  pub advance : (answer : Done) (later : List CallEnd) (m last : Machine) → IsOfAdvance answer → MakesEnds shape pass (advances answer ++ later) m last → One shape pass call.Advance answer later m last
  advance answer later m last of makes = one call.Advance (record { event = None; done = answer }) later m last (of-advance answer of) makes

  pub record AllAdvances (answers : List Done) (later : List CallEnd) (m last : Machine) : Type 0 where
    pub next : Machine
    pub makes : Advances shape pass answers m next
    pub rest : MakesEnds shape pass later next last

  pub advance-all : (answers : List Done) (later : List CallEnd) (m last : Machine) → AllByRecursion IsOfAdvance answers → MakesEnds shape pass (flat_map advances answers ++ later) m last → AllAdvances answers later m last
  advance-all [] later m last are makes = record { next = m; makes = refl; rest = makes }
  advance-all (answer ∷ answers) later m last are makes =
      let first : One shape pass call.Advance answer (flat_map advances answers ++ later) m last = advance answer (flat_map advances answers ++ later) m last are.0 makes in
      let then_all : AllAdvances answers later first.next last = advance-all answers later first.next last are.1 first.rest in
      record { next = then_all.next; makes = (first.next, first.makes, then_all.makes); rest = then_all.rest }

  -- an add that is refused
  pub record Refusal (coll : ℕ) (cause : Cause) (later : List CallEnd) (m last : Machine) : Type 0 where
    pub from : ℕ
    pub words : List ℕ
    pub made : One shape pass (call.Add coll from words) (done.Full cause) later m last

  pub refusal : (coll : ℕ) (cause : Cause) (later : List CallEnd) (m last : Machine) → MakesEnds shape pass (refuses coll cause ++ later) m last → Refusal coll cause later m last
  refusal coll cause later m last (c, next, is_end, makes, rest) =
      let told : Some (event.Refused coll cause) ≡ Some (event.Refused is_end.0 cause) = is_end.3 in
      let same : is_end.0 ≡ coll = cc in
      record {
        from = is_end.1;
        words = is_end.2;
        made = record {
          next = next;
          makes = subst (λ (k : Call). Makes shape pass k (done.Full cause) m next) (is_end.4 ∙ ap (λ (k : ℕ). call.Add k is_end.1 is_end.2) same) makes;
          rest = rest;
        };
      }

  pub nothing : (coll : ℕ) (later : List CallEnd) (m last : Machine) → MakesEnds shape pass (rounds (done.Nothing coll) ++ later) m last → One shape pass (call.Begin coll) (done.Nothing coll) later m last
  nothing coll later m last makes = one (call.Begin coll) (record { event = None; done = done.Nothing coll }) later m last (λ c is. is.1) makes

  pub round : (coll bound frozen : ℕ) (later : List CallEnd) (m last : Machine) → MakesEnds shape pass (rounds (done.Round coll bound frozen) ++ later) m last
      → One shape pass (call.Begin coll) (done.Round coll bound frozen) later m last
  round coll bound frozen later m last makes = one (call.Begin coll) (record { event = None; done = done.Round coll bound frozen }) later m last (λ c is. is.1) makes

  pub finish : (moved abandoned gone : ℕ) (later : List CallEnd) (m last : Machine) → MakesEnds shape pass (finishes (done.Finished moved abandoned gone) ++ later) m last
      → One shape pass call.Finish (done.Finished moved abandoned gone) later m last
  finish moved abandoned gone later m last makes = one call.Finish (record { event = None; done = done.Finished moved abandoned gone }) later m last (λ c is. is.1) makes

  pub survey : (coll objects blocks : ℕ) (later : List CallEnd) (m last : Machine) → MakesEnds shape pass (surveys coll objects blocks ++ later) m last
      → One shape pass (call.Survey coll) (done.Surveyed coll objects blocks) later m last
  survey coll objects blocks later m last makes = one (call.Survey coll) (record { event = None; done = done.Surveyed coll objects blocks }) later m last (λ c is. is.1) makes

-- what was done alone was made undisturbed
pub did-alone : (shape : Layout) (opening : Opening) (first : World) (pass : ℕ) (before calls : List CallEnd) (last : Machine) (h : History shape opening first last)
    → IsShape shape → DidAlone last.locals pass before calls → MadeAlone shape h.start pass before calls h.steps last
did-alone shape opening first pass before calls last h valid did =
    alone-calls_made shape opening first pass last h did.local before calls did.after valid did.here did.idle did.trace did.alone

-- the history up to a moment of its steps
abbrev pub up_to : (shape : Layout) (opening : Opening) (first : World) (last : Machine) (h : History shape opening first last) (earlier : List (ℕ × Choice)) (m : Machine) → Leads shape (started shape h.start) earlier m
    → History shape opening first m
up_to shape opening first last h earlier m leads = record { start = h.start; starts = h.starts; steps = earlier; leads = leads }

-- What is done after something else.
use Rattle.std.proofs.Common.{◌≡◌, ℕ, List, [], ◌++◌, refl, subst, ◌∙◌}
use Rattle.atomic_table.specs.Seated.{TableId}
use Rattle.smc_shape.specs.Layout.{Layout}
use Rattle.smc_core.specs.Local.{fresh}
use Rattle.smc_region.specs.Callers.{Caller, new_caller}
use Rattle.smc_trace.specs.Trace.{CallEnd, IsTrace}
use Rattle.smc_trace.proofs.TraceSteps.{tells-nothing, tells-then, trace-then}
use Rattle.smc_does.specs.Does.{Does, Stays}

pub does-nothing : (pass : Caller) → Does pass pass []
does-nothing pass = record { same = (refl, refl, refl); tells = tells-nothing pass.local; free = λ none. none }

pub does-then : {first middle last : Caller} {calls later : List CallEnd} → Does first middle calls → Does middle last later → Does first last (calls ++ later)
does-then {first} {middle} {last} {calls} {later} one two = record {
  same = (two.same.0 ∙ one.same.0, two.same.1 ∙ one.same.1, two.same.2 ∙ one.same.2);
  tells = tells-then first.local middle.local last.local calls later one.tells two.tells;
  free = λ none. two.free (one.free none);
}

pub stays-then : {first middle last : Caller} → Stays first middle → Stays middle last → Stays first last
stays-then one two = record {
  section = two.section ∙ one.section;
  idle = two.idle;
  held = λ x has. two.held x (one.held x has);
}

pub does-all : (table : TableId) (shape : Layout) (number : ℕ) (pass : Caller) (calls : List CallEnd) → Does (new_caller table shape number) pass calls → IsTrace pass.local calls
does-all table shape number pass calls does = trace-then (fresh shape) pass.local [] calls (refl, refl) does.tells

use Rattle.smc_plan.specs.Typed.{typed_tree}
use Rattle.smc_meaning.proofs.EditedLaws.{number-taken, number-widens, takes-day, takes-number}
use Rattle.smc_meaning.proofs.editing.value_written.Goals as goal

pub day_at-days-requires-clause-day : goal.day_at-days-requires-clause-day
day_at-days-requires-clause-day c =
    let plan = c.args.plan.now in
    let typed = c.requires.typed in
    rw c.leaves.ensures (takes-day plan.leaves (typed_tree plan.value.typed) plan.value.kind plan.field.kind typed.value typed.taken c.in-Day.is)

pub number_at-number-requires : goal.number_at-number-requires
number_at-number-requires c =
    let plan = c.args.plan.now in
    let typed = c.requires.typed in
    let takes = takes-number plan.field.kind plan.value.kind c.in_default.not-Day typed.taken typed.narrow in
    record {
      words = rw c.leaves-in_default.ensures c.requires.words;
      number = rw c.leaves-in_default.ensures (number-taken plan.leaves (typed_tree plan.value.typed) plan.value.kind plan.field.kind typed.value takes);
    }

pub units_at-requires : goal.units_at-requires
units_at-requires c =
    let plan = c.args.plan.now in
    let typed = c.requires.typed in
    let takes = takes-number plan.field.kind plan.value.kind c.in_default.not-Day typed.taken typed.narrow in
    let widens = number-widens plan.leaves (typed_tree plan.value.typed) plan.value.kind plan.field.kind c.args.row.now c.number_at-number.result typed.value takes
    (rw c.leaves-in_default.ensures at c.number_at-number.ensures.value) in
    record {
      larger = rw c.scale_of.ensures widens.larger;
      few = rw c.scale_of.ensures takes.few;
      small = rw c.scale_of.ensures widens.small;
    }

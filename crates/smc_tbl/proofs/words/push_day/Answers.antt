use Rattle.std.proofs.Common.{◌≡◌, ap, ◌∙◌}
use Rattle.std.proofs.lemmas.Int.{to_z-of_z}
use mir.Syntax.{w32, w64}
use Rattle.smc_types.specs.Numbers.{moved}
use Rattle.smc_types.specs.declared.column.FieldType.TheVariants.{Day}
use Rattle.smc_tbl.specs.Words.{FieldAddsWords}
use Rattle.smc_tbl.proofs.WordNumbers.{day-adds, day-fits, push-adds}
use Rattle.smc_tbl.proofs.words.push_day.Goals as goal

pub returns-in-Some-clause-spelled : goal.returns-in-Some-clause-spelled
returns-in-Some-clause-spelled c =
    let day = c.in-Some.day in
    let field = c.args.field.now in
    let old = c.args.into.now.items in
    let new = c.push.new.into.items in
    let spells = c.in-Some.ensures.some in
    let fits = day-fits day (c.a_text_says_a_day_in_range.ensures field day spells) in
    let same : c.moved.result ≡ moved day =
    c.moved.ensures ∙ ap moved (to_z-of_z w64 c.from.result (record { sfits = c.from.type_inv }) ∙ c.from.ensures ∙ to_z-of_z w32 day fits) in
    push-adds c.push.result old new c.moved.result (moved day) (FieldAddsWords Day field old new) same (day-adds field old new day spells) c.push.ensures.done

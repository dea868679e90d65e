use Rattle.std.proofs.Common.{refl, ap, ◌∙◌}
use Rattle.smc_core.specs.declared.local.Local.{Local}
use Rattle.smc_core.specs.Section.{epoch_of, is_calm}
use Rattle.smc_trace.specs.Named.{surveys}
use Rattle.smc_compact.specs.Drives.{in_section}
use Rattle.smc_compact.proofs.DriveLaws.{same-then, section-keeps, section-tells}
use Rattle.smc_compact.proofs.packing.survey_alone.Goals as goal

pub returns-clause-done : goal.returns-clause-done
returns-clause-done c =
    let p = c.args.p in
    let s = c.enter-section.result in
    let t = c.survey-census.new.s in
    let q = c.leave.result in
    let census = c.survey-census.result in
    let does = c.survey-census.ensures.done in
    let section = s.local.stand.section in
    let calls = surveys c.args.c census.objects census.blocks in (
      in_section (epoch_of section) calls,
      record {
        same = same-then p t q (same-then p s t c.enter-section.ensures.same does.same) c.leave.ensures.same;
        tells = section-tells p.local s.local t.local q.local (epoch_of section) (is_calm section) calls c.enter-section.ensures.entered does.tells c.leave.ensures.left;
        free = λ none. ap (λ (l : Local). l.stand.round) c.leave.ensures.left ∙ does.free (ap (λ (l : Local). l.stand.round) c.enter-section.ensures.entered ∙ none);
      },
      record { epoch = epoch_of section; made = refl },
    )

pub returns-clause-keeps : goal.returns-clause-keeps
returns-clause-keeps c =
    let section = c.enter-section.result.local.stand.section in
    section-keeps c.args.p.local c.enter-section.result.local c.survey-census.new.s.local c.leave.result.local (epoch_of section) (is_calm section)
    c.enter-section.ensures.entered c.survey-census.ensures.keeps c.leave.ensures.left

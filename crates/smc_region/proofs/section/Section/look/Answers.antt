use Rattle.std.proofs.Common.{rules, ap, ◌∙◌}
use Rattle.smc_shape.specs.Layout.{Layout}
use Rattle.smc_region.specs.Looks.{finding_of, looker, looking}
use Rattle.smc_region.proofs.LookLaws.{abandons-by, abandons-on, abandons-then, helps-by, helps-on, helps-then}
use Rattle.smc_region.proofs.section.Section.look.Goals as goal

pub abandon-requires : goal.abandon-requires
abandon-requires g c =
    let s = c.args.self.now in let t = c.see_entry.new.self in
    record {
      phase = abandons-by t.local.stand.phase (looker s.local.stand.phase) c.args.number c.in-Frozen.slot
          (abandons-on s.shape s.local t.local (looker s.local.stand.phase) c.args.number c.in-Frozen.slot _ _ c.in-Frozen.ensures.learnt (search rules));
    }

pub help-requires : goal.help-requires
help-requires g c =
    let s = c.args.self.now in let t = c.see_entry.new.self in
    record {
      phase = helps-by t.local.stand.phase (looker s.local.stand.phase) c.args.number c.in-Locked.slot
          (helps-on s.shape s.local t.local (looker s.local.stand.phase) c.args.number c.in-Locked.slot _ _ c.in-Locked.ensures.learnt (search rules));
    }

pub returns-else-calm-clause-learnt : goal.returns-else-calm-clause-learnt
returns-else-calm-clause-learnt g c =
    let s = c.args.self.now in let t = c.see_entry.new.self in
    c.abandon.ensures.learnt
    ∙ (ap (λ (k : Layout). looking k t.local (looker t.local.stand.phase) c.args.number (finding_of c.abandon.result) c.abandon.new.self.local.steps) c.see_entry.ensures.same.1
    ∙ abandons-then s.shape s.local t.local (looker s.local.stand.phase) c.args.number c.in-Frozen.slot _ _ c.in-Frozen.ensures.learnt _ (finding_of c.abandon.result) (search rules))

pub returns-else-calm-2-clause-learnt : goal.returns-else-calm-2-clause-learnt
returns-else-calm-2-clause-learnt g c =
    let s = c.args.self.now in let t = c.see_entry.new.self in
    c.help.ensures.learnt
    ∙ (ap (λ (k : Layout). looking k t.local (looker t.local.stand.phase) c.args.number (finding_of c.help.result) c.help.new.self.local.steps) c.see_entry.ensures.same.1
    ∙ helps-then s.shape s.local t.local (looker s.local.stand.phase) c.args.number c.in-Locked.slot _ _ c.in-Locked.ensures.learnt _ (finding_of c.help.result) (search rules))

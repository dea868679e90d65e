use Rattle.std.proofs.Common.{rules, ◌≡◌, ◌+◌, Some, [], ◌∷◌, ◌++◌, length, refl, ap, ◌∙◌, subst, arith, length-append}
use Rattle.smc_compact.specs.declared.outcome.Waiting.TheVariants as waiting
use Rattle.smc_region.specs.Advances.{done_of}
use Rattle.smc_region.specs.Named.{latest}
use Rattle.smc_does.proofs.DoesLaws.{does-nothing}
use Rattle.smc_compact.specs.Paces.{HasCome, IsBy}
use Rattle.smc_compact.proofs.WaitLaws.{does-more, is-for, is-for-then, keeps-more, reaches-first, round-more, told-comes, wait-cause, waits-on}
use Rattle.smc_compact.proofs.driving.wait.Goals as goal

pub turns-init : goal.turns-init
turns-init c =
    let p = c.args.p.now in
    record { here = search rules; same = search rules; some = search rules; answers = []; is = refl; stays = is-for c.args.until; does = does-nothing p; keeps = record { notes = refl; learnt = refl; cursors = refl }; round = refl; few = omega arith }

-- how far the waiting has come
goes-on : (c : goal.In-GoesOn) → HasCome c.turns.now c.turns.left (latest c.turns.p.local.answers) (latest c.advance-answer.new.self.local.answers) (waiting.GoesOn c.in-GoesOn.next c.in-GoesOn.fewer)
goes-on c = subst (HasCome c.turns.now c.turns.left (latest c.turns.p.local.answers) (latest c.advance-answer.new.self.local.answers)) c.in-GoesOn.is
    (told-comes c.turns.p.local c.advance-answer.new.self.local c.turns.now c.turns.left c.advance-answer.result c.told.result
    c.turns.invariant.some c.advance-answer.ensures.rises c.advance-answer.ensures.low c.advance-answer.ensures.answered c.told.ensures.is)

pub turns-smaller : goal.turns-smaller
turns-smaller c = (goes-on c).2

pub turns-preserved : goal.turns-preserved
turns-preserved c =
    let i = c.turns.invariant in
    let one = done_of c.advance-answer.result in
    let come = goes-on c in
    let paced = come.1 in
    let few = i.few in
    let long : length (i.answers ++ one ∷ []) ≡ length i.answers + 1 = length-append i.answers (one ∷ []) in
    record {
      here = search rules;
      same = search rules;
      some = come.0;
      answers = i.answers ++ one ∷ [];
      is = waits-on c.args.until c.args.turns i.answers one c.turns.now c.turns.left (waiting.GoesOn c.in-GoesOn.next c.in-GoesOn.fewer) i.is (c.told.ensures.is ∙ ap Some c.in-GoesOn.is);
      stays = is-for-then c.args.until c.turns.now c.in-GoesOn.next i.stays come.3;
      does = does-more c.args.p.now c.turns.p c.advance-answer.new.self i.answers one i.does c.advance-answer.ensures.same c.advance-answer.ensures.answered;
      keeps = keeps-more c.args.p.now.local c.turns.p.local c.advance-answer.new.self.local one i.keeps c.advance-answer.ensures.answered;
      round = round-more c.turns.p.local c.advance-answer.new.self.local one c.advance-answer.ensures.answered ∙ i.round;
      few = omega (arith, paced, few, long);
    }

ends : (c : goal.In-Ends) → HasCome c.turns.now c.turns.left (latest c.turns.p.local.answers) (latest c.advance-answer.new.self.local.answers) (waiting.Ends c.in-Ends.waited)
ends c = subst (HasCome c.turns.now c.turns.left (latest c.turns.p.local.answers) (latest c.advance-answer.new.self.local.answers)) c.in-Ends.is
    (told-comes c.turns.p.local c.advance-answer.new.self.local c.turns.now c.turns.left c.advance-answer.result c.told.result
    c.turns.invariant.some c.advance-answer.ensures.rises c.advance-answer.ensures.low c.advance-answer.ensures.answered c.told.ensures.is)

pub returns-in-Ends-clause-waited : goal.returns-in-Ends-clause-waited
returns-in-Ends-clause-waited c =
    let i = c.turns.invariant in
    let one = done_of c.advance-answer.result in
    let fewer = (ends c).0 in
    let few = i.few in
    let long : length (i.answers ++ one ∷ []) ≡ length i.answers + 1 = length-append i.answers (one ∷ []) in
    record {
      answers = i.answers ++ one ∷ [];
      is = waits-on c.args.until c.args.turns i.answers one c.turns.now c.turns.left (waiting.Ends c.in-Ends.waited) i.is (c.told.ensures.is ∙ ap Some c.in-Ends.is);
      does = does-more c.args.p.now c.turns.p c.advance-answer.new.self i.answers one i.does c.advance-answer.ensures.same c.advance-answer.ensures.answered;
      few = omega (arith, fewer, few, long);
      cause = wait-cause c.args.p.now c.advance-answer.new.self c.turns.p i.answers c.advance-answer.result c.in-Ends.waited i.does
          c.advance-answer.ensures.cause (subst (IsBy c.advance-answer.result) c.in-Ends.is c.told.ensures.by);
    }

pub returns-in-Ends-clause-some : goal.returns-in-Ends-clause-some
returns-in-Ends-clause-some c = (ends c).1

pub returns-in-Ends-clause-reaches : goal.returns-in-Ends-clause-reaches
returns-in-Ends-clause-reaches c =
    reaches-first c.args.until c.turns.now (latest c.advance-answer.new.self.local.answers) c.in-Ends.waited c.turns.invariant.stays (ends c).2

pub returns-in-Ends-clause-keeps : goal.returns-in-Ends-clause-keeps
returns-in-Ends-clause-keeps c =
    keeps-more c.args.p.now.local c.turns.p.local c.advance-answer.new.self.local (done_of c.advance-answer.result) c.turns.invariant.keeps c.advance-answer.ensures.answered

pub returns-in-Ends-clause-round : goal.returns-in-Ends-clause-round
returns-in-Ends-clause-round c =
    round-more c.turns.p.local c.advance-answer.new.self.local (done_of c.advance-answer.result) c.advance-answer.ensures.answered ∙ c.turns.invariant.round

use Rattle.std.proofs.Common.{◌≡◌, ◌+◌, ◌≤◌, ℕ, Bool, None, [], sym, subst, ap, ◌∙◌, arith}
use Rattle.std.specs.Prelude.{if◌then◌else◌}
use Rattle.smc_shape.specs.Layout.{Layout, slots_of}
use Rattle.smc_trace.specs.Named.{comes_to}
use Rattle.smc_does.specs.Does.{Does, pair_of}
use Rattle.smc_does.proofs.DoesLaws.{stays-then}
use Rattle.smc_objects.specs.Scans.{scan_in}
use Rattle.smc_visits.specs.declared.edits.Edits.{Edits}
use Rattle.smc_visits.specs.Edits.{AreFew}
use Rattle.smc_visits.proofs.EditLaws.{EditsSoFar, edits-all, edits-more, few-more}
use Rattle.smc_objects.proofs.CourseLaws.{scan-kept}
use Rattle.smc_visits.proofs.VisitLaws.{number-kept}
use Rattle.smc_visits.proofs.edits.edit_all.Goals as goal

pub loop-met-preserved : goal.loop-met-preserved
loop-met-preserved g c =
    let i = c.loop-met.invariant in
    let s = c.loop-met.s in
    let met = c.next.new.s in
    let next = c.edit_one-edit.new.s in
    let comes = c.in-Some.ensures in
    let one = c.edit_one-edit.ensures in
    let decide = g.E.DecideEdit.edit c.args.by.now in
    let same : next.shape ≡ met.shape = one.done.4.same.1 in
    let k : ℕ = (scan_in next c.next.new.self).number in
    let ahead = comes.visits.ahead in
    let passes = comes.visits.passes in
    let rises : c.loop-met.scan.place + 1 ≤ c.next.new.self.place = omega (arith, ahead, passes) in
    record {
      stays = stays-then i.stays (stays-then comes.stays one.stays);
      scan = scan-kept met next c.next.new.self same one.scans comes.scan;
      goes_on = comes.visits.goes_on;
      coll = comes.still.1 ∙ i.coll;
      slots = i.slots ∙ (ap (λ (k : Layout). slots_of k c.loop-met.scan.coll) (sym (same ∙ comes.done.same.1)) ∙ ap (λ (k : ℕ). slots_of next.shape k) (sym comes.still.1));
      long = c.edit_one-edit.auto.row ∙ i.long;
      few = subst (λ (e : Edits). AreFew e c.next.new.self.place) (sym c.with-edits.ensures)
          (few-more c.loop-met.edits c.edit_one-edit.result.0 c.edit_one-edit.result.1 c.loop-met.scan.place c.next.new.self.place rises i.few);
      so_far = subst (λ (e : Edits). EditsSoFar c.args.s.now next c.args.c c.args.leaves.now decide k e) (sym c.with-edits.ensures)
          (edits-more c.args.s.now s met next c.args.c c.args.leaves.now decide (scan_in s c.loop-met.scan).number k c.loop-met.edits (pair_of c.in-Some.met)
          c.edit_one-edit.result.0 c.edit_one-edit.result.1 (number-kept met next c.next.new.self one.scans ∙ comes.still.0) i.so_far comes.done one.done);
    }

pub returns-in_default-clause-done : goal.returns-in_default-clause-done
returns-in_default-clause-done g c =
    let i = c.loop-met.invariant in
    let k : ℕ = (scan_in c.loop-met.s c.loop-met.scan).number in
    let ends : Does c.loop-met.s c.next.new.s (comes_to k None) =
    subst (λ (b : Bool). Does c.loop-met.s c.next.new.s (if b then [] else comes_to k None)) i.goes_on c.in_default.ensures.done in
    edits-all c.args.s.now c.loop-met.s c.next.new.s c.args.c c.args.leaves.now (g.E.DecideEdit.edit c.args.by.now) k c.loop-met.edits i.so_far ends

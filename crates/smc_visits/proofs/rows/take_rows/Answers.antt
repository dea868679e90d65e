use Rattle.std.proofs.Common.{◌≡◌, ℕ, Bool, None, [], sym, subst, ap, ◌∙◌}
use Rattle.std.specs.Prelude.{if◌then◌else◌}
use Rattle.smc_shape.specs.Layout.{Layout, slots_of}
use Rattle.smc_trace.specs.Named.{comes_to}
use Rattle.smc_does.specs.Does.{Does, pair_of}
use Rattle.smc_does.proofs.DoesLaws.{does-then, stays-then}
use Rattle.smc_objects.specs.Scans.{scan_in}
use Rattle.smc_objects.proofs.CourseLaws.{scan-kept}
use Rattle.smc_visits.proofs.VisitLaws.{number-kept, takes-all, takes-more}
use Rattle.smc_visits.proofs.rows.take_rows.Goals as goal

pub loop-met-preserved : goal.loop-met-preserved
loop-met-preserved g c =
    let i = c.loop-met.invariant in
    let s = c.loop-met.s in
    let met = c.next.new.s in
    let next = c.take_row.new.s in
    let comes = c.in-Some.ensures in
    let takes = c.in_ok-take_row.ensures in
    let same : next.shape ≡ met.shape = takes.does.1.same.1 in
    record {
      stays = stays-then i.stays (stays-then comes.stays takes.stays);
      scan = scan-kept met next c.next.new.self same takes.scans comes.scan;
      goes_on = comes.visits.goes_on;
      slots = i.slots ∙ (ap (λ (k : Layout). slots_of k c.loop-met.scan.coll) (sym (same ∙ comes.done.same.1)) ∙ ap (λ (k : ℕ). slots_of next.shape k) (sym comes.still.1));
      long = c.take_row.auto.row ∙ i.long;
      words = takes.words ∙ i.words;
      about = takes.about ∙ i.about;
      so_far = takes-more c.args.s.now s met next c.args.c c.args.leaves.now (scan_in s c.loop-met.scan).number (scan_in next c.next.new.self).number
          (g.T.TakeRow.has c.args.rows.now) (g.T.TakeRow.has c.loop-met.rows) (g.T.TakeRow.has c.take_row.new.rows) (pair_of c.in-Some.met)
          (number-kept met next c.next.new.self takes.scans ∙ comes.still.0) i.so_far comes.done takes.done;
    }

pub returns-in_default-clause-done : goal.returns-in_default-clause-done
returns-in_default-clause-done g c =
    let i = c.loop-met.invariant in
    let k : ℕ = (scan_in c.loop-met.s c.loop-met.scan).number in
    let ends : Does c.loop-met.s c.next.new.s (comes_to k None) =
    subst (λ (b : Bool). Does c.loop-met.s c.next.new.s (if b then [] else comes_to k None)) i.goes_on c.in_default.ensures.done in
    takes-all c.args.s.now c.loop-met.s c.next.new.s c.args.c c.args.leaves.now k (g.T.TakeRow.has c.args.rows.now) (g.T.TakeRow.has c.loop-met.rows) i.so_far ends

pub returns-in_default-clause-does : goal.returns-in_default-clause-does
returns-in_default-clause-does g c = let done = returns-in_default-clause-done g c in (done.0, done.1)

pub returns-in_err-take_row-clause-does : goal.returns-in_err-take_row-clause-does
returns-in_err-take_row-clause-does g c =
    (_, does-then c.loop-met.invariant.so_far.does (does-then c.in-Some.ensures.done c.in_err-take_row.ensures.does.1))

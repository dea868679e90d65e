use Rattle.std.proofs.Common.{rules, ◌≡◌, ℕ, Bool, List, None, Some, [], ◌∷◌, ◌+◌, ◌++◌, length, refl, sym, subst, ap, ◌∙◌, arith, append_assoc, append-nil}
use Rattle.std.specs.Prelude.{if◌then◌else◌}
use Rattle.std.proofs.lemmas.Grind.{common_steps}
use Rattle.std.proofs.lemmas.List.{length-append}
use Rattle.smc_shape.specs.Layout.{Layout, slots_of}
use Rattle.smc_trace.specs.Named.{begins, comes_to}
use Rattle.smc_trace.specs.Trace.{CallEnd}
use Rattle.smc_does.specs.Does.{Does, pair_of}
use Rattle.smc_does.proofs.DoesLaws.{does-then, stays-then}
use Rattle.smc_objects.specs.Alone.{visits_all}
use Rattle.smc_objects.specs.Scans.{scan_in}
use Rattle.smc_objects.proofs.AloneLaws.{count-more}
use Rattle.smc_objects.proofs.alone.count.Goals as goal

pub loop-met-init : goal.loop-met-init
loop-met-init c =
    let s = c.args.s.now in
    let new = c.begin-scan.new.s in
    let many : c.slots-slots.result ≡ slots_of s.shape c.args.c = search rules in
    record {
      stays = c.begin-scan.ensures.stays;
      scan = c.begin-scan.ensures.scan;
      goes_on = c.begin-scan.ensures.first.2;
      low = omega arith;
      slots = many ∙ (ap (λ (k : Layout). slots_of k c.args.c) (sym c.begin-scan.ensures.done.same.1) ∙ ap (λ (k : ℕ). slots_of new.shape k) (sym c.begin-scan.ensures.first.0));
      met = ([], refl, c.begin-scan.ensures.done);
    }

pub loop-met-preserved : goal.loop-met-preserved
loop-met-preserved c =
    let i = c.loop-met.invariant in
    let v = c.in-Some.ensures.visits in
    let held = c.in-Some._met in
    let s = c.loop-met.s in
    let k : ℕ = (scan_in s c.loop-met.scan).number in
    let low = i.low in
    let ahead = v.ahead in
    let passes = v.passes in
    record {
      stays = stays-then i.stays c.next.ensures.stays;
      scan = c.next.ensures.scan;
      goes_on = v.goes_on;
      low = omega (arith, low, ahead, passes);
      slots = i.slots ∙ (ap (λ (k : Layout). slots_of k c.loop-met.scan.coll) (sym c.next.ensures.done.same.1) ∙ ap (λ (k : ℕ). slots_of c.next.new.s.shape k) (sym c.next.ensures.still.1));
      met = (
        i.met.0 ++ pair_of held ∷ [],
        length-append i.met.0 (pair_of held ∷ []) ∙ ap (λ (n : ℕ). n + 1) i.met.1,
        count-more c.args.s.now s c.next.new.s k _ c.args.c i.met.0 (pair_of held) i.met.2 c.in-Some.ensures.done c.next.ensures.still.0,
      );
    }

pub returns-in_default-clause-done : goal.returns-in_default-clause-done
returns-in_default-clause-done c =
    let i = c.loop-met.invariant in
    let k : ℕ = (scan_in c.loop-met.s c.loop-met.scan).number in
    let more : Does c.loop-met.s c.next.new.s (comes_to k None) =
    subst (λ (b : Bool). Does c.loop-met.s c.next.new.s (if b then [] else comes_to k None)) i.goes_on c.in_default.ensures.done in (
      (begins k c.args.c ++ visits_all k i.met.0) ++ comes_to k None,
      does-then i.met.2 more,
      record { scan = k; visits = i.met.0; counted = i.met.1; made = append_assoc (begins k c.args.c) (visits_all k i.met.0) (comes_to k None) },
    )

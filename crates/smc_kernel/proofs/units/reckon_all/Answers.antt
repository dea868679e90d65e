use Rattle.std.proofs.Common.{◌≡◌, ◌<◌, ◌+◌, ◌++◌, ◌∷◌, [], ℤ, List, suc, pos, length, length-append, take, get_or, to_z, of_z, ap, sym, ◌∙◌, arith, rules}
use Rattle.std.specs.Int.{w64}
use Rattle.std.proofs.lemmas.Int.{ints}
use Rattle.smc_kernel.specs.Columns.{pairs, reckoned}
use Rattle.smc_kernel.proofs.ColumnLaws.{pairs-next}
use Rattle.smc_kernel.proofs.units.reckon_all.Goals as goal

pub loop-i-preserved : goal.loop-i-preserved
loop-i-preserved c =
    let i = c.loop-i.i in
    let more : i + 1 ≡ suc i = omega arith in
    let inside : i < length c.args.others.now = omega (arith, c.loop-i-test.true, c.requires.same) in
    let one : ℤ = get_or c.args.ones.now i (pos 0) in
    let other : ℤ = get_or c.args.others.now i (pos 0) in
    let one_is : to_z w64 (of_z w64 one) ≡ one = search rules in
    let other_is : to_z w64 (of_z w64 other) ≡ other = search rules in
    let unit = c.in_ok-reckon.field-0 in
    let unit_is : to_z w64 (of_z w64 unit) ≡ unit = omega (arith, ints, c.in_ok-reckon.ensures.low, c.in_ok-reckon.ensures.high) in
    let made_is = c.in_ok-reckon.ensures.made ∙ ap (λ x. reckoned c.args.step x (to_z w64 (of_z w64 other))) one_is ∙ ap (λ y. reckoned c.args.step one y) other_is in
    record {
      made = c.push.ensures ∙ ap (λ (u : ℤ). c.loop-i.made ++ u ∷ []) unit_is ∙ ap (λ (units : List ℤ). units ++ unit ∷ []) c.loop-i.invariant.made
          ∙ ap (λ (u : ℤ). pairs (reckoned c.args.step) (take i c.args.ones.now) (take i c.args.others.now) ++ u ∷ []) made_is
          ∙ sym (ap (λ n. pairs (reckoned c.args.step) (take n c.args.ones.now) (take n c.args.others.now)) more
          ∙ pairs-next (reckoned c.args.step) c.args.ones.now c.args.others.now i (pos 0) (pos 0) c.loop-i-test.true inside);
      many = omega (arith, ap (λ (units : List ℤ). length units) c.push.ensures, length-append c.loop-i.made (to_z w64 (of_z w64 unit) ∷ []), c.loop-i.invariant.many);
    }

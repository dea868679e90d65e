use Rattle.std.proofs.Common.{rules, List, [], ◌∷◌, ◌++◌, length, length-append, append_assoc, ap, ◌∙◌, arith}
use Rattle.std.specs.Slots.{slots_items}
use Rattle.smc_region.specs.Callers.{Caller}
use Rattle.smc_region.specs.Ends.{locals_of, states_of}
use Rattle.smc_region.specs.Views.{holding}
use Rattle.smc_region.proofs.Closes.{caller_seat, next_pass, next_seat, takes_in, same_shape, all_joined, all_states, reached_at_end}
use Rattle.smc_region.proofs.Deals.{some_words}
use Rattle.smc_region.proofs.Gathers.{gathers}
use Rattle.smc_region.proofs.region.Region.close.Goals as goal

pub join_seat-requires : goal.join_seat-requires
join_seat-requires c =
    let i = c.loop-pass.invariant in
    let x = c.pass.inside in
    let pass = c.in-Some-pop.pass in
    let front = c.pop-in-loop-pass.new.self.items in
    let region = c.args.self in
    let is = i.1 ∙ ap (λ (xs : List Caller). xs ++ i.0) c.in-Some-pop.ensures.items in
    let next = next_pass region c.args.passes.items front i.0 pass c.requires.all is in
    let mine = caller_seat x.number x.seat.table_id x.seat.me pass c.pass.view_is c.pass.invariant.0 in
    let other = next_seat region c.args.passes.items front i.0 pass x.seat.me c.requires.all is mine in
    let sized = region.sized in
    let some = some_words region.about.shape in
    let key = region.table.shared.key in (
      i.3,
      ap (λ (v : Caller). v.table) c.pass.view_is ∙ next.0.0,
      ap (λ m. m.1) other,
      omega (arith, sized, some),
      gathers key.shape key.opening c.loop-pass.seat.id c.loop-pass.seat.me.0 x.seat.id x.seat.me.0
          (same_shape region.about.shape (length c.loop-pass.passes.items) (length front) (locals_of i.0) pass.local c.loop-pass.seat.me x.seat.me i.2 other),
    )

pub loop-pass-preserved : goal.loop-pass-preserved
loop-pass-preserved c =
    let i = c.loop-pass.invariant in
    let x = c.pass.inside in
    let pass = c.in-Some-pop.pass in
    let front = c.pop-in-loop-pass.new.self.items in
    let region = c.args.self in
    let shape = region.about.shape in
    let is = i.1 ∙ ap (λ (xs : List Caller). xs ++ i.0) c.in-Some-pop.ensures.items in
    let mine = caller_seat x.number x.seat.table_id x.seat.me pass c.pass.view_is c.pass.invariant.0 in
    let other = next_seat region c.args.passes.items front i.0 pass x.seat.me c.requires.all is mine in
    let longer = ap length c.in-Some-pop.ensures.items ∙ length-append front (pass ∷ []) in (
      pass ∷ i.0,
      is ∙ append_assoc front (pass ∷ []) i.0,
      takes_in shape (length front) (locals_of i.0) pass.local c.loop-pass.seat.me c.join_seat.new.seat.me x.seat.me (i.2 ∙ ap (λ n. (holding shape n (locals_of i.0), [])) longer) other c.join_seat.ensures.2,
      c.join_seat.ensures.0 ∙ i.3,
    )

pub returns-clause-locals : goal.returns-clause-locals
returns-clause-locals c =
    let i = c.loop-pass.invariant in
    let none = c.in_default-pop.ensures.cases.0 in
    let seat = all_joined c.args.self.about.shape c.args.passes.items c.loop-pass.passes.items i.0 c.loop-pass.seat.me (omega arith) i.1 i.2 in
    ap (λ s. states_of s.me.0.locals) c.of-last.ensures ∙ all_states c.args.self.about.shape (locals_of c.args.passes.items) c.loop-pass.seat.me seat

pub returns-clause-reached : goal.returns-clause-reached
returns-clause-reached c =
    let i = c.loop-pass.invariant in
    let none = c.in_default-pop.ensures.cases.0 in
    let seat = all_joined c.args.self.about.shape c.args.passes.items c.loop-pass.passes.items i.0 c.loop-pass.seat.me (omega arith) i.1 i.2 in
    let end = c.close_with-closed.ensures.values.2 in
    rw c.of-last.ensures (reached_at_end c.args.self.table.shared.key c.args.self.about c.loop-pass.seat.id c.args.passes.items c.loop-pass.seat.me (slots_items c.close_with-closed.result.words) end.0
    c.args.self.keyed c.requires.all.0 seat end.1 end.2)

pub invariant_of-result : goal.invariant_of-result
invariant_of-result c = (search rules, search rules, search rules, search rules, returns-clause-reached c)

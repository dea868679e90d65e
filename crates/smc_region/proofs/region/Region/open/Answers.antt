use Rattle.std.proofs.Common.{rules, ℕ, ◌<◌, List, length, ap, sym, ◌∙◌, subst, arith}
use Rattle.std.proofs.lemmas.List.{length-replicate}
use Rattle.atomic_table.specs.Table.{Me}
use Rattle.smc_core.specs.Machine.{IsOpened}
use Rattle.smc_region.specs.declared.law.View.{View}
use Rattle.smc_region.specs.Callers.{new_caller}
use Rattle.smc_region.specs.Views.{sole}
use Rattle.smc_region.proofs.Deals.{opens_rule, deal_step, deal_front, deal_behind, new_seat, push_at, new_caller_is, new_outside, some_words}
use Rattle.smc_region.proofs.region.Region.open.Goals as goal

pub of_words-requires : goal.of_words-requires
of_words-requires c = opens_rule c.args.shape c.args.opening c.as_slice.result.now c.passes-count.ensures.valid c.requires
    (subst (λ (row : List ℕ). IsOpened c.args.shape c.args.opening row) (sym c.as_slice.ensures.value) c.in_ok-words.ensures.opened)

pub split_seat-seat-requires : goal.split_seat-seat-requires
split_seat-seat-requires c =
    let below : c.loop-number.number < c.args.shape.passes = subst (λ (n : ℕ). c.loop-number.number < n) c.passes-count.ensures.passes c.loop-number-test.true in
    let table = c.in_ok-table.table.shared in
    let sized = c.in_ok-table.ensures.0 in
    let opened : IsOpened c.args.shape c.args.opening c.in_ok-words.words.items = c.in_ok-words.ensures.opened in
    let long = ap length c.as_slice.ensures.value ∙ opened.long in
    let some = some_words c.args.shape in (
      c.loop-number.invariant.table,
      omega (arith, sized, long, some),
      deal_step table.key.shape table.key.opening c.loop-number.rest.id c.args.shape c.loop-number.number c.loop-number.rest.me c.loop-number.invariant.rest below,
    )

pub invariant_of-push : goal.invariant_of-push
invariant_of-push c =
    let below : c.loop-number.number < c.args.shape.passes = subst (λ (n : ℕ). c.loop-number.number < n) c.passes-count.ensures.passes c.loop-number-test.true in
    let shape = c.args.shape in
    let number = c.loop-number.number in
    let me = c.split_seat-seat.result.me in
    let front = deal_front shape number c.loop-number.rest.me me c.loop-number.invariant.rest below c.split_seat-seat.ensures.4 in
    let here = λ (m : Me (Unit {0}) View). length m.0.shape.colls in (
      new_seat shape number me front below,
      new_outside shape number me front,
      c.in_ok-cursors.ensures ∙ ap (λ (m : Me (Unit {0}) View). (sole m.0.shape m.0.locals).cursors) (sym front),
      ap length c.in_ok-cursors.ensures ∙ (length-replicate (length shape.colls) 0 ∙ ap here (sym front)),
    )

pub loop-number-preserved : goal.loop-number-preserved
loop-number-preserved c =
    let below : c.loop-number.number < c.args.shape.passes = subst (λ (n : ℕ). c.loop-number.number < n) c.passes-count.ensures.passes c.loop-number-test.true in
    let shape = c.args.shape in
    let number = c.loop-number.number in
    let table = c.split_seat-seat.ensures.3 ∙ c.loop-number.invariant.table in
    let front = deal_front shape number c.loop-number.rest.me c.split_seat-seat.result.me c.loop-number.invariant.rest below c.split_seat-seat.ensures.4 in
    record {
      count = search rules;
      passes = push_at (λ k. new_caller c.in_ok-table.table.shared.table_id shape k) c.loop-number.passes.items c.push.new.self.items _ number (omega arith) c.in_ok-push.ensures.items
          (new_caller_is shape number c.split_seat-seat.result.table_id c.split_seat-seat.result.me front ∙ ap (λ t. new_caller t shape number) table) c.loop-number.invariant.passes;
      table = c.split_seat-seat.ensures.0 ∙ c.loop-number.invariant.table;
      rest = deal_behind shape number c.loop-number.rest.me c.split_seat-seat.new.seat.me c.loop-number.invariant.rest below c.split_seat-seat.ensures.2;
    }

use Rattle.std.proofs.Common.{◌≤◌, ◌*◌, ℕ, length, lit<, sym, ap, ◌∙◌, subst, arith}
use Rattle.std.proofs.lemmas.Grind.{div_ceil_times}
use Rattle.smc_types.specs.Texts.{is_text_byte}
use Rattle.smc_types.specs.declared.column.TheConstants.{WORD_BYTES}
use Rattle.smc_types.proofs.CellLaws.{text_of-ends, text_of-full}
use Rattle.smc_types.proofs.cells.text_len.Goals as goal

pub returns-then-not-is_text_byte : goal.returns-then-not-is_text_byte
returns-then-not-is_text_byte c =
    let room : c.args.width ≤ length c.args.words.now * WORD_BYTES = subst (λ (n : ℕ). c.args.width ≤ n * WORD_BYTES) (sym c.requires) (div_ceil_times c.args.width WORD_BYTES (lit< tt)).0 in
    text_of-ends c.args.width c.args.words.now c.loop-place.place c.loop-place-test.true room c.loop-place.invariant
    (ap is_text_byte (sym c.text_byte.ensures.byte) ∙ sym c.is_text_byte.ensures ∙ c.if-not-is_text_byte.true)

pub returns : goal.returns
returns c =
    let room : c.args.width ≤ length c.args.words.now * WORD_BYTES = subst (λ (n : ℕ). c.args.width ≤ n * WORD_BYTES) (sym c.requires) (div_ceil_times c.args.width WORD_BYTES (lit< tt)).0 in
    text_of-full c.args.width c.args.words.now room (λ k l. c.loop-place.invariant k (omega arith))

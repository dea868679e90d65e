use Rattle.std.proofs.Common.{◌≡◌, get_or, arith}
use Rattle.std.proofs.lemmas.List.{get_or_past}
use Rattle.smc_tokens.proofs.QuoteLaws.{longest_inside, none_inside}
use Rattle.smc_tokens.proofs.read.quoted_len.Goals.{else-len-inside-via-then-len-inside+else-inside-len-eq-QUOTE, else-len-inside-via-else-len-inside}
use Rattle.smc_tokens.proofs.read.quoted_len.Goals as goal

pub returns-then-inside-len-eq-QUOTE-clause-longest : goal.returns-then-inside-len-eq-QUOTE-clause-longest
returns-then-inside-len-eq-QUOTE-clause-longest c = longest_inside c.args.inside.now _ c.text_run-len.ensures c.if-len-inside.true c.if-inside-len-eq-QUOTE.true

pub returns-else-len-inside-clause-none : goal.returns-else-len-inside-clause-none
returns-else-len-inside-clause-none c = none_inside c.args.inside.now c.text_run-len.result c.text_run-len.ensures (λ here. elim c.else-len-inside.branch [
  | else-len-inside-via-then-len-inside+else-inside-len-eq-QUOTE w ↦ w.if-inside-len-eq-QUOTE.false here
  | else-len-inside-via-else-len-inside w ↦
      let none : get_or c.args.inside.now c.text_run-len.result 0 ≡ 0 = get_or_past c.args.inside.now c.text_run-len.result 0 (omega arith) in omega arith
])

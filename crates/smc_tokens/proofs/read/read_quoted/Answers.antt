use Rattle.std.proofs.Common.{◌≡◌, ◌+◌, ◌-◌, ◌<◌, get_or, length, subst, sym, ◌∙◌, arith}
use Rattle.smc_tokens.specs.Tokens.{quote, ends_quoted}
use Rattle.smc_tokens.specs.Front.{IsLongest, NoFront}
use Rattle.smc_tokens.proofs.QuoteLaws.{quote_cut, quoted_found, quoted_none}
use Rattle.smc_tokens.proofs.read.read_quoted.Goals as goal

pub split_at-requires : goal.split_at-requires
split_at-requires c = quote_cut c.args.text.now c.utf8.text c.requires

pub returns-in_default : goal.returns-in_default
returns-in_default c = quoted_none c.args.text.now c.split_at.result.1.now c.requires c.split_at.ensures.back (subst (NoFront ends_quoted) c.as_bytes.ensures.value c.in_default.ensures.none)

pub returns : goal.returns
returns c =
    let bytes = c.as_bytes.ensures.value in
    let len = c.in-Some.len in
    let (takes, ascii) = quoted_found c.args.text.now c.split_at.result.1.now _ len c.requires c.split_at.ensures.back
    (c.of.ensures ∙ c.in_ok-from_str.ensures.ok ∙ c.split_at-2.ensures.front)
    (subst (λ text. len < length text) bytes c.in-Some.ensures.within)
    (subst (λ text. get_or text len 0 ≡ quote) bytes c.in-Some.ensures.ended)
    (subst (λ text. IsLongest ends_quoted text (len + 1)) bytes c.in-Some.ensures.longest) in
    let last : len + 2 - 1 ≡ len + 1 = omega arith in
    record { takes = takes; ascii = subst (λ n. get_or c.args.text.now n 0 < 128) (sym last) ascii }

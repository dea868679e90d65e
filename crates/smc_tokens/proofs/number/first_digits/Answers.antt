use Rattle.std.proofs.Common.{arith}
use Rattle.std.specs.Char.{is_ascii_digit}
use Rattle.std.proofs.lemmas.List.Sums.{prefix_len-le-length}
use Rattle.smc_tokens.proofs.RunLaws.{all_front}
use Rattle.smc_tokens.proofs.number.first_digits.Goals as goal

pub split_at-requires : goal.split_at-requires
split_at-requires c = let run = prefix_len-le-length is_ascii_digit c.args.text.now in omega arith

pub returns-clause-digits : goal.returns-clause-digits
returns-clause-digits c =
    rw c.split_at.ensures.front (all_front is_ascii_digit c.args.text.now c.min.result (omega arith))

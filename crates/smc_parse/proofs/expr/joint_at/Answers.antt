use Rattle.std.proofs.Common.{sym}
use Rattle.smc_parse.proofs.ExprLaws.{has-plus, has-minus, has-no-term}
use Rattle.smc_parse.proofs.expr.joint_at.Goals as goal

pub returns-then-is_sign : goal.returns-then-is_sign
returns-then-is_sign c = has-plus c.args.tokens.now c.args.at (sym c.if-is_sign.ensures)

pub returns-then-is_sign-2 : goal.returns-then-is_sign-2
returns-then-is_sign-2 c = has-minus c.args.tokens.now c.args.at (sym c.if-is_sign.ensures) (sym c.if-is_sign-2.ensures)

pub returns : goal.returns
returns c = has-no-term c.args.tokens.now c.args.at c.requires (sym c.if-is_sign.ensures) (sym c.if-is_sign-2.ensures)

use Rattle.smc_parse.proofs.AheadLaws.{stands-at, ahead-end}
use Rattle.smc_parse.proofs.cursor.token_at.Goals as goal

pub returns-then-at-tokens : goal.returns-then-at-tokens
returns-then-at-tokens c = stands-at c.args.tokens.now c.args.at c.index-tokens-at.result c.if-at-tokens.true

pub returns-else-at-tokens : goal.returns-else-at-tokens
returns-else-at-tokens c = ahead-end c.args.tokens.now c.args.at c.if-at-tokens.false

use Rattle.std.proofs.Common.{◌∙◌, ap}
use Rattle.std.specs.List.{prefix_len}
use Rattle.smc_tokens.proofs.ListLaws.{is_space, spaces_cut}
use Rattle.smc_tokens.proofs.list.skip_spaces.Goals as goal

pub split_at-requires : goal.split_at-requires
split_at-requires c = spaces_cut c.args.text.now c.space_run.result c.utf8.text (c.space_run.ensures ∙ ap (prefix_len is_space) c.as_bytes.ensures.value)

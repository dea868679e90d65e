use Rattle.std.proofs.Common.{◌≡◌, min, subst, sym, ◌∙◌, ap, take}
use Rattle.std.specs.List.{prefix_len}
use Rattle.smc_tokens.specs.Tokens.{is_name_byte, TakesToken}
use Rattle.smc_tokens.proofs.KindLaws.{name_token}
use Rattle.smc_tokens.proofs.NameLaws.{name_takes, name_last, name_cut}
use Rattle.smc_tokens.proofs.read.read_name.Goals as goal

pub split_at-requires : goal.split_at-requires
split_at-requires c = name_cut c.args.text.now c.min-len.result c.utf8.text c.requires
    (c.min-len.ensures ∙ ap (λ n. min n 32) c.name_run.ensures ∙ ap (λ bytes. min (prefix_len is_name_byte bytes) 32) c.as_bytes.ensures.value)

pub returns : goal.returns
returns c =
    let text = c.args.text.now in
    let len = c.min-len.result in
    let is = c.min-len.ensures ∙ ap (λ n. min n 32) c.name_run.ensures ∙ ap (λ bytes. min (prefix_len is_name_byte bytes) 32) c.as_bytes.ensures.value in
    let token : name_token (take len text) ≡ c.in_ok-token.token = sym (c.in_ok-token.ensures ∙ ap name_token c.split_at.ensures.front) in
    record { takes = subst (TakesToken text len) token (name_takes text len c.requires is); ascii = name_last text len c.requires is }

use Rattle.std.proofs.Common.{[], ◌+◌, ◌<◌, length, map, sym, arith}
use Rattle.std.proofs.lemmas.Result.{err_from_is_err_and}
use Rattle.smc_tokens.specs.declared.token.Token.TheVariants.{Word}
use Rattle.smc_tokens.specs.declared.reserved.Reserved.TheVariants as words
use Rattle.smc_query.specs.Trees.{path_tree}
use Rattle.smc_query.specs.Machine.{by}
use Rattle.smc_parse.specs.Reading.{given}
use Rattle.smc_parse.specs.Parts.{path_list}
use Rattle.smc_parse.proofs.LeadLaws.{leads-on, leads-mark, leads-none, stops-on, mark-within, Chooses}
use Rattle.smc_parse.proofs.PartLaws.{may-choose}
use Rattle.smc_parse.proofs.parts.read_by.Goals as goal

by-chooses : Chooses by (Word words.By) path_list (given [])
by-chooses = may-choose (Word words.By) path_list (given [])

pub read_paths-requires : goal.read_paths-requires
read_paths-requires c = let h : c.args.at < length c.args.tokens.now = mark-within c.args.tokens.now c.args.at (Word words.By) (sym c.if-is_word.ensures) in omega arith

pub returns-in_err-paths : goal.returns-in_err-paths
returns-in_err-paths c =
    let p = err_from_is_err_and c.from_residual.result c.from_residual.ensures.1 in
    rw (p.1, p.2)
    (stops-on by path_list c.args.tokens.now c.args.at (c.args.at + 1) c.in_err-paths.field-0.0 (leads-mark c.args.tokens.now c.args.at by-chooses (sym c.if-is_word.ensures)) c.in_err-paths.ensures)

pub returns-then-is_word : goal.returns-then-is_word
returns-then-is_word c =
    leads-on by path_list (given (map path_tree c.in_ok-paths.paths)) c.args.tokens.now c.args.at (c.args.at + 1) c.in_ok-paths.end
    (leads-mark c.args.tokens.now c.args.at by-chooses (sym c.if-is_word.ensures)) c.in_ok-paths.ensures

pub returns : goal.returns
returns c = rw (c.of.ensures, c.new.ensures.items) (leads-none c.args.tokens.now c.args.at c.requires by-chooses (sym c.if-is_word.ensures))

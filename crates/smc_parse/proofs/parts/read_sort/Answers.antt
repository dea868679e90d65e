use Rattle.std.proofs.Common.{[], ◌+◌, ◌<◌, length, map, sym, arith}
use Rattle.std.proofs.lemmas.Result.{err_from_is_err_and}
use Rattle.smc_tokens.specs.declared.token.Token.TheVariants.{Word}
use Rattle.smc_tokens.specs.declared.reserved.Reserved.TheVariants as words
use Rattle.smc_query.specs.Trees.{key_tree}
use Rattle.smc_query.specs.Machine.{sort}
use Rattle.smc_parse.specs.Reading.{given}
use Rattle.smc_parse.specs.Parts.{key_list}
use Rattle.smc_parse.proofs.LeadLaws.{leads-on, leads-mark, leads-none, stops-on, mark-within, Chooses}
use Rattle.smc_parse.proofs.PartLaws.{may-choose}
use Rattle.smc_parse.proofs.parts.read_sort.Goals as goal

sort-chooses : Chooses sort (Word words.Sort) key_list (given [])
sort-chooses = may-choose (Word words.Sort) key_list (given [])

pub read_keys-requires : goal.read_keys-requires
read_keys-requires c = let h : c.args.at < length c.args.tokens.now = mark-within c.args.tokens.now c.args.at (Word words.Sort) (sym c.if-is_word.ensures) in omega arith

pub returns-in_err-keys : goal.returns-in_err-keys
returns-in_err-keys c =
    let p = err_from_is_err_and c.from_residual.result c.from_residual.ensures.1 in
    rw (p.1, p.2)
    (stops-on sort key_list c.args.tokens.now c.args.at (c.args.at + 1) c.in_err-keys.field-0.0 (leads-mark c.args.tokens.now c.args.at sort-chooses (sym c.if-is_word.ensures)) c.in_err-keys.ensures)

pub returns-then-is_word : goal.returns-then-is_word
returns-then-is_word c =
    leads-on sort key_list (given (map key_tree c.in_ok-keys.keys)) c.args.tokens.now c.args.at (c.args.at + 1) c.in_ok-keys.end
    (leads-mark c.args.tokens.now c.args.at sort-chooses (sym c.if-is_word.ensures)) c.in_ok-keys.ensures

pub returns : goal.returns
returns c = rw (c.of.ensures, c.new.ensures.items) (leads-none c.args.tokens.now c.args.at c.requires sort-chooses (sym c.if-is_word.ensures))

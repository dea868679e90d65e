use Rattle.std.proofs.Common.{◌<◌, length, sym, subst, refl, arith, false-eqb}
use Rattle.std.proofs.lemmas.Bool.{eqb-true}
use Rattle.smc_tokens.specs.Front.{Finds, BeginsWith}
use Rattle.smc_tokens.specs.Tokens.{BeginsNoToken}
use Rattle.smc_tokens.proofs.AsciiLaws.{ascii_cut, taken_some}
use Rattle.smc_tokens.proofs.ListLaws.{SoFar, none_so_far, one_more, later_shorter, no_more, all_read}
use Rattle.smc_tokens.proofs.list.read_tokens.Goals as goal

pub loop-rest-init : goal.loop-rest-init
loop-rest-init c =
    subst (λ items. SoFar c.args.text.now items c.skip_spaces-rest.result.now) (sym c.new-placed.ensures.items)
    (none_so_far c.args.text.now c.skip_spaces-rest.result.now c.skip_spaces-rest.ensures c.skip_spaces-rest.utf8)

pub returns-in_default : goal.returns-in_default
returns-in_default c =
    let rest = c.loop-rest.rest.now in
    let none : BeginsNoToken rest = subst (BeginsWith rest) c.in_default.is c.in_ok-found.ensures in
    let some : 0 < length rest = omega (arith, false-eqb (length rest) 0 c.loop-rest-test.ensures) in
    no_more c.args.text.now c.loop-rest.placed.items rest _ c.loop-rest.invariant some none refl

pub split_at-requires : goal.split_at-requires
split_at-requires c =
    let rest = c.loop-rest.rest.now in
    let finds : Finds rest c.in-Some.found = subst (BeginsWith rest) c.in-Some.is c.in_ok-found.ensures in
    ascii_cut rest c.in-Some.found.len c.loop-rest.invariant.utf8 (taken_some finds.takes) finds.takes.within finds.ascii

pub loop-rest-smaller : goal.loop-rest-smaller
loop-rest-smaller c =
    let rest = c.loop-rest.rest.now in
    let finds : Finds rest c.in-Some.found = subst (BeginsWith rest) c.in-Some.is c.in_ok-found.ensures in
    later_shorter rest c.split_at.result.1.now c.skip_spaces-rest-in-loop-rest.result.now finds.takes c.split_at.ensures.back c.skip_spaces-rest-in-loop-rest.ensures

pub loop-rest-preserved : goal.loop-rest-preserved
loop-rest-preserved c =
    let rest = c.loop-rest.rest.now in
    let later = c.skip_spaces-rest-in-loop-rest.result.now in
    let finds : Finds rest c.in-Some.found = subst (BeginsWith rest) c.in-Some.is c.in_ok-found.ensures in
    let more = one_more c.args.text.now c.loop-rest.placed.items rest c.split_at.result.1.now later c.in-Some.found.token c.in-Some.found.len _
    c.loop-rest.invariant finds.takes c.split_at.ensures.back c.skip_spaces-rest-in-loop-rest.ensures c.skip_spaces-rest-in-loop-rest.utf8 refl in
    subst (λ items. SoFar c.args.text.now items later) (sym c.in_ok-push.ensures.items) more

pub returns : goal.returns
returns c = all_read c.args.text.now c.loop-rest.placed.items c.loop-rest.rest.now c.loop-rest.invariant (eqb-true (length c.loop-rest.rest.now) 0 (sym c.loop-rest-test.ensures))

use Rattle.smc_schedule.proofs.VerbLaws.{no_verb}
use Rattle.smc_schedule.proofs.verb.read_verb.Goals as goal

pub returns-in_default : goal.returns-in_default
returns-in_default c =
    let other = c.in_default in
    no_verb c.args.word.now other.not-enter other.not-leave other.not-advance other.not-add other.not-look other.not-read other.not-write other.not-remove
    other.not-scan other.not-next other.not-begin other.not-finish other.not-cancel

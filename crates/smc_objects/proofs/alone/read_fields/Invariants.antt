use Rattle.std.proofs.Common.{◌≡◌, length, take}
use Rattle.smc_does.specs.Does.{Does, Stays}
use Rattle.smc_objects.specs.Alone.{reads_all}
use Rattle.smc_objects.proofs.alone.read_fields.Given as goal

-- the fields below `field` are read
abbrev pub invariant-loop-field : goal.invariant-loop-field
invariant-loop-field l = record {
  stays : Stays l.fn.s l.s;
  does : Does l.fn.s l.s (reads_all l.held.number 0 (take l.field l.words));
  long : length l.words ≡ length l.fn.words;
}

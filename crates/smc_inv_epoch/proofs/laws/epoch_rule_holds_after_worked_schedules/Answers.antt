use Rattle.std.proofs.Common.{◌≡◌, true, [], ◌∷◌, refl, arith}
use Rattle.std.specs.Prelude.{is_some}
use Rattle.smc_shape.specs.Layout.{IsShape, words_of}
use Rattle.smc_shape.specs.Places.{at}
use Rattle.smc_shape.proofs.AskedLaws.{no-fault_of}
use Rattle.smc_core.specs.Played.{shape_of, played}
use Rattle.smc_core.specs.Schedules.{announces_twice, helped}
use Rattle.smc_inv_epoch.proofs.EveryList.{rule-played}
use Rattle.smc_inv_epoch.proofs.laws.epoch_rule_holds_after_worked_schedules.Goals as goal

announces_twice-shape : IsShape (shape_of announces_twice)
unfolding words_of
announces_twice-shape = no-fault_of 2 (record { width = 1; slots = 64 } ∷ []) refl

announces_twice-played : is_some (played announces_twice) ≡ true
unfolding at played
announces_twice-played = refl

helped-shape : IsShape (shape_of helped)
unfolding words_of
helped-shape = no-fault_of 2 (record { width = 2; slots = 128 } ∷ []) refl

helped-played : is_some (played helped) ≡ true
unfolding at played
helped-played = refl

pub returns-clause-announces_twice : goal.returns-clause-announces_twice
returns-clause-announces_twice c = rule-played c.schedules_are_reached.ensures announces_twice announces_twice-shape (record { first = omega arith; last = omega arith; incarnation = omega arith }) announces_twice-played

pub returns-clause-helped : goal.returns-clause-helped
returns-clause-helped c = rule-played c.schedules_are_reached.ensures helped helped-shape (record { first = omega arith; last = omega arith; incarnation = omega arith }) helped-played

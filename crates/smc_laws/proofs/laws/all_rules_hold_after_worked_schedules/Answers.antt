use Rattle.std.proofs.Common.{◌≡◌, true, [], ◌∷◌, refl, arith}
use Rattle.std.specs.Prelude.{is_some}
use Rattle.smc_shape.specs.Layout.{IsShape, words_of}
use Rattle.smc_shape.specs.Places.{at}
use Rattle.smc_shape.proofs.AskedLaws.{no-fault_of}
use Rattle.smc_core.specs.Played.{shape_of, played}
use Rattle.smc_core.specs.Schedules.{abandoned, helped}
use Rattle.smc_laws.proofs.Always.{rules-played}
use Rattle.smc_laws.proofs.laws.all_rules_hold_after_worked_schedules.Goals as goal

abandoned-shape : IsShape (shape_of abandoned)
unfolding words_of
abandoned-shape = no-fault_of 2 (record { width = 1; slots = 128 } ∷ []) refl

abandoned-played : is_some (played abandoned) ≡ true
unfolding at played
abandoned-played = refl

helped-shape : IsShape (shape_of helped)
unfolding words_of
helped-shape = no-fault_of 2 (record { width = 2; slots = 128 } ∷ []) refl

helped-played : is_some (played helped) ≡ true
unfolding at played
helped-played = refl

pub returns-clause-abandoned : goal.returns-clause-abandoned
returns-clause-abandoned c = rules-played c.schedules_are_reached.ensures abandoned abandoned-shape (record { first = omega arith; last = omega arith; incarnation = omega arith }) abandoned-played

pub returns-clause-helped : goal.returns-clause-helped
returns-clause-helped c = rules-played c.schedules_are_reached.ensures helped helped-shape (record { first = omega arith; last = omega arith; incarnation = omega arith }) helped-played

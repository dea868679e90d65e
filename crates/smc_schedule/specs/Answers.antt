-- What is printed when a call has ended.
use Rattle.std.specs.Prelude.{ℕ, List, [], ◌++◌, codes}
use Rattle.std.specs.Fmt.{decimal}
use Rattle.smc_core.specs.declared.done.Done.{Done}
use Rattle.smc_core.specs.declared.done.Done.TheVariants.{At, Out, Advanced, NotYet, Overtaken, Spent, Made, Full, Here, Null, Value, Written, First, Late, Begun, Visit, End, Round, Nothing, Busy, Finished, Early, Cancelled, Noted, Learned, Surveyed}
use Rattle.smc_model.specs.declared.event.Cause.{Cause}
use Rattle.smc_model.specs.declared.event.Cause.TheVariants.{Slots, Entries}
use Rattle.smc_schedule.specs.Verbs.{word_of}
use Rattle.smc_schedule.specs.declared.verb.Verb.{Verb}

-- what there was none left of
abbrev pub cause_of : Cause → List ℕ
cause_of Slots = codes "slots"
cause_of Entries = codes "entries"

-- a space and a number
abbrev pub then_number : ℕ → List ℕ
then_number number = codes " " ++ decimal number

-- a round was begun, with this bound and so many moves
abbrev pub round_of : ℕ → ℕ → List ℕ
round_of bound moves = codes "round" ++ then_number bound ++ codes " moves" ++ then_number moves

-- a round has ended, with so many objects moved, left where they were, and found gone
abbrev pub finished_of : ℕ → ℕ → ℕ → List ℕ
finished_of moved abandoned gone = codes "done" ++ then_number moved ++ then_number abandoned ++ then_number gone

-- the answer of a call, where a visited object has this name; the last three are answers of calls that no schedule has
abbrev pub answer_of : List ℕ → Done → List ℕ
answer_of name (At epoch) = codes "at" ++ then_number epoch
answer_of name Out = codes "out"
answer_of name (Advanced epoch) = codes "advanced" ++ then_number epoch
answer_of name (NotYet pass seen) = codes "notyet" ++ then_number pass ++ then_number seen
answer_of name (Overtaken seen) = codes "overtaken" ++ then_number seen
answer_of name Spent = codes "spent"
answer_of name (Made slot) = codes "made" ++ then_number slot
answer_of name (Full cause) = codes "full " ++ cause_of cause
answer_of name (Here slot) = codes "here" ++ then_number slot
answer_of name Null = codes "null"
answer_of name (Value value) = codes "value" ++ then_number value
answer_of name Written = codes "done"
answer_of name First = codes "first"
answer_of name Late = codes "late"
answer_of name Begun = codes "begun"
answer_of name (Visit number slot) = codes "visit " ++ name ++ then_number slot
answer_of name End = codes "end"
answer_of name (Round coll bound moves) = round_of bound moves
answer_of name (Nothing coll) = codes "nothing"
answer_of name (Busy bound pass coll) = codes "busy" ++ then_number bound ++ then_number pass
answer_of name (Finished moved abandoned gone) = finished_of moved abandoned gone
answer_of name (Early epoch bound) = codes "early" ++ then_number epoch ++ then_number bound
answer_of name Cancelled = codes "done"
answer_of name (Noted note) = []
answer_of name Learned = []
answer_of name (Surveyed coll objects blocks) = []

-- the pass, the word of its call and the answer, in a line
abbrev pub line_with : ℕ → Verb → List ℕ → List ℕ
line_with pass verb answer = decimal pass ++ codes " " ++ word_of verb ++ codes " " ++ answer ++ codes "\n"

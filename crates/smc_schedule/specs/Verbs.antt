-- The words that start a call.
use Rattle.std.specs.Prelude.{ℕ, List, [], ◌∷◌, codes, find}
use Rattle.std.specs.declared.option.Option.{Option}
use Rattle.std.specs.Str.{bytes_eq}
use Rattle.smc_schedule.specs.declared.verb.Verb.{Verb}
use Rattle.smc_schedule.specs.declared.verb.Verb.TheVariants.{Enter, Leave, Advance, Add, Look, Read, Write, Remove, Scan, Next, Begin, Finish, Cancel}

-- the word of each call
abbrev pub word_of : Verb → List ℕ
word_of Enter = codes "enter"
word_of Leave = codes "leave"
word_of Advance = codes "advance"
word_of Add = codes "add"
word_of Look = codes "look"
word_of Read = codes "read"
word_of Write = codes "write"
word_of Remove = codes "remove"
word_of Scan = codes "scan"
word_of Next = codes "next"
word_of Begin = codes "begin"
word_of Finish = codes "finish"
word_of Cancel = codes "cancel"

-- all of them
abbrev pub verbs : List Verb
verbs = Enter ∷ Leave ∷ Advance ∷ Add ∷ Look ∷ Read ∷ Write ∷ Remove ∷ Scan ∷ Next ∷ Begin ∷ Finish ∷ Cancel ∷ []

-- the call whose word this is
abbrev pub verb_of : List ℕ → Option Verb
verb_of word = find (λ verb. bytes_eq (word_of verb) word) verbs

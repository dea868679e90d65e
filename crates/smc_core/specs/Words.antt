-- What the words of a row say, as data.
use Rattle.std.specs.Prelude.{ℕ, ◌==◌, ◌&&◌, Bool, true, false, Option, Some, None}
use Rattle.smc_words.specs.declared.dir.Dir.{Dir}
use Rattle.smc_words.specs.declared.dir.Dir.TheVariants as dir
use Rattle.smc_words.specs.declared.number.Number.{Number}
use Rattle.smc_words.specs.declared.round.RoundWord.{RoundWord}
use Rattle.smc_core.specs.declared.word.State.{State}
use Rattle.smc_core.specs.declared.word.State.TheVariants as state
use Rattle.smc_core.specs.declared.word.Word.{Word}
use Rattle.smc_core.specs.declared.word.Word.TheVariants as word

-- the number, where the word is one as it is
abbrev pub plain_of : Word → ℕ
plain_of (word.Plain number) = number
plain_of _ = 0

-- the round, where the word tells one
abbrev pub round_of : Word → Option RoundWord
round_of (word.Round round) = round
round_of _ = None

-- the state, where the word is that of an entry
abbrev pub state_of : Word → State
state_of (word.Entry state) = state
state_of _ = state.Claimed 0

-- what is in the slot, where the word is that of a directory
abbrev pub dir_of : Word → Dir
dir_of (word.Directory dir) = dir
dir_of _ = dir.Claimed

-- the owner, where the word names one
abbrev pub back_of : Word → Option Number
back_of (word.Back number) = number
back_of _ = None

-- the target, where the word is that of a move
abbrev pub forward_of : Word → ℕ
forward_of (word.Forward slot) = slot
forward_of _ = 0

-- whether two marks are the same
abbrev pub same_mark : Bool → Bool → Bool
same_mark true true = true
same_mark false false = true
same_mark _ _ = false

-- whether two numbers are the same
abbrev pub same_number : Number → Number → Bool
same_number a b = a.incarnation == b.incarnation && a.entry == b.entry && a.coll == b.coll

-- whether two owners are the same
abbrev pub same_back : Option Number → Option Number → Bool
same_back None None = true
same_back (Some a) (Some b) = same_number a b
same_back _ _ = false

-- whether two round words are the same
abbrev pub same_round : Option RoundWord → Option RoundWord → Bool
same_round None None = true
same_round (Some a) (Some b) = a.bound == b.bound && a.pass == b.pass && a.coll == b.coll
same_round _ _ = false

-- whether two directory words are the same
abbrev pub same_dir : Dir → Dir → Bool
same_dir dir.Free dir.Free = true
same_dir dir.Claimed dir.Claimed = true
same_dir dir.Incoming dir.Incoming = true
same_dir dir.Valid dir.Valid = true
same_dir (dir.Limbo a) (dir.Limbo b) = a == b
same_dir _ _ = false

-- whether two states are the same
abbrev pub same_state : State → State → Bool
same_state (state.Free a s) (state.Free b t) = a == b && s == t
same_state (state.Claimed a) (state.Claimed b) = a == b
same_state (state.Present a s) (state.Present b t) = a == b && s == t
same_state (state.Frozen a s) (state.Frozen b t) = a == b && s == t
same_state (state.Locked a s) (state.Locked b t) = a == b && s == t
same_state (state.Removed a s f l) (state.Removed b t g m) = a == b && s == t && same_mark f g && same_mark l m
same_state _ _ = false

-- whether two words are the same
abbrev pub same_word : Word → Word → Bool
same_word (word.Plain a) (word.Plain b) = a == b
same_word (word.Round a) (word.Round b) = same_round a b
same_word (word.Entry a) (word.Entry b) = same_state a b
same_word (word.Directory a) (word.Directory b) = same_dir a b
same_word (word.Back a) (word.Back b) = same_back a b
same_word (word.Forward a) (word.Forward b) = a == b
same_word _ _ = false

-- the state once it is marked that the object is gone
abbrev pub gone : State → State
gone (state.Present incarnation slot) = state.Removed incarnation slot false false
gone (state.Frozen incarnation slot) = state.Removed incarnation slot true false
gone (state.Locked incarnation slot) = state.Removed incarnation slot true true
gone (state.Free incarnation stamp) = state.Free incarnation stamp
gone (state.Claimed incarnation) = state.Claimed incarnation
gone (state.Removed incarnation slot frozen locked) = state.Removed incarnation slot frozen locked

-- whether it is marked so
abbrev pub is_gone : State → Bool
is_gone (state.Present incarnation slot) = false
is_gone (state.Frozen incarnation slot) = false
is_gone (state.Locked incarnation slot) = false
is_gone _ = true

-- whether the object with this incarnation of the entry is present
abbrev pub has_object : ℕ → State → Bool
has_object incarnation (state.Present other slot) = other == incarnation
has_object incarnation (state.Frozen other slot) = other == incarnation
has_object incarnation (state.Locked other slot) = other == incarnation
has_object incarnation _ = false

-- whether it is present in this slot
abbrev pub has_object_at : ℕ → ℕ → State → Bool
has_object_at incarnation slot (state.Present other there) = other == incarnation && there == slot
has_object_at incarnation slot (state.Frozen other there) = other == incarnation && there == slot
has_object_at incarnation slot (state.Locked other there) = other == incarnation && there == slot
has_object_at incarnation slot _ = false

-- What a seat of the table knows, its view: the local states of passes, and notes.
use Rattle.std.specs.Prelude.{◌≡◌, ℕ, ◌+◌, Option, Some, None, List, [], ◌∷◌, ◌++◌, length, map, replicate}
use Rattle.atomic_table.specs.Table.{Me}
use Rattle.smc_shape.specs.Layout.{Layout}
use Rattle.smc_model.specs.declared.event.Event.{Event}
use Rattle.smc_core.specs.declared.call.Call.TheVariants as call
use Rattle.smc_core.specs.declared.call.Choice.{Choice}
use Rattle.smc_core.specs.declared.call.Choice.TheVariants.{Start}
use Rattle.smc_core.specs.declared.local.Local.{Local}
use Rattle.smc_core.specs.declared.op.Offer.{Offer}
use Rattle.smc_core.specs.declared.op.Op.{Op}
use Rattle.smc_core.specs.declared.word.Word.{Word}
use Rattle.smc_core.specs.declared.word.Word.TheVariants.{Plain}
use Rattle.smc_core.specs.Local.{fresh, after}
use Rattle.smc_core.specs.Machine.{local_offer}
use Rattle.smc_region.specs.declared.law.NoteSeen.{NoteSeen}
use Rattle.smc_region.specs.declared.law.View.{View}

-- the view of the seat of one pass
abbrev pub one : Layout → ℕ → Local → View
one shape pass l = record { shape = shape; locals = (pass, l) ∷ []; notes = [] }

-- local states with the numbers of their passes, from this one on
abbrev pub numbered : ℕ → List Local → List (ℕ × Local)
numbered pass [] = []
numbered pass (l ∷ later) = (pass, l) ∷ numbered (pass + 1) later

-- the view of a seat that has the passes from this one on
abbrev pub holding : Layout → ℕ → List Local → View
holding shape pass locals = record { shape = shape; locals = numbered pass locals; notes = [] }

-- the view of the first seat: all passes, none of which has done anything
abbrev pub first_view : Layout → View
first_view shape = holding shape 0 (replicate shape.passes (fresh shape))

-- the view of a note's seat
abbrev pub noted : Layout → ℕ → ℕ → List Event → View
noted shape pass number log = record { shape = shape; locals = []; notes = record { pass = pass; number = number; log = log } ∷ [] }

-- the view after a step by this choice, which was told this and shown that
abbrev pub view_after : Choice → ℕ → Word → View → View
view_after choice told w view = record { shape = view.shape; locals = map (λ x. (x.0, after view.shape x.0 x.1 choice told w)) view.locals; notes = view.notes }

-- the operation of an offer, if there is one
abbrev pub op_of : Option Offer → Option Op
op_of None = None
op_of (Some offered) = Some offered.op

-- what the pass of a view offers for the choice, if the view is of one pass
abbrev pub offer_of : Layout → List (ℕ × Local) → Choice → Option Offer
offer_of shape [] choice = None
offer_of shape (x ∷ []) choice = local_offer shape x.0 x.1 choice
offer_of shape (x ∷ y ∷ later) choice = None

abbrev pub sole_offer : View → Choice → Option Offer
sole_offer view choice = offer_of view.shape view.locals choice

-- its operation
abbrev pub sole_op : Layout → List (ℕ × Local) → Choice → Option Op
sole_op shape [] choice = None
sole_op shape (x ∷ []) choice = op_of (local_offer shape x.0 x.1 choice)
sole_op shape (x ∷ y ∷ later) choice = None

abbrev pub view_op : View → Choice → Option Op
view_op view choice = sole_op view.shape view.locals choice

-- the local state of the one pass of a view
abbrev pub sole : Layout → List (ℕ × Local) → Local
sole shape [] = fresh shape
sole shape (x ∷ later) = x.1

-- the local states of a view but the first, and the first alone
abbrev pub tail : List (ℕ × Local) → List (ℕ × Local)
tail [] = []
tail (x ∷ later) = later

abbrev pub head : List (ℕ × Local) → List (ℕ × Local)
head [] = []
head (x ∷ later) = x ∷ []

-- the view without its first pass, and with that pass alone
abbrev pub behind : View → View
behind view = record { shape = view.shape; locals = tail view.locals; notes = view.notes }

abbrev pub front : View → View
front view = record { shape = view.shape; locals = head view.locals; notes = [] }

-- the view of a seat that took another's in, and what is left to the other
abbrev pub gathered : View → View → View
gathered view other = record { shape = view.shape; locals = other.locals ++ view.locals; notes = other.notes ++ view.notes }

abbrev pub spent : View
spent = record { shape = record { passes = 0; colls = [] }; locals = []; notes = [] }

-- the view of a pass that makes a note, by a load whose word tells it nothing
abbrev pub noting : View → View
noting view = view_after (Start call.Note) 0 (Plain 0) view

-- the view of this note's seat: the number is behind those of the notes made before
abbrev pub first_noted : Layout → List (ℕ × Local) → View
first_noted shape [] = spent
first_noted shape (x ∷ later) = noted shape x.0 (length x.1.notes) x.1.log

abbrev pub note_of : View → View
note_of view = first_noted view.shape view.locals

-- the view of a pass that learns a note, by such a load
abbrev pub learning_of : View → List NoteSeen → View
learning_of view [] = view
learning_of view (note ∷ later) = view_after (Start (call.Learn note.pass note.number)) (length note.log) (Plain 0) view

abbrev pub learning : View → View → View
learning view other = learning_of view other.notes

-- a seat with no note, and no slot of the table
abbrev pub IsAlone : Me (Unit {0}) View → Type 0
IsAlone me = (me.0.notes ≡ []) × (me.1 ≡ [])

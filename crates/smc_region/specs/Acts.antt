-- A step as numbers: its kind, the index of its word, and what it expects and puts there.
use Rattle.std.specs.Prelude.{◌≡◌, ℕ, Bool, true, false, Option, Some, None}
use Rattle.smc_shape.specs.Layout.{Layout}
use Rattle.smc_shape.specs.Places.{at}
use Rattle.smc_shape.specs.declared.place.Place.TheVariants as place
use Rattle.smc_core.specs.declared.call.Choice.{Choice}
use Rattle.smc_core.specs.declared.kind.Deed.{Deed}
use Rattle.smc_core.specs.declared.kind.Deed.TheVariants as deed
use Rattle.smc_core.specs.declared.kind.Kind.{Kind}
use Rattle.smc_core.specs.declared.kind.Kind.TheVariants as kind
use Rattle.smc_core.specs.declared.op.Offer.{Offer}
use Rattle.smc_core.specs.declared.op.Op.{Op}
use Rattle.smc_core.specs.declared.op.Op.TheVariants.{Load, Store, Exchange, MarkGone}
use Rattle.smc_core.specs.declared.word.State.TheVariants as state
use Rattle.smc_core.specs.declared.word.Word.TheVariants as word
use Rattle.smc_core.specs.Kinds.{deed_of}
use Rattle.smc_core.specs.Machine.{local_offer}
use Rattle.smc_core.specs.Row.{packed}
use Rattle.smc_region.specs.declared.act.Act.{Act}
use Rattle.smc_region.specs.Callers.{Caller}

-- an operation of a step of this kind, as numbers
abbrev pub act_by : Layout → Kind → Op → Act
act_by shape kind (Load there) = record { kind = kind; word = at shape there; expect = 0; put = 0 }
act_by shape kind (Store there w) = record { kind = kind; word = at shape there; expect = 0; put = packed w }
act_by shape kind (Exchange there expect w) = record { kind = kind; word = at shape there; expect = packed expect; put = packed w }
act_by shape kind (MarkGone coll entry) = record { kind = kind; word = at shape (place.Entry coll entry); expect = 0; put = 0 }

-- the act that an offer is
abbrev pub act_of : Layout → Offer → Act
act_of shape offered = act_by shape offered.kind offered.op

-- the act of an offer, if there is one
abbrev pub act_in : Layout → Option Offer → Option Act
act_in shape None = None
act_in shape (Some offered) = Some (act_of shape offered)

-- the operation of an offer; where there is none, some operation
abbrev pub op_in : Option Offer → Op
op_in None = Load place.Epoch
op_in (Some offered) = offered.op

-- the act that a pass offers for the choice, and its operation
abbrev pub offered_act : Caller → Choice → Option Act
offered_act pass choice = act_in pass.shape (local_offer pass.shape pass.number pass.local choice)

abbrev pub offered_op : Caller → Choice → Op
offered_op pass choice = op_in (local_offer pass.shape pass.number pass.local choice)

-- what an operation does to its word
abbrev pub deed_by : Op → Deed
deed_by (Load there) = deed.Load
deed_by (Store there w) = deed.Store
deed_by (Exchange there expect w) = deed.Exchange
deed_by (MarkGone coll entry) = deed.Mark

-- whether it makes an object live
abbrev pub is_live : Op → Bool
is_live (Store (place.Entry coll entry) (word.Entry (state.Present incarnation slot))) = true
is_live op = false

-- whether steps of this kind make an object live
abbrev pub makes_live : Kind → Bool
makes_live kind.StoreLive = true
makes_live _ = false

-- the operation does what this kind of step does
abbrev pub IsOfKind : Kind → Op → Type 0
IsOfKind kind op = (deed_of kind ≡ deed_by op) × (makes_live kind ≡ is_live op)

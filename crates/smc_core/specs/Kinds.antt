-- What each kind of step does to its word.
use Rattle.smc_core.specs.declared.kind.Deed.{Deed}
use Rattle.smc_core.specs.declared.kind.Deed.TheVariants as deed
use Rattle.smc_core.specs.declared.kind.Kind.{Kind}
use Rattle.smc_core.specs.declared.kind.Kind.TheVariants as kind

-- what a step of this kind does to its word
abbrev pub deed_of : Kind → Deed
deed_of kind.Announce = deed.Store
deed_of kind.AdvanceEpoch = deed.Exchange
deed_of kind.AnnounceAgain = deed.Store
deed_of kind.Leave = deed.Store
deed_of kind.ClaimSlot = deed.Exchange
deed_of kind.DropSlot = deed.Store
deed_of kind.ClaimEntry = deed.Exchange
deed_of kind.StoreBack = deed.Store
deed_of kind.StoreField = deed.Store
deed_of kind.StoreValid = deed.Store
deed_of kind.StoreLive = deed.Store
deed_of kind.WriteField = deed.Store
deed_of kind.MarkGone = deed.Mark
deed_of kind.LeaveSlot = deed.Store
deed_of kind.FreeEntry = deed.Store
deed_of kind.OpenRound = deed.Exchange
deed_of kind.StoreForward = deed.Store
deed_of kind.StoreIncoming = deed.Store
deed_of kind.Freeze = deed.Exchange
deed_of kind.Unfreeze = deed.Exchange
deed_of kind.Lock = deed.Exchange
deed_of kind.CopyField = deed.Exchange
deed_of kind.Swing = deed.Exchange
deed_of kind.Settle = deed.Exchange
deed_of kind.CloseRound = deed.Store
deed_of _ = deed.Load

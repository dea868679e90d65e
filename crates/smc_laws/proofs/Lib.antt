pub mod Everything
pub mod SlotLaws
pub mod MoveLaws
pub mod PlaceLaws
pub mod Always

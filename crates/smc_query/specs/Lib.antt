pub mod Trees
pub mod Grammar
pub mod Faults
pub mod Machine
pub mod Laws
pub mod Examples

pub mod TokenText
pub mod Printed
pub mod Depth
pub mod Laws

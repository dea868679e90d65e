pub mod Drive
pub mod Packing
pub mod Worked

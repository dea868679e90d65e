pub mod Happening

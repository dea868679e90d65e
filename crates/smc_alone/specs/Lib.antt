pub mod AloneCalls
pub mod Ripening
pub mod Drives
pub mod Calm
pub mod Laws
pub mod Worked

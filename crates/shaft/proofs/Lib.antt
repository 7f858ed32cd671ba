pub mod Attaching
pub mod Upward
pub mod Bodies

pub mod Room
pub mod Views
pub mod Attached
pub mod Standing

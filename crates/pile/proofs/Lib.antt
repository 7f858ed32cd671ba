pub mod Bounds
pub mod Integrals
pub mod Bearings
pub mod Shafts
pub mod Tips

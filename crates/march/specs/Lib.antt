pub mod Sides
pub mod Ahead
pub mod Curves

pub mod Digits
pub mod Onward
pub mod Once
pub mod Shapes

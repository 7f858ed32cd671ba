pub mod Enclosing
pub mod Standing

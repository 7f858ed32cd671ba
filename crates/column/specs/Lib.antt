pub mod Rounding
pub mod Slices
pub mod Case
pub mod Nodes
pub mod Balanced
pub mod Marches
pub mod Tips
pub mod Bracket

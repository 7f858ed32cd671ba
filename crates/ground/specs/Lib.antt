pub mod Layers
pub mod Edits
pub mod Table

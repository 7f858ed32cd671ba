pub mod Nearness
pub mod Margins
pub mod OneLayer
pub mod Sizes

pub mod Allowed
pub mod Story
pub mod Places
pub mod Tales

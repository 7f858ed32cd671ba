pub mod Piles
pub mod Refused
pub mod Settles

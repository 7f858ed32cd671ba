pub mod Cuts
pub mod Outcomes
pub mod Steps
pub mod Joined

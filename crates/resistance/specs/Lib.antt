pub mod UnitFriction
pub mod Fetched
pub mod Resistance
pub mod Judging

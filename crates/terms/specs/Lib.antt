pub mod Limits
pub mod Refusals
pub mod Chains
pub mod Soils
pub mod Fractions

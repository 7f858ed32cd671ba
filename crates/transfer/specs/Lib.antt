pub mod Curve
pub mod Asked
pub mod FrankZhao
pub mod Hyperbola
pub mod FrankZhaoCurve
pub mod Quotients
pub mod HyperbolaCurve

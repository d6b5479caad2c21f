pub mod Limits
pub mod Fractions
pub mod FractionLaws
pub mod Rounding
pub mod RoundingLaws
pub mod Written
pub mod Refusals

pub mod Limits
pub mod Rules
pub mod FixedRules
pub mod Lines
pub mod ApiRules

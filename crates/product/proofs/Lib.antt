pub mod Rounded
pub mod LineValues

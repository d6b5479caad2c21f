pub mod Nearest
pub mod Rounds

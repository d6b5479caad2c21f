pub mod Ranges
pub mod Sizes
pub mod Layers
pub mod Averaged

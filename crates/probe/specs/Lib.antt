pub mod Elements
pub mod Probes
pub mod Counted
pub mod CountingLaws

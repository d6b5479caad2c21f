pub mod Samples
pub mod Gauges
pub mod Heard
pub mod Singles
pub mod Pairs
pub mod GateStates
pub mod Gates
pub mod GateLaws

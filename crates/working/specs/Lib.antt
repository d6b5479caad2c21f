pub mod Limits
pub mod Averages
pub mod AverageLaws
pub mod Steps
pub mod Methods
pub mod Observations
pub mod Workings

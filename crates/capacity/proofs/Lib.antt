pub mod RowPlaces
pub mod FindMap
pub mod RowTests

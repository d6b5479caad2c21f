pub mod Fitted
pub mod Words
pub mod Rising

pub mod Words
pub mod Entries
pub mod Places
pub mod Journals

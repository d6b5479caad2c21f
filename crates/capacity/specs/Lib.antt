pub mod Limits
pub mod Tables
pub mod Rows
pub mod RowLaws
pub mod RowSearch
pub mod StrappedTables
pub mod UprightTables
pub mod Layers

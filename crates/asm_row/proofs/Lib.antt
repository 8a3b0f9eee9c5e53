pub mod Cells
pub mod Notes
pub mod Prefixes

pub mod Bytes
pub mod Forms
pub mod Limits
pub mod Lines

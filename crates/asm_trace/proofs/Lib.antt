pub mod Noted
pub mod Making
pub mod Local
pub mod Unchanged

pub mod Change
pub mod Note
pub mod Text

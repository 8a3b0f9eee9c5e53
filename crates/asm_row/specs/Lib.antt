pub mod KnownPrefix
pub mod Limits
pub mod Mark
pub mod Offer
pub mod Row
pub mod Seat

pub mod Crossing
pub mod Insertions
pub mod Followed
mod ChangedInPlace
pub mod InPlace
mod InTree
pub mod Judged
pub mod LeastFound
pub mod Listing
pub mod Onward
pub mod OpeningState
pub mod Counted
pub mod Wanted
pub mod Overwritten
pub mod Settled
pub mod TakenBack
pub mod WrittenAbove
pub mod Writers

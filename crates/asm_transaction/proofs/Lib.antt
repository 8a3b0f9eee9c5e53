pub mod TrackedLists
pub mod Shown
pub mod Growing
pub mod Committed
pub mod Recorded
pub mod Keeping
pub mod PoppedGroups
pub mod Scans
pub mod PoppedMoves
pub mod Crossing
pub mod MemberCounts
pub mod Counts
pub mod Unfired
mod Standings

pub mod SetSteps
pub mod BagSteps
mod CountSteps
mod Arranged
mod Parted
mod Walked
mod Listed
pub mod OnlyPut
pub mod Exits
pub mod BagTables
mod BagRecount
mod BagSums
pub mod Bundles
pub mod Grouped
pub mod Composed
pub mod Sequence
pub mod Composing

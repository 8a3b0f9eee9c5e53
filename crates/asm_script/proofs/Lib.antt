pub mod Crossing
mod BlockMoves
mod ReadyInstructions
mod Gathering
mod Agreeing
mod Advancing
mod TermForms
mod TermActions
mod Faults

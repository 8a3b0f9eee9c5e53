pub mod Limits
pub mod Ends
pub mod StepEvents
pub mod AgentPlay
pub mod Trying
pub mod Jobs
pub mod PlayedAgents
pub mod Play

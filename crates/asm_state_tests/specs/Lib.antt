pub mod Nobody
pub mod laws

pub mod AllWorlds
pub mod Exact
pub mod Questions
pub mod Reasoning
pub mod Rules
pub mod Supposing
pub mod Sweeps
pub mod Worlds

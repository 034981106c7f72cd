pub mod Refusals
pub mod Calls
pub mod Logs
pub mod Runs

pub mod Layout
pub mod Plans
pub mod Promises
pub mod Reading
pub mod Refusals
pub mod Tree

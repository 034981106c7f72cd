pub mod Accessors
pub mod Domains
pub mod Layout
pub mod Lists
pub mod Promises
pub mod Refusals
pub mod Rows
pub mod Sheet

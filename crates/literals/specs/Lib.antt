pub mod Literals
pub mod Membership
pub mod Recorded
pub mod Tables

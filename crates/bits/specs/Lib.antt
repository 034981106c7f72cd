pub mod Bits
pub mod Fields
pub mod Refusals
pub mod Reports

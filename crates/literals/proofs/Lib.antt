mod Counting
mod Digits
mod Facts
pub mod Laws
mod Members
mod Ordered
mod Promise
mod Words

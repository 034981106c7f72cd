pub mod Laws
mod Rounds

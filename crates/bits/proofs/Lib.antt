mod Joins
pub mod Laws
mod Numbers
mod Packing
mod Pieces
mod Standing
mod Steps
mod Writing

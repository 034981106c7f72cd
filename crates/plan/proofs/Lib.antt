mod Adding
mod Exact
mod NodeBits
mod TreeBits
mod Ways
mod WaysOut

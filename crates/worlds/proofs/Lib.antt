mod Loops
mod Rounds

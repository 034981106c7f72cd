mod Known
mod Loops
mod Rounds

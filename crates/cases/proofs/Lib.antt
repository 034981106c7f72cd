mod Computed
mod Pairs
mod Table

mod Clashes
mod Exact
mod Items
pub mod Laws
mod ListBits
mod ListSteps
mod RowParts
mod SheetBits
mod WaysOut

mod Comparing
mod RunLaws
mod Showing

mod Putting
mod Showing
mod Coming
mod Texts

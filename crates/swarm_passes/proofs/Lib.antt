-- What is proved of a run.
pub mod Since
pub mod Events
pub mod Reading
pub mod Rendering
pub mod Numbers
pub mod Gathered
pub mod Finished
pub mod Loops
pub mod Started

pub mod Courses
pub mod Settles
pub mod Stages
pub mod Statuses
pub mod WholeFrame

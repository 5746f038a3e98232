mod ReadLevels
mod Begun

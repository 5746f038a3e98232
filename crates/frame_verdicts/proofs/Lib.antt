mod Corners
mod Faces
mod Judged
mod Texts

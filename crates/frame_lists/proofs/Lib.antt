mod Words
mod Heights
mod Texts
mod Said
mod Frames
mod Selves
mod Meshes

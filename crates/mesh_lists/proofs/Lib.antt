mod Cuts
mod Heads
mod Bodies
mod Faces
mod Digits

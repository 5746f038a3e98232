mod Texts
mod Puts

mod Agree
mod Nearest
mod Numbered
mod Texts

mod Ranges
mod Steps

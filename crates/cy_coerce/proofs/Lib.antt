mod Rows
mod Steps

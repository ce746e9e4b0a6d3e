mod Numbers
mod Steps
mod Firsts

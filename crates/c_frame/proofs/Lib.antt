mod Firsts
mod Following

mod Trees
mod Counts
mod Texts

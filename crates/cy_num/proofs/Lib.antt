mod Bits
mod Floor
mod InType
mod TurnLemmas
mod Wide
mod Wraps

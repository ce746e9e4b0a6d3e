mod Callees
mod Digits
mod Halves
mod KeywordRows
mod Once
mod Parts

mod Integers
mod Judged
mod Numbers
mod Ranges
mod Rows
mod Sizes

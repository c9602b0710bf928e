pub mod Utf8
mod Rows
mod Stopping

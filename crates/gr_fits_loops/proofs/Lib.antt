mod Ranges
mod Open

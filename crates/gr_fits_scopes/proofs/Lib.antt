mod Placed
mod Done

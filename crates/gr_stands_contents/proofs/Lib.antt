mod Sorted
mod Contents

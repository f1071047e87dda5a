pub mod WorldWords

mod Expressions
mod Statements

pub mod ScopePuts

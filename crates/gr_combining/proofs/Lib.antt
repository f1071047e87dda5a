pub mod Flying

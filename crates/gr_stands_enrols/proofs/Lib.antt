pub mod Enrols

pub mod Served
pub mod Laws
pub mod ArrivalLaws

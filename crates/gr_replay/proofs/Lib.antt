pub mod Verdicts
pub mod Progress
pub mod Positions
pub mod Uniques
pub mod RoundTrips
pub mod Dividing

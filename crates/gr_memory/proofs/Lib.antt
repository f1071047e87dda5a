pub mod Trees
pub mod AtThing

pub mod Placed
pub mod Trees
pub mod Writing
pub mod Room
pub mod TypePlaced

pub mod Lookup
pub mod Known
pub mod BothWays
pub mod InputTypes
pub mod Dimensions
pub mod VariableClasses
pub mod BaseTypes

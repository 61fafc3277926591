-- Laws of the canonical form.
pub mod Cells
pub mod NaturalSteps
pub mod Natural
pub mod Sizes

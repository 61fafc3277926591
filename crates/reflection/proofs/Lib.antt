pub mod TextParts
pub mod Rd11BySm5
pub mod Equalities

-- Laws of reading that the code of the walks rests on.
pub mod Steps

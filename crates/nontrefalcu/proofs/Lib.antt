-- Laws of what is handed to C and Rust.
mod HandedOut
mod WrittenText
mod PayloadAnswers

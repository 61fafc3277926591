pub mod WriteInto

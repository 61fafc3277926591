pub mod Grammar
pub mod GrammarParts

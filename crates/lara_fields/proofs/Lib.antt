pub mod EscapeFacts
pub mod SkipFacts
pub mod UnescapeFacts
pub mod WorkedFields

pub mod TextFacts
pub mod WorkedQuotes
pub mod WorkedTexts
pub mod WorkedTypes

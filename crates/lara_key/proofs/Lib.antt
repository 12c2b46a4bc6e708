pub mod BehindFacts
pub mod BoundFacts
pub mod WorkedCodes
pub mod WorkedKeys

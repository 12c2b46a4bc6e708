pub mod CodeOrder
pub mod Decoding
pub mod KeyCodes
pub mod KeyReading
pub mod Keys
pub mod Precedence
pub mod PrefixLengths
pub mod Prefixes

pub mod PrintedNumbers
pub mod PrintedParts
pub mod PrintedText
pub mod PrintedTokens
pub mod PrintedValues

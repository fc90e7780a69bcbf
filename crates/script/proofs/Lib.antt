-- Crate `script`: its laws.
pub mod Texts
pub mod Words
pub mod Numbers
pub mod Decimals
pub mod HexDigits
pub mod HexTexts
pub mod Lines
pub mod RoundTrip
pub mod ParsedLines
pub mod Answers
pub mod Pieces
pub mod Examples

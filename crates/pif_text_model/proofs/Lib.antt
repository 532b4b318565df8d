pub mod Extending
pub mod Splits
pub mod Numerals
pub mod Marks
pub mod Names
pub mod Finding
pub mod Yields
pub mod Plain
pub mod QuestionLemmas
pub mod CallLemmas
mod WorkedCalls
pub mod Written
pub mod ReadBack
pub mod PlainTexts
pub mod Versions

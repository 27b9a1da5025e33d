-- Document 01, 'Bench program': digits and numbers, lines, and the text of an answer.
pub mod Digits
pub mod Lines
pub mod Answers

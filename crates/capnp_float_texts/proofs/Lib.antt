pub mod OneText
pub mod RowsTexts
pub mod Unmarked

-- Words that no public contract stands on.
pub mod FloatTexts
pub mod Shown

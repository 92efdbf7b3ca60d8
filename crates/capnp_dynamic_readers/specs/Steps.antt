-- Steps of the code: no contract of a public function stands on them.
pub mod Behind
pub mod GroupTexts
pub mod Leaf
pub mod PartsRead
pub mod Pieces
pub mod Planned
pub mod Shown
pub mod Styled
pub mod StyledParts
pub mod WalkSteps

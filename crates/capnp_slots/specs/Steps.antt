-- Steps of the code: no contract of a public function stands on them.
pub mod Copied
pub mod ElementSets
pub mod Fields
pub mod Fills
pub mod GroupClears
pub mod GroupSets
pub mod Groups
pub mod Inits
pub mod Planned
pub mod Primitives
pub mod Sources

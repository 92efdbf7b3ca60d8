-- Steps of the code: no contract of a public function stands on them.
pub mod Json
pub mod JsonValues
pub mod Kinds
pub mod Plans
pub mod RepliesSeen
pub mod ShownValues
pub mod Spots
pub mod Told
pub mod Whole
pub mod Wordless

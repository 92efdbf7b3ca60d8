-- Steps of the code: no contract of a public function stands on them.
pub mod Defaults
pub mod Filling
pub mod Level
pub mod Reading
pub mod Total
pub mod Unfolding
pub mod WellFormed

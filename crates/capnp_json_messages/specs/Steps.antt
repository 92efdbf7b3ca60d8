-- Steps of the code: no contract of a public function stands on them.
pub mod Sources
pub mod Roots
pub mod Walks

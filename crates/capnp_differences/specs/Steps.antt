-- Steps of the code: no contract of a public function stands on them.
pub mod Telling
pub mod Comparing
pub mod Edges
pub mod Gathering
pub mod Marking

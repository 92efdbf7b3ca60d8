-- Steps of the code: no contract of a public function stands on them.
pub mod Adding
pub mod Seen
pub mod Targets

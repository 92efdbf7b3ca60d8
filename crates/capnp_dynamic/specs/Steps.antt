-- Steps of the code: no contract of a public function stands on them.
pub mod Built
pub mod Handed
pub mod Opened
pub mod Taken

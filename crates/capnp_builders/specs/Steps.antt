-- Steps of the code: no contract of a public function stands on them.
pub mod Blobs
pub mod Defaults
pub mod Pointers
pub mod Rests

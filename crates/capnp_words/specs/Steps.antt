-- Steps of the code: no contract of a public function stands on them.
pub mod Calls
pub mod Marked
pub mod Quoted
pub mod Values

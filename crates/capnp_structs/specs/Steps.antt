-- Steps of the code: no contract of a public function stands on them.
pub mod Fields
pub mod Names
pub mod Values

-- Steps of the code: no contract of a public function stands on them.
pub mod Joins
pub mod Kept
pub mod Lists
pub mod Next

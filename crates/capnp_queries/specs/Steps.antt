-- Steps of the code: no contract of a public function stands on them.
pub mod Counts
pub mod Listings
pub mod Roots
pub mod Stands

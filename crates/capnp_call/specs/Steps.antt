-- Steps of the code: no contract of a public function stands on them.
pub mod Ends
pub mod Hops
pub mod Lists
pub mod Messages
pub mod Seen
pub mod Walks

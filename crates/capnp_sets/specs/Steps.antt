-- Steps of the code: no contract of a public function stands on them.
pub mod Handles
pub mod MessageCauses

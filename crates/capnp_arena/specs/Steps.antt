-- Steps of the code: no contract of a public function stands on them.
pub mod Blob
pub mod Blobs
pub mod Copies
pub mod Counts
pub mod Encoded
pub mod Ends
pub mod Grown
pub mod Handles
pub mod InOrder
pub mod Looked
pub mod Made
pub mod Parts
pub mod Reads
pub mod Shape

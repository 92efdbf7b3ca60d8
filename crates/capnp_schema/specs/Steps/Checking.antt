-- What the steps of the check find out, for their own contracts and proofs.
pub mod Entry
pub mod Fields
pub mod Lengths
pub mod Levels
pub mod Marks
pub mod Meetings
pub mod Parents
pub mod Spans
pub mod Types

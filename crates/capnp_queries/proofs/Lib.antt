pub mod Counts
pub mod FloatRefusals
pub mod JsonParts
pub mod Listings
pub mod PatternSteps
pub mod Reaching
pub mod Rows
pub mod TextParts

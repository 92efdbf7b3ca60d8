-- Steps of the code: no contract of a public function stands on them.
pub mod Checking
pub mod Entries
pub mod EntryRanges
pub mod GroupWalks
pub mod Named
pub mod Names
pub mod TableRows
pub mod Tables

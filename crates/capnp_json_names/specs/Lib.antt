pub mod Labels
pub mod Meetings
pub mod Distinct
pub mod Met
pub mod Steps

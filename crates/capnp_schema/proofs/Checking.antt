-- Lemmas that the steps of the check are proved by.
pub mod BrandRefusals
pub mod FieldWalk
pub mod GroupChains
pub mod GroupTable
pub mod InnermostTypes
pub mod Lengths
pub mod LevelTimes
pub mod NameTables
pub mod ReadDefaults
pub mod SmallCounts
pub mod SpanLemmas
pub mod SpanTables
pub mod TourGroups
pub mod Tours
pub mod Types
pub mod WordPlaces

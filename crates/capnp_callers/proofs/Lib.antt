pub mod CutReads
pub mod Letters
pub mod ListNumbers
pub mod NthIndex
pub mod SetAndGet
pub mod TextParts
mod PartsOf
mod RootCalls

pub mod AttributesRead
pub mod CleanedNames
pub mod SetupLines
pub mod SetupAttributes
pub mod SetupSources

-- An export makes the view again, and scripts have short numbers.
pub mod SentLines
pub mod ListedLines
pub mod WrittenLines
pub mod WrittenItems
pub mod ShownPaths
pub mod ExportableViews
pub mod NumberedEntries
pub mod RebuiltTexts
pub mod RebuiltStates
pub mod ShortNumbers
pub mod SavedNumbers

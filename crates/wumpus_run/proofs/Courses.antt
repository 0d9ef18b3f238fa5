-- The course of a session, by one cut of its items.
pub mod NextItems
pub mod SessionReads
pub mod SavesOfItems
pub mod CrashesUnderWay
pub mod CoursesUnderWay
pub mod CoursesAtEnd

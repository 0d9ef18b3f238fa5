-- What the command line asks for.
pub mod SettingLimits
pub mod UnaskedSessions
pub mod AskedLines
pub mod CarriedLines

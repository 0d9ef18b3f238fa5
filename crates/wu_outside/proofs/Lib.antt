pub mod CrashLogs
pub mod Handing
pub mod Reading
pub mod Seeking
pub mod Sending
pub mod Survival
pub mod Untold

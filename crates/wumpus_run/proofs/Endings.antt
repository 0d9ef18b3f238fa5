-- How a session ends, and what was taken and written then.
pub mod PartialItems
pub mod SentReplies
pub mod WholeOutputs
pub mod TakenReplies
pub mod PromptAtEnd
pub mod UntakenBytes
pub mod StartedStates
pub mod OpenedSessions
pub mod RootRoom
pub mod EndStatuses
pub mod FaultCounts
pub mod SpentStores
pub mod TakenAtEnd
pub mod WrittenAtEnd
pub mod BrokenBlobs
pub mod ShutStores

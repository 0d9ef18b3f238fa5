-- What becomes of the blobs of the store.
pub mod AloneStores
pub mod SoundBlobs
pub mod NamedAtEnd
pub mod StrayBlobs
pub mod DrawnBlobs
pub mod EarlierLemmas
pub mod NamedCheckpoints

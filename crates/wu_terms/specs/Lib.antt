pub mod Terms
pub mod Prefixes
pub mod Listings
pub mod Collections
pub mod Laws

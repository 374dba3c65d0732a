mod Examples
pub mod Sets
pub mod Asking
pub mod Needs
pub mod Feeding
pub mod Visiting
pub mod Both
pub mod Naming
pub mod Listing
pub mod Hitting
pub mod Impacting
pub mod NoHits

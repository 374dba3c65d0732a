mod In
mod Ranks
mod Fits
mod Alone
mod Whole
mod Meant
mod Single
mod Kept

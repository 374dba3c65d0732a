-- Values: what the values of options and places stand for.
pub mod Values

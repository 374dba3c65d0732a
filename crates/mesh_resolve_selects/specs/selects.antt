-- Apart: names that stand once.
pub mod Apart
-- Standing: what keeps the rules of a SELECT.
pub mod Standing

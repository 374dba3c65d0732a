-- Steady: models whose computed rows don't change as time goes on.
pub mod Steady
-- Even: closures whose units lie within one another from model to model.
pub mod Even
-- Arrives: sources that only change in rows that no model has read yet.
pub mod Arrives

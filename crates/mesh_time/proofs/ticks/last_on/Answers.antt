use Rattle.mesh_time.proofs.TickLaws.{quiet_day, quiet_minutes, floor_on}
use Rattle.mesh_time.proofs.ticks.last_on.Goals as goal

pub returns-then-not-ticks_on-clause-last : goal.returns-then-not-ticks_on-clause-last
returns-then-not-ticks_on-clause-last c = quiet_day _ _ _ c.requires.second (λ h. absurd (cc (c.ticks_on.ensures.1 h)))

pub returns-in-None-clause-last : goal.returns-in-None-clause-last
returns-in-None-clause-last c = quiet_minutes _ _ _ c.requires.second c.in-None.ensures.quiet

pub returns-in-Some-clause-last : goal.returns-in-Some-clause-last
returns-in-Some-clause-last c =
    floor_on _ _ _ c.in-Some.minute c.requires.second (c.ticks_on.ensures.0 c.if-not-ticks_on.false) c.in-Some.ensures.found.0 c.in-Some.ensures.found.1 c.in-Some.ensures.quiet

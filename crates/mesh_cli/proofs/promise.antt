-- Asked: what a command line makes is what a command of the promise makes.
pub mod Asked
-- Keeping: a command keeps a world sound, and leaves an environment final.
pub mod Keeping
-- Calls: so do calls, and the lines of scripts.
pub mod Calls
-- Reached: so after any calls from the empty world.
pub mod Reached
-- Calling: so do the calls that a command is made of, by themselves.
pub mod Calling
-- Dangling: a plan that is executed over a sound world never meets an object that dangles.
pub mod Dangling
-- Forming: every call leaves a world formed that was.
pub mod Forming
-- Beside: a command leaves the environments that it isn't for, and what is recorded.
pub mod Beside
-- Still: nothing moves within one moment.
pub mod Still
-- Looked: no question tells of a sound world that it is damaged.
pub mod Looked
-- Undamaged: nor does any command.
pub mod Undamaged
-- Steady: what steady projects ask for settles.
pub mod Steady
-- Promising: what the public call promises follows from how it ends.
pub mod Promising

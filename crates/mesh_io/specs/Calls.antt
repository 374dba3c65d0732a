-- The calls of an object in memory, which are numbered from 0: the calls with listed numbers fail, and no others.
use Rattle.std.specs.Prelude.{ℕ, Bool, ◌==◌, List, if◌then◌else◌}
use Rattle.std.specs.List.{list_any}
use Rattle.mesh_list.specs.Counts.{risen}
use Rattle.mesh_io.specs.declared.calls.Calls.{Calls}

-- the call that comes next is listed
abbrev pub fails_next : Calls → Bool
fails_next c = list_any (λ n. n == c.next) c.fails

-- the calls after the next one has come
abbrev pub after_call : Calls → Calls
after_call c = record c { next = risen 1 c.next; faults = if fails_next c then risen 1 c.faults else c.faults }

-- no call has come, and these will fail
abbrev pub no_calls : List ℕ → Calls
no_calls fails = record { fails = fails; next = 0; faults = 0 }

-- the calls are numbered from 0 anew, and these will fail
abbrev pub renumbered : List ℕ → Calls → Calls
renumbered fails c = record { fails = fails; next = 0; faults = c.faults }

-- A step that changes a state in its place, beside the definition of one that gives the next state.
use Rattle.std.specs.Prelude.{◌≡◌, Result, Ok, Err}
use Rattle.mesh_query_tokens.specs.Gives.{Refuses}
use Rattle.mesh_query_tokens.specs.declared.faults.ReadFault.{ReadFault}

-- the state is what the step gives, or the refusal is its own, unless memory ran out
abbrev pub Leads : {S : Type 0} → Result (Unit {0}) ReadFault → S → Result S ReadFault → Type 0
Leads (Ok u) now step = step ≡ Ok now
Leads (Err e) now step = Refuses e step

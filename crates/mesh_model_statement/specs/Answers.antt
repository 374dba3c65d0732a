-- What a reader returned, seen by a view, beside what a definition gives.
use Rattle.std.specs.Prelude.{◌≡◌, Result, Ok, Err}
use Rattle.mesh_query_tokens.specs.Gives.{Refuses}
use Rattle.mesh_query_tokens.specs.declared.faults.ReadFault.{ReadFault}
use Rattle.mesh_query_tokens.specs.declared.faults.ReadFault.TheVariants as faults

abbrev pub GivesAs : {X Y : Type 0} → (X → Y) → Result X ReadFault → Result Y ReadFault → Type 0
GivesAs view (Ok x) read = read ≡ Ok (view x)
GivesAs view (Err e) read = Refuses e read

-- a fault is this one, unless memory ran out
abbrev pub Refused : ReadFault → ReadFault → Type 0
Refused faults.Memory fault = Unit {0}
Refused (faults.Fault at kind) fault = fault ≡ faults.Fault at kind

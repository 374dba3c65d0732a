-- What a reader returned, beside what a definition gives.
use Rattle.std.specs.Prelude.{◌≡◌, Result, Ok, Err}
use Rattle.mesh_query_tokens.specs.declared.faults.ReadFault.{ReadFault}
use Rattle.mesh_query_tokens.specs.declared.faults.ReadFault.TheVariants as faults

-- one step of reading, and then the next
infixl 10 ◌>>=◌
abbrev pub ◌>>=◌ : {A B : Type 0} → Result A ReadFault → (A → Result B ReadFault) → Result B ReadFault
(Ok x) >>= next = next x
(Err e) >>= next = Err e

-- a refusal is the one that reading gives, unless memory ran out
abbrev pub Refuses : {Y : Type 0} → ReadFault → Result Y ReadFault → Type 0
Refuses (faults.Fault at kind) read = read ≡ Err (faults.Fault at kind)
Refuses faults.Memory read = Unit {0}

-- what was returned is what reading gives, unless memory ran out
abbrev pub Gives : {X : Type 0} → Result X ReadFault → Result X ReadFault → Type 0
Gives (Ok x) read = read ≡ Ok x
Gives (Err e) read = Refuses e read

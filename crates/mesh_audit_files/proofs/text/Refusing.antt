-- A step that refuses ends the reading.
use Rattle.std.proofs.Common.{◌≡◌, List, Result, Ok, Err, refl, sym, ap, subst, ◌∙◌}
use Rattle.std.specs.Result.{IsErrAnd}
use Rattle.std.specs.declared.option.Option.{Option}
use Rattle.std.specs.declared.option.Option.TheVariants.{None, Some}
use Rattle.mesh_query_tokens.specs.Gives.{◌>>=◌, Gives, Refuses}
use Rattle.mesh_query_tokens.specs.declared.faults.ReadFault.{ReadFault}
use Rattle.mesh_query_tokens.specs.declared.faults.ReadFault.TheVariants as faults
use Rattle.mesh_query_tokens.specs.declared.tokens.Token.{Token}
use Rattle.mesh_audit_files.specs.text.Statement.{Headed}
use Rattle.mesh_audit_files.specs.text.Texts.{first_fault, or_token}

pub refuses_itself : (A : Type 0) (x : ReadFault) → Refuses {Y = A} x (Err x)
refuses_itself A faults.Memory = tt
refuses_itself A (faults.Fault at kind) = refl

pub refused_on : {A B : Type 0} (x : ReadFault) (r : Result A ReadFault) (next : A → Result B ReadFault) → Err x ≡ r → Refuses x (r >>= next)
refused_on x r next is = subst (λ q. Refuses x (q >>= next)) is (refuses_itself _ x)

pub statement_refused : {B : Type 0} (ts : List Token) (token : Option ReadFault) (x : ReadFault) (r : Result Headed ReadFault) (next : Headed → Result B ReadFault) → Refuses x r → Refuses (or_token ts token x) (first_fault ts token r >>= next)
statement_refused ts None faults.Memory r next h = tt
statement_refused ts (Some token) faults.Memory r next h = tt
statement_refused ts token (faults.Fault at kind) r next h = subst (λ q. Refuses (or_token ts token (faults.Fault at kind)) (first_fault ts token q >>= next)) (sym h) (refuses_itself _ (or_token ts token (faults.Fault at kind)))

pub next_gives : {A B : Type 0} (first : Result A ReadFault) (next : A → Result B ReadFault) (x : A) (result : Result B ReadFault) → first ≡ Ok x → Gives result (next x) → Gives result (first >>= next)
next_gives first next x result is g = subst (λ q. Gives result (q >>= next)) (sym is) g

pub memory_gives : {A : Type 0} (result r : Result A ReadFault) → IsErrAnd result (λ y. y ≡ faults.Memory) → Gives result r
memory_gives (Ok x) r is = absurd is
memory_gives (Err faults.Memory) r is = tt
memory_gives (Err (faults.Fault at kind)) r is = absurd (let clash : faults.Fault at kind ≡ faults.Memory = is in cc)

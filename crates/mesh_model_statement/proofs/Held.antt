-- What a step gives holds behind the next one.
use Rattle.std.proofs.Common.{Bool, true, false, cond, Result, Ok, Err, IfOk}
use Rattle.mesh_query_tokens.specs.Gives.{◌>>=◌}
use Rattle.mesh_query_tokens.specs.declared.faults.ReadFault.{ReadFault}

pub after : {A B : Type 0} (P : A → Type 0) (Q : B → Type 0) (r : Result A ReadFault) (next : A → Result B ReadFault) → IfOk r P → ((x : A) → P x → IfOk (next x) Q) → IfOk (r >>= next) Q
after P Q (Ok x) next p f = f x p
after P Q (Err e) next p f = tt

pub after_any : {A B : Type 0} (Q : B → Type 0) (r : Result A ReadFault) (next : A → Result B ReadFault) → ((x : A) → IfOk (next x) Q) → IfOk (r >>= next) Q
after_any Q (Ok x) next f = f x
after_any Q (Err e) next f = tt

pub either : {A : Type 0} (Q : A → Type 0) (b : Bool) (x y : Result A ReadFault) → IfOk x Q → IfOk y Q → IfOk (cond b x y) Q
either Q true x y p q = p
either Q false x y p q = q

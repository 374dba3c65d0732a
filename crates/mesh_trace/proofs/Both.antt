-- Two clauses of one answer.
use Rattle.std.specs.Prelude.{OnOk, Ok, Err}
use Rattle.std.specs.declared.result.Result.{Result}

pub on_ok_both : {A E : Type 0} {P Q R : Type 0} (r : Result A E) → (P → Q → R) → OnOk r P → OnOk r Q → OnOk r R
on_ok_both (Ok a) f p q = f p q
on_ok_both (Err e) f p q = tt

-- A form over the answers for its operands, and over what the operands stand for.
use Rattle.std.proofs.Common.{◌≡◌, ℕ, List, [], ◌∷◌, Result, Ok, Err, Option, Some, None, refl, sym, subst}
use Rattle.mesh_query_tokens.specs.Gives.{◌>>=◌, Gives}
use Rattle.mesh_query_tokens.specs.Walk.{along}
use Rattle.mesh_query_tokens.specs.declared.faults.ReadFault.{ReadFault}
use Rattle.mesh_query_tokens.specs.declared.faults.ReadFault.TheVariants as faults
use Rattle.mesh_resolve_types.specs.declared.typed.Typed.{Typed}
use Rattle.mesh_resolve_types.specs.Forms.{Read, cased}
use Rattle.mesh_resolve_scope.specs.Expressions.{chain, then_right}
use Rattle.mesh_resolve_scope.specs.Steps.{over, next_part, whole, in_turn, of_both, case_over}

-- an answer that wants memory may stand for anything
wants_memory : {Y : Type 0} (answer read : Result Y ReadFault) → Gives answer (Err faults.Memory) → Gives answer read
wants_memory (Ok y) read gives = absurd (cc gives)
wants_memory (Err faults.Memory) read gives = tt
wants_memory (Err (faults.Fault at kind)) read gives = absurd (cc gives)

pub over_given : {A B : Type 0} (form : A → Result B ReadFault) (r read : Result A ReadFault) (answer : Result B ReadFault)
    → Gives r read → Gives answer (r >>= form) → Gives answer (read >>= form)
over_given form (Ok x) read answer is gives = subst (λ s. Gives answer (s >>= form)) (sym is) gives
over_given form (Err (faults.Fault at kind)) read answer is gives = subst (λ s. Gives answer (s >>= form)) (sym is) gives
over_given form (Err faults.Memory) read answer is gives = wants_memory answer (read >>= form) gives

pub under : {A B : Type 0} (form other : A → Result B ReadFault) (read : Result A ReadFault) (answer : Result B ReadFault)
    → ((x : A) → Gives answer (form x) → Gives answer (other x)) → Gives answer (read >>= form) → Gives answer (read >>= other)
under form other (Ok x) answer each gives = each x gives
under form other (Err e) answer each gives = gives

pub turn_given : {A B : Type 0} (r c : Result A ReadFault) (s d : Result B ReadFault) (answer : Result (A × B) ReadFault)
    → Gives r c → Gives s d → Gives answer (in_turn r s) → Gives answer (in_turn c d)
turn_given r c s d answer is also gives =
    under (λ x. s >>= λ y. Ok (x, y)) (λ x. d >>= λ y. Ok (x, y)) c answer (λ x. over_given (λ y. Ok (x, y)) s d answer also)
    (over_given (λ x. s >>= λ y. Ok (x, y)) r c answer is gives)

pub turn_then : {A B C : Type 0} (a : Result A ReadFault) (b : Result B ReadFault) (form : A → B → Result C ReadFault)
    → (in_turn a b >>= λ both. form both.0 both.1) ≡ (a >>= λ x. b >>= λ y. form x y)
turn_then (Ok x) (Ok y) form = refl
turn_then (Ok x) (Err e) form = refl
turn_then (Err e) b form = refl

pub both_given : {A B C : Type 0} (form : A → B → Result C ReadFault) (a c : Result A ReadFault) (b d : Result B ReadFault) (answer : Result C ReadFault)
    → Gives a c → Gives b d → Gives answer (of_both form a b) → Gives answer (c >>= λ x. d >>= λ y. form x y)
both_given form a c b d answer is also gives =
    under (λ x. b >>= λ y. form x y) (λ x. d >>= λ y. form x y) c answer (λ x. over_given (λ y. form x y) b d answer also)
    (over_given (λ x. b >>= λ y. form x y) a c answer is (subst (λ r. Gives answer r) (turn_then a b form) gives))

pub case_given : (at : ℕ) (operand a : Result (Option Typed) ReadFault) (arms b : Result (List (Typed × Typed)) ReadFault) (otherwise d : Result (Option Typed) ReadFault) (answer : Read)
    → Gives operand a → Gives arms b → Gives otherwise d → Gives answer (case_over at operand arms otherwise) → Gives answer (case_over at a b d)
case_given at operand a arms b otherwise d answer is more last gives =
    under (λ x. arms >>= λ y. otherwise >>= λ z. cased at x y z) (λ x. b >>= λ y. d >>= λ z. cased at x y z) a answer
    (λ x g. under (λ y. otherwise >>= λ z. cased at x y z) (λ y. d >>= λ z. cased at x y z) b answer (λ y. over_given (λ z. cased at x y z) otherwise d answer last)
    (over_given (λ y. otherwise >>= λ z. cased at x y z) arms b answer more g))
    (over_given (λ x. arms >>= λ y. otherwise >>= λ z. cased at x y z) operand a answer is gives)

-- A chain is one walk over all its parts.
module _ (at : ℕ) (form : Typed → Typed → Read) where
  chained_on : (r : Read) (rs : List Read)
      → ((t : Typed) → along (then_right form) t rs ≡ (along (over (next_part form)) (Some t) rs >>= whole at))
      → (r >>= λ t. along (then_right form) t rs) ≡ ((r >>= λ t. Ok (Some t)) >>= λ n. along (over (next_part form)) n rs) >>= whole at
  chained_on (Ok t) rs all = all t
  chained_on (Err e) rs all = refl

  chained_from : (rs : List Read) (t : Typed) → along (then_right form) t rs ≡ (along (over (next_part form)) (Some t) rs >>= whole at)
  unfolding along
  chained_from [] t = refl
  chained_from (Ok x ∷ rs) t = chained_on (form t x) rs (chained_from rs)
  chained_from (Err e ∷ rs) t = refl

  pub chained : (rs : List Read) → chain at form rs ≡ (along (over (next_part form)) None rs >>= whole at)
  unfolding along
  chained [] = refl
  chained (Ok t ∷ rs) = chained_from rs t
  chained (Err e ∷ rs) = refl

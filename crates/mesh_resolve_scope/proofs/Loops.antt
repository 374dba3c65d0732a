-- The loops of the walk: one more operand, the first fault, and the end.
use Rattle.std.proofs.Common.{◌≡◌, ℕ, ◌+◌, ◌<◌, ◌≤◌, List, [], ◌∷◌, ◌++◌, length, take, map, get_or, Result, Ok, Err, Option, None, IsErrAnd, refl, sym, ap, subst, take_all, ◌∙◌}
use Rattle.std.proofs.lemmas.Result.{err_from_is_err_and}
use Rattle.std.proofs.lemmas.List.{map-id, map_more, take_more, get_or_default}
use Rattle.mesh_query_tokens.specs.Gives.{◌>>=◌, Gives, Refuses}
use Rattle.mesh_query_tokens.specs.Walk.{along}
use Rattle.mesh_query_tokens.specs.declared.faults.ReadFault.{ReadFault}
use Rattle.mesh_query_tokens.specs.declared.faults.ReadFault.TheVariants as faults
use Rattle.mesh_query_tokens.proofs.Along.{along_snoc, fault_at}
use Rattle.mesh_resolve_types.specs.declared.typed.Typed.{Typed}
use Rattle.mesh_resolve_types.specs.Forms.{Read}
use Rattle.mesh_resolve_scope.specs.Expressions.{Behind, chain, steps, one_step}
use Rattle.mesh_resolve_scope.specs.Steps.{over, next_part, of_both, whole}
use Rattle.mesh_resolve_scope.proofs.Answered.{over_given, under, both_given, chained}

-- a function that ends with a fault
pub stopped : {Y : Type 0} (answer read : Result Y ReadFault) (e : ReadFault) → IsErrAnd answer (λ y. y ≡ e) → Refuses e read → Gives answer read
stopped answer read e is stops =
    let p = err_from_is_err_and answer is in
    rw (p.1, p.2) stops

-- a fault of the first step ends the rest
refused_on : {A B : Type 0} (e : ReadFault) (r : Result A ReadFault) (next : A → Result B ReadFault) → Refuses e r → Refuses e (r >>= next)
refused_on (faults.Fault at kind) r next stops = ap (λ s. s >>= next) stops
refused_on faults.Memory r next stops = tt

pub refused_by : {A B : Type 0} (e : ReadFault) (r : Result A ReadFault) (form : A → Result B ReadFault) (answer : Result B ReadFault)
    → Refuses e r → IsErrAnd answer (λ y. y ≡ e) → Gives answer (r >>= form)
refused_by e r form answer stops ends = stopped answer (r >>= form) e ends (refused_on e r form stops)

pub nothing_yet : {S A : Type 0} (step : S → A → Result S ReadFault) (s : S) → along step s [] ≡ Ok s
unfolding along
nothing_yet step s = refl

-- one more member of a list that is walked over
grown : {S X A : Type 0} (step : S → A → Result S ReadFault) (f : X → A) (s : S) (xs : List X) (i : ℕ) (x : X) → i < length xs → x ≡ get_or xs i x
    → along step s (map f (take (i + 1) xs)) ≡ (along step s (map f (take i xs)) >>= λ n. step n (f x))
grown step f s xs i x lt is =
    ap (along step s) (map_more f xs i x lt ∙ ap (λ y. map f (take i xs) ++ f y ∷ []) (sym is)) ∙ along_snoc step s (map f (take i xs)) (f x)

-- a walk over operands, by the answers so far
module _ {S A X : Type 0} (form : S → A → Result S ReadFault) (f : X → Result A ReadFault) where
  pub one_more_over : (s : S) (now next : Result S ReadFault) (xs : List X) (i : ℕ) (x : X) (r : Result A ReadFault) → i < length xs → x ≡ get_or xs i x
      → Gives now (along (over form) s (map f (take i xs))) → Gives r (f x) → Gives next (of_both form now r)
      → Gives next (along (over form) s (map f (take (i + 1) xs)))
  one_more_over s now next xs i x r lt is so_far given gives =
      subst (λ q. Gives next q) (sym (grown (over form) f s xs i x lt is))
      (both_given form now (along (over form) s (map f (take i xs))) r (f x) next so_far given gives)

  pub all_over : (s : S) (now : Result S ReadFault) (xs parts : List X) (i : ℕ) → xs ≡ parts → length xs ≤ i
      → Gives now (along (over form) s (map f (take i xs))) → Gives now (along (over form) s (map f parts))
  all_over s now xs parts i same le so_far = subst (λ l. Gives now (along (over form) s (map f l))) (take_all i xs le ∙ same) so_far

-- a chain of parts
module _ {X : Type 0} (at : ℕ) (form : Typed → Typed → Read) (f : X → Read) (read answer : Read) (parts : List X) (is : read ≡ chain at form (map f parts)) where
  pub chain_ends : (now : Result (Option Typed) ReadFault) (xs : List X) (i : ℕ) → xs ≡ parts → length xs ≤ i
      → Gives now (along (over (next_part form)) None (map f (take i xs))) → Gives answer (now >>= whole at) → Gives answer read
  chain_ends now xs i same le so_far gives =
      subst (λ s. Gives answer s) (sym (chained at form (map f parts)) ∙ sym is)
      (over_given (whole at) now (along (over (next_part form)) None (map f parts)) answer (all_over (next_part form) f None now xs parts i same le so_far) gives)

-- steps behind a first part
pub begun : {S A : Type 0} (step : S → A → Result S ReadFault) (r first : Result S ReadFault) → Gives r first → Gives r (first >>= λ s. along step s [])
unfolding along
begun step r (Ok s) is = is
begun step r (Err e) is = is

more_behind : {S X A : Type 0} (step : S → A → Result S ReadFault) (f : X → A) (first : Result S ReadFault) (xs : List X) (i : ℕ) (x : X) → i < length xs → x ≡ get_or xs i x
    → (first >>= λ s. along step s (map f (take (i + 1) xs))) ≡ ((first >>= λ s. along step s (map f (take i xs))) >>= λ n. step n (f x))
more_behind step f (Ok s) xs i x lt is = grown step f s xs i x lt is
more_behind step f (Err e) xs i x lt is = refl

module _ {X : Type 0} (at : ℕ) (f : X → Behind) (form : Typed → Typed → Read) where
  pub one_more_step : (first now next : Read) (xs : List X) (i : ℕ) (x : X) (operand r : Read) → i < length xs → x ≡ get_or xs i x
      → Gives now (first >>= λ s. along (one_step at) s (map f (take i xs))) → ((left : Typed) → f x at left ≡ over form left operand) → Gives r operand
      → Gives next (of_both form now r) → Gives next (first >>= λ s. along (one_step at) s (map f (take (i + 1) xs)))
  one_more_step first now next xs i x operand r lt here so_far is given gives =
      subst (λ q. Gives next q) (sym (more_behind (one_step at) f first xs i x lt here))
      (under (λ l. operand >>= λ y. form l y) (λ l. f x at l) (first >>= λ s. along (one_step at) s (map f (take i xs))) next
      (λ l g. subst (λ q. Gives next q) (sym (is l)) g)
      (both_given form now (first >>= λ s. along (one_step at) s (map f (take i xs))) r operand next so_far given gives))

pub steps_end : {X : Type 0} (at : ℕ) (f : X → Behind) (first read answer : Read) (parts xs : List X) (i : ℕ)
    → read ≡ steps at first (map f parts) → xs ≡ parts → length xs ≤ i
    → Gives answer (first >>= λ s. along (one_step at) s (map f (take i xs))) → Gives answer read
steps_end at f first read answer parts xs i layer same le so_far =
    subst (λ q. Gives answer q) (ap (λ l. first >>= λ s. along (one_step at) s (map f l)) (take_all i xs le ∙ same) ∙ sym layer) so_far

-- a walk over plain values
module _ {S A : Type 0} (step : S → A → Result S ReadFault) where
  pub one_more_plain : (s now next : S) (xs : List A) (i : ℕ) (d : A) → i < length xs → along step s (take i xs) ≡ Ok now
      → step now (get_or xs i d) ≡ Ok next → along step s (take (i + 1) xs) ≡ Ok next
  one_more_plain s now next xs i d lt so_far stepped =
      ap (along step s) (take_more xs i d lt) ∙ along_snoc step s (take i xs) (get_or xs i d) ∙ ap (λ r. r >>= λ n. step n (get_or xs i d)) so_far ∙ stepped

  pub fault_plain : (s now : S) (xs : List A) (i : ℕ) (d : A) (e : ReadFault) → i < length xs → along step s (take i xs) ≡ Ok now
      → Refuses e (step now (get_or xs i d)) → Refuses e (along step s xs)
  fault_plain s now xs i d e lt so_far stops =
      subst (λ l. Refuses e (along step s l)) (map-id xs)
      (fault_at step (λ x. x) s now xs i (get_or xs i d) e lt (get_or_default xs i d (get_or xs i d) lt) (ap (along step s) (map-id (take i xs)) ∙ so_far) stops)

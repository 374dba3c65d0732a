-- The model of a name, looked for from the front.
use Rattle.std.proofs.Common.{◌≡◌, ℕ, zero, suc, ◌+◌, ◌<◌, ◌≤◌, true, false, cond, List, [], ◌∷◌, length, drop, get_or, refl, sym, ap, ◌∙◌, subst, arith}
use Rattle.std.specs.List.{slice_get}
use Rattle.std.specs.Ordering.{is_eq}
use Rattle.std.specs.declared.option.Option.TheVariants.{None, Some}
use Rattle.std.proofs.lemmas.List.{length-map}
use Rattle.std.proofs.lemmas.Option.{slice_get_read}
use Rattle.mesh_base_values.specs.Names.{name_cmp}
use Rattle.mesh_base_values.specs.declared.values.Name.{Name}
use Rattle.mesh_base.specs.declared.definitions.Own.{Own}
use Rattle.mesh_base.specs.declared.snapshots.Node.{Node}
use Rattle.mesh_spec_model.specs.Closures.{Closure, closures, own_of}
use Rattle.mesh_spec_model.proofs.Listed.{one_each}
use Rattle.mesh_trace.specs.Traces.{model_named, place_in}
use Rattle.mesh_trace.proofs.Visiting.{closure_at}

-- what is behind those that were passed over begins with the one at the place
drop_there : {X : Type 0} (xs : List X) (i : ℕ) (x : X) → slice_get xs i ≡ Some x → drop i xs ≡ x ∷ drop (i + 1) xs
drop_there [] i x e = absurd (cc)
drop_there (y ∷ ys) zero x e = let same : y ≡ x = cc in ap (λ z. z ∷ ys) same
drop_there (y ∷ ys) (suc i) x e = drop_there ys i x e ∙ ap (λ l. x ∷ l) (sym (ap (λ k. drop k (y ∷ ys)) (let more : suc i + 1 ≡ suc (i + 1) = omega arith in more)))

none_left : {X : Type 0} (xs : List X) (i : ℕ) → length xs ≤ i → drop i xs ≡ []
none_left [] zero l = refl
none_left [] (suc i) l = refl
none_left (x ∷ xs) zero l = absurd (omega arith)
none_left (x ∷ xs) (suc i) l = none_left xs i (omega arith)

long_as : (nodes : List Node) → length (closures nodes) ≡ length nodes
long_as nodes = sym (length-map (closures nodes) own_of) ∙ ap length (one_each nodes) ∙ length-map nodes (λ (n : Node). n.own)

module _ (nodes : List Node) (name : Name) (i : ℕ) (n : Node) (inside : i < length nodes) (here : n ≡ get_or nodes i n) (so_far : model_named (drop i (closures nodes)) name ≡ model_named (closures nodes) name) where
  begins : (c : Closure) × (slice_get (closures nodes) i ≡ Some c) × (own_of c ≡ n.own)
  begins = closure_at nodes i n (slice_get_read nodes (length nodes) i n refl inside here)

  tested : (c : Closure) → slice_get (closures nodes) i ≡ Some c → own_of c ≡ n.own
      → cond (is_eq (name_cmp n.own.name name)) (Some c) (model_named (drop (i + 1) (closures nodes)) name) ≡ model_named (closures nodes) name
  tested c at own =
      ap (λ (o : Own). cond (is_eq (name_cmp o.name name)) (Some c) (model_named (drop (i + 1) (closures nodes)) name)) (sym own)
      ∙ ap (λ cs. model_named cs name) (sym (drop_there (closures nodes) i c at))
      ∙ so_far

  pub named_here : is_eq (name_cmp n.own.name name) ≡ true → place_in (closures nodes) (Some i) ≡ model_named (closures nodes) name
  named_here t =
      let (c, at, own) = begins in
      at ∙ ap (λ b. cond b (Some c) (model_named (drop (i + 1) (closures nodes)) name)) (sym t) ∙ tested c at own

  pub named_later : is_eq (name_cmp n.own.name name) ≡ false → model_named (drop (i + 1) (closures nodes)) name ≡ model_named (closures nodes) name
  named_later t =
      let (c, at, own) = begins in
      ap (λ b. cond b (Some c) (model_named (drop (i + 1) (closures nodes)) name)) (sym t) ∙ tested c at own

pub named_nowhere : (nodes : List Node) (name : Name) (i : ℕ) → length nodes ≤ i → model_named (drop i (closures nodes)) name ≡ model_named (closures nodes) name → place_in (closures nodes) None ≡ model_named (closures nodes) name
named_nowhere nodes name i over so_far = ap (λ cs. model_named cs name) (sym (none_left (closures nodes) i (subst (λ k. k ≤ i) (sym (long_as nodes)) over))) ∙ so_far

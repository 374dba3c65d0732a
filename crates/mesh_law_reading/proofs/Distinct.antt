-- No name stands twice among the output columns of a resolved SELECT.
use Rattle.std.proofs.Common.{◌≡◌, ℕ, Bool, true, false, not, cond, ◌||◌, List, [], ◌∷◌, map, Ok, refl, sym, ap, ◌∙◌}
use Rattle.std.specs.List.{AllByRecursion}
use Rattle.std.proofs.lemmas.Bool.{not-true as free, and_from as and_both}
use Rattle.mesh_base_values.specs.Picked.{same_text}
use Rattle.mesh_base_values.proofs.Equals.{text_is}
use Rattle.mesh_base.specs.Outputs.{item_columns}
use Rattle.mesh_base.specs.rules.Seen.{are_distinct, has_column}
use Rattle.mesh_query_grammar.specs.declared.surface.queries.Surface.{Surface}
use Rattle.mesh_query_grammar.specs.declared.surface.queries.SurfaceSelect.{SurfaceSelect}
use Rattle.mesh_query_tokens.specs.Gives.{◌>>=◌}
use Rattle.mesh_query_tokens.specs.Walk.{along}
use Rattle.mesh_resolve_types.specs.Faults.{duplicate}
use Rattle.mesh_resolve.specs.declared.known.Known.{Known}
use Rattle.mesh_resolve_selects.specs.declared.outputs.commons.Common.{Common}
use Rattle.mesh_resolve_selects.specs.declared.outputs.outputs.Output.{Output}
use Rattle.mesh_resolve_selects.specs.declared.selects.parts.Walked.{Walked}
use Rattle.mesh_resolve_selects.specs.selects.Apart.{Taken, new_output, no_names, with_name, outputs_apart, items_apart}
use Rattle.mesh_resolve_selects.specs.outputs.Keys.{key_exprs}
use Rattle.mesh_resolve_selects.specs.outputs.Outputs.{resolved_item}
use Rattle.mesh_resolve_selects.specs.selects.Standing.{is_grouped, keeps_groups, stands}
use Rattle.mesh_resolve.specs.Selects.{resolved_as, right_keys, select, walked}
use Rattle.mesh_base.specs.declared.queries.Query.{Query}
use Rattle.mesh_resolve.specs.Queries.{resolved}
use Rattle.mesh_law_reading.specs.Each.{EachSelect, HasDistinctNames}
use Rattle.mesh_law_reading.proofs.Good.{Good, given, then_good, provided_good, each_weaker}
use Rattle.mesh_law_reading.proofs.Queries.{each_select, queries_keep}

turned : (a b : List ℕ) → same_text a b ≡ false → same_text b a ≡ false
turned a b apart = by_other (same_text b a) refl
  where
    by_other : (o : Bool) → same_text b a ≡ o → o ≡ false
    by_other false e = refl
    by_other true e = let same : b ≡ a = text_is b a e in absurd (let clash : true ≡ false = sym e ∙ ap (λ x. same_text x a) same ∙ ap (same_text a) (sym same) ∙ apart in cc)

-- a name that isn't taken yet
abbrev Free : Taken → Output → Type 0
Free taken o = taken o.name ≡ false

abbrev Apart : Taken → List Output → Type 0
Apart taken os = AllByRecursion (Free taken) os × (are_distinct (item_columns (map resolved_item os)) ≡ true)

not_this : (b t : Bool) → cond b true t ≡ false → (b ≡ false) × (t ≡ false)
not_this true t e = absurd (cc)
not_this false t e = (refl, e)

lacks : (os : List Output) (name : List ℕ) → AllByRecursion (λ (o : Output). same_text name o.name ≡ false) os → has_column (item_columns (map resolved_item os)) name ≡ false
lacks [] name all = refl
lacks (o ∷ os) name all = neither (same_text o.name name) (has_column (item_columns (map resolved_item os)) name) (turned name o.name all.0) (lacks os name all.1)
  where
    neither : (b t : Bool) → b ≡ false → t ≡ false → (b || t) ≡ false
    neither false false e f = refl
    neither false true e f = f
    neither true t e f = e

apart : (os : List Output) (taken : Taken) → Good (λ (end : Taken). Apart taken os) (along new_output taken os)
unfolding along
apart [] taken = given (λ end. Apart taken []) taken (tt, refl)
apart (o ∷ os) taken =
    then_good (λ next. (taken o.name ≡ false) × (next ≡ with_name taken o.name)) (λ end. Apart taken (o ∷ os)) (new_output taken o) (λ next. along new_output next os)
    (provided_good (λ next. (taken o.name ≡ false) × (next ≡ with_name taken o.name)) (not (taken o.name)) (with_name taken o.name) (duplicate o.at o.name) (λ e. (free (taken o.name) e, refl)))
    (λ next p end e. let rest = apart os (with_name taken o.name) end (ap (λ t. along new_output t os) (sym p.1) ∙ e) in
    let both : AllByRecursion (λ (x : Output). (same_text o.name x.name ≡ false) × (taken x.name ≡ false)) os = each_weaker (Free (with_name taken o.name)) (λ x. (same_text o.name x.name ≡ false) × (taken x.name ≡ false)) os (λ x f. not_this (same_text o.name x.name) (taken x.name) f) rest.0 in
    let others = each_weaker (λ (x : Output). (same_text o.name x.name ≡ false) × (taken x.name ≡ false)) (λ x. same_text o.name x.name ≡ false) os (λ x f. f.0) both in
    let before = each_weaker (λ (x : Output). (same_text o.name x.name ≡ false) × (taken x.name ≡ false)) (Free taken) os (λ x f. f.1) both in
    ((p.0, before), and_both _ _ (ap not (lacks os o.name others)) rest.1))

module _ (known : Known) where
  names_stand_once : (w : Walked) → Good (λ keys. are_distinct (item_columns (map resolved_item w.outputs)) ≡ true) (right_keys w)
  names_stand_once w =
      let Once : Type 0 = are_distinct (item_columns (map resolved_item w.outputs)) ≡ true in
      then_good (λ right. Once) (λ keys. Once) (stands (is_grouped w) (key_exprs w.keys) w) (λ right. Ok (key_exprs w.keys))
      (then_good (λ rightly. Unit {0}) (λ right. Once) (keeps_groups (is_grouped w) (key_exprs w.keys) w) (λ rightly. outputs_apart w.outputs >>= λ outputs. items_apart w.from) (λ x e. tt)
      (λ rightly u. then_good (λ outputs. Once) (λ right. Once) (outputs_apart w.outputs) (λ outputs. items_apart w.from)
      (then_good (λ end. Once) (λ outputs. Once) (along new_output no_names w.outputs) (λ taken. Ok tt) (λ end e. (apart w.outputs no_names end e).1) (λ end once. given (λ x. Once) tt once))
      (λ outputs once x e. once)))
      (λ right once. given (λ keys. Once) (key_exprs w.keys) once)

  select_distinct : (ctes : List Common) (s : SurfaceSelect) → Good HasDistinctNames (select known ctes s)
  unfolding select
  select_distinct ctes s =
      then_good (λ w. Unit {0}) HasDistinctNames (walked known ctes s) (λ w. right_keys w >>= λ keys. Ok (resolved_as s.distinct (is_grouped w) keys w)) (λ w e. tt)
      (λ w u. then_good (λ keys. are_distinct (item_columns (map resolved_item w.outputs)) ≡ true) HasDistinctNames (right_keys w) (λ keys. Ok (resolved_as s.distinct (is_grouped w) keys w)) (names_stand_once w)
      (λ keys once. given HasDistinctNames (resolved_as s.distinct (is_grouped w) keys w) once))

pub distinct_names : (known : Known) (surface : Surface) (query : Query) → resolved known surface ≡ Ok query → EachSelect HasDistinctNames query
distinct_names known surface query e = each_select HasDistinctNames query (queries_keep (λ ctes. HasDistinctNames) known (select_distinct known) surface query e)

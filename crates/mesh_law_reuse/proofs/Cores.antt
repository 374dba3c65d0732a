-- A model's rows are those of its core.
use Rattle.std.proofs.Common.{◌≡◌, Bool, true, false, cond, List, [], ◌∷◌, ◌++◌, map, refl, ap, sym, ◌∙◌, subst}
use Rattle.std.specs.Ordering.{is_eq}
use Rattle.std.specs.declared.option.Option.{Option}
use Rattle.std.specs.declared.option.Option.TheVariants.{Some}
use Rattle.mesh_base_values.specs.NameOrder.{names_exact}
use Rattle.mesh_base_values.specs.Names.{name_cmp}
use Rattle.mesh_base_values.specs.declared.times.Bounds.{Bounds}
use Rattle.mesh_base_values.specs.declared.values.Name.{Name}
use Rattle.mesh_base_values.proofs.Equals.{equal_of}
use Rattle.mesh_base.specs.declared.definitions.Own.{Own}
use Rattle.mesh_base.specs.declared.jobs.Input.{Input}
use Rattle.mesh_spec_model.specs.Closures.{Closure, Closures, Model, Alone, With, own_of}
use Rattle.mesh_spec_model.specs.Horizons.{Clock, schedule}
use Rattle.mesh_spec_model.specs.Scratch.{rows_over, table_of, from_scratch, tables, piece}
use Rattle.mesh_spec_model.specs.Sources.{declared, inputs}
use Rattle.mesh_law_query.specs.Alike.{named}
use Rattle.mesh_law_query.specs.Reads.{reads}
use Rattle.mesh_law_query.specs.Cuts.{cut, AgreeOnReads}
use Rattle.mesh_law_query.proofs.ReadColumns.{Str}
use Rattle.mesh_law_query.proofs.Reading.{over_read, piece_read}
use Rattle.mesh_spec_changes.specs.reuse.Cores.{pruned_own, pruned, pruned_for, core}
use Rattle.mesh_law_reuse.proofs.Horizons.{schedule_core, schedule_pruned}
use Rattle.mesh_law_reuse.proofs.Shown.{own_cut}

name_pruned : (wanted : List Str) (c : Closure) → (own_of (pruned wanted c)).name ≡ (own_of c).name
name_pruned wanted (Model own parents) = refl

-- the same tables in front
in_front : (all : List Str) (name : Name) (front ts us : List Input) → cut all (named ts name) ≡ cut all (named us name) → cut all (named (front ++ ts) name) ≡ cut all (named (front ++ us) name)
in_front all name [] ts us h = h
in_front all name (x ∷ front) ts us h = go (is_eq (name_cmp x.name name)) (in_front all name front ts us h)
  where
    go : (b : Bool) → cut all (named (front ++ ts) name) ≡ cut all (named (front ++ us) name) → cut all (cond b (Some x) (named (front ++ ts) name)) ≡ cut all (cond b (Some x) (named (front ++ us) name))
    go true ih = refl
    go false ih = ih

module _ (sources : List Input) (clock : Clock) where
  abbrev table : Closure → Input
  table c = table_of (own_of c) (from_scratch sources clock c)

  one_more : (own : Own) (name : Name) (c : Closure) (a b : Option Input) (v : Bool) → is_eq (name_cmp (own_of c).name name) ≡ v
      → cut (reads own (own_of c).name) (Some (table c)) ≡ cut (reads own (own_of c).name) (Some (table (pruned (reads own (own_of c).name) c)))
      → cut (reads own name) a ≡ cut (reads own name) b
      → cut (reads own name) (cond v (Some (table c)) a) ≡ cut (reads own name) (cond v (Some (table (pruned (reads own (own_of c).name) c))) b)
  one_more own name c a b true e h rest =
      let same : (own_of c).name ≡ name = names_exact (own_of c).name name (equal_of (name_cmp (own_of c).name name) e) in
      subst (λ n. cut (reads own n) (Some (table c)) ≡ cut (reads own n) (Some (table (pruned (reads own (own_of c).name) c)))) same h
  one_more own name c a b false e h rest = rest

  mutual
    closure_cut : (wanted : List Str) (c : Closure) → cut wanted (Some (table c)) ≡ cut wanted (Some (table (pruned wanted c)))
    closure_cut wanted (Model own parents) =
        let less : Own = pruned_own wanted own in
        let whole = inputs sources own (tables sources clock parents) in
        own_cut wanted own whole (schedule clock (Model own parents))
        ∙ ap (λ units. cut wanted (Some (table_of less (rows_over less whole units)))) (sym (schedule_pruned clock wanted (Model own parents)))
        ∙ ap (λ rows. cut wanted (Some (table_of less rows)))
        (over_read less whole (inputs sources less (tables sources clock (pruned_for less parents)))
        (λ k e l. in_front (reads less _) _ (map (declared sources) own.sources) (tables sources clock parents) (tables sources clock (pruned_for less parents)) (tables_cut less parents _))
        (schedule clock (pruned wanted (Model own parents))))

    tables_cut : (own : Own) (cs : Closures) (name : Name) → cut (reads own name) (named (tables sources clock cs) name) ≡ cut (reads own name) (named (tables sources clock (pruned_for own cs)) name)
    tables_cut own Alone name = refl
    tables_cut own (With c cs) name =
        one_more own name c (named (tables sources clock cs) name) (named (tables sources clock (pruned_for own cs)) name) (is_eq (name_cmp (own_of c).name name)) refl
        (closure_cut (reads own (own_of c).name) c) (tables_cut own cs name)
        ∙ ap (λ n. cut (reads own name) (cond (is_eq (name_cmp n name)) (Some (table (pruned (reads own (own_of c).name) c))) (named (tables sources clock (pruned_for own cs)) name)))
        (sym (name_pruned (reads own (own_of c).name) c))

  inputs_agree : (own : Own) (cs : Closures) → AgreeOnReads own.defn (inputs sources own (tables sources clock cs)) (inputs sources own (tables sources clock (pruned_for own cs)))
  inputs_agree own cs k e l =
      in_front (reads own _) _ (map (declared sources) own.sources) (tables sources clock cs) (tables sources clock (pruned_for own cs)) (tables_cut own cs _)

pub scratch_core : (sources : List Input) (clock : Clock) (c : Closure) → from_scratch sources clock c ≡ from_scratch sources clock (core c)
scratch_core sources clock (Model own parents) =
    over_read own (inputs sources own (tables sources clock parents)) (inputs sources own (tables sources clock (pruned_for own parents))) (inputs_agree sources clock own parents) (schedule clock (Model own parents))
    ∙ ap (rows_over own (inputs sources own (tables sources clock (pruned_for own parents)))) (schedule_core clock (Model own parents))

pub piece_core : (sources : List Input) (clock : Clock) (c : Closure) (u : Bounds) → piece sources clock c u ≡ piece sources clock (core c) u
piece_core sources clock (Model own parents) u =
    piece_read own (inputs sources own (tables sources clock parents)) (inputs sources own (tables sources clock (pruned_for own parents))) (inputs_agree sources clock own parents) u

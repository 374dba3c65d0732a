-- The tables that were found before some models were made are those that are found afterwards.
use Rattle.std.proofs.Common.{◌≡◌, Bool, true, false, cond, List, [], ◌∷◌, ◌++◌, map, Some, None, refl, ap, ◌∙◌}
use Rattle.std.specs.Prelude.{◌&&◌}
use Rattle.std.specs.Option.{option_and_then, option_map}
use Rattle.std.specs.Ordering.{is_eq}
use Rattle.std.specs.declared.option.Option.{Option}
use Rattle.std.proofs.lemmas.Bool.{or_parts as neither, or_from as none_of}
use Rattle.mesh_base_values.specs.Names.{name_cmp}
use Rattle.mesh_base_values.specs.declared.kinds.Kind.{Kind}
use Rattle.mesh_base_values.specs.declared.kinds.Kind.TheVariants.{Full, View, Seed, Incremental}
use Rattle.mesh_base_values.specs.declared.values.Name.{Name}
use Rattle.mesh_base.specs.declared.jobs.Input.{Input}
use Rattle.mesh_spec_model.specs.Scratch.{table_of}
use Rattle.mesh_spec_model.specs.Sources.{inputs}
use Rattle.mesh_house.specs.World.{body_of, object_at, rows_of}
use Rattle.mesh_house.specs.declared.objects.Body.{Body}
use Rattle.mesh_house.specs.declared.objects.Body.TheVariants.{Rows, Stored}
use Rattle.mesh_house.specs.declared.world.World.{World}
use Rattle.mesh_spec_changes.specs.shown.Shown.{each_there}
use Rattle.mesh_spec_changes.proofs.shown.Behind.{behind_table}
use Rattle.mesh_spec_changes.specs.due.Marks.{is_computed}
use Rattle.mesh_spec_changes.specs.due.Plans.{Planned}
use Rattle.mesh_spec_changes.specs.Changes.{parent_table, tables_for, tables_read}
use Rattle.mesh_exec_works.specs.Dues.{is_any}
use Rattle.mesh_exec_works.specs.Fronts.{are_read_later, has_object, is_read_later, is_view, parents_now, pool_now, table_now, tables_now}
use Rattle.mesh_exec_works.specs.Plain.{model_of, parents_at}
use Rattle.mesh_exec_works.specs.Tables.{part_tables, tables_if}
use Rattle.mesh_exec_works.specs.Works.{Part}

-- sources stay, and so does each object but those of some parts
pub record Spares (parts : List Part) (w v : World) : Type 0 where
  pub sources : v.sources ≡ w.sources
  pub objects : (n : Name) → has_object parts n ≡ false → object_at v n ≡ object_at w n

-- an object is that of none of some parts and of one more
has_more : (parts : List Part) (p : Part) (n : Name) → has_object (parts ++ p ∷ []) n ≡ false → (has_object parts n ≡ false) × (is_eq (name_cmp p.entry.object n) ≡ false)
has_more [] p n h = (refl, (neither (is_eq (name_cmp p.entry.object n)) false h).0)
has_more (q ∷ qs) p n h =
    let here = neither (is_eq (name_cmp q.entry.object n)) (has_object (qs ++ p ∷ []) n) h in
    let more = has_more qs p n here.1 in
    (none_of (is_eq (name_cmp q.entry.object n)) (has_object qs n) here.0 more.0, more.1)

-- changes of one more part's object spare the others
pub spares_more : (parts : List Part) (p : Part) (w v u : World) → Spares parts w v → u.sources ≡ v.sources → ((n : Name) → is_eq (name_cmp p.entry.object n) ≡ false → object_at u n ≡ object_at v n) → Spares (parts ++ p ∷ []) w u
spares_more parts p w v u spares sources objects = record {
  sources = sources ∙ spares.sources;
  objects = λ n h. let other = has_more parts p n h in objects n other.1 ∙ spares.objects n other.0;
}

module _ (w v : World) where
  table_stays : (p : Planned) (t : Input) → object_at v p.object ≡ object_at w p.object → table_now w p ≡ Some t → parent_table v p ≡ Some t
  table_stays p t same h = at (body_of (object_at w p.object)) refl h
    where
      at : (b : Option Body) → body_of (object_at w p.object) ≡ b → option_map (table_of p.node.own) (rows_of b) ≡ Some t → parent_table v p ≡ Some t
      at None e k = absurd (let no : None ≡ Some t = k in cc)
      at (Some (Stored own targets)) e k = absurd (let no : None ≡ Some t = k in cc)
      at (Some (Rows rows)) e k = ap (option_map (table_of p.node.own)) (behind_table v p.object rows (ap body_of same ∙ e)) ∙ k

  module _ (parts : List Part) (spares : Spares parts w v) where
    all_stay : (ps : List Planned) (ts : List Input) → are_read_later parts ps ≡ false → each_there (map (table_now w) ps) ≡ Some ts → each_there (map (parent_table v) ps) ≡ Some ts
    all_stay [] ts still h = h
    all_stay (p ∷ ps) ts still h = at (table_now w p) refl (each_there (map (table_now w) ps)) refl (λ us k. all_stay ps us (neither (is_read_later parts p) (are_read_later parts ps) still).1 k) h
      where
        same : object_at v p.object ≡ object_at w p.object
        same =
            let here = neither (is_read_later parts p) (are_read_later parts ps) still in
            spares.objects p.object (neither (is_view p.node.own.kind) (has_object parts p.object) here.0).1

        at : (o : Option Input) → table_now w p ≡ o → (os : Option (List Input)) → each_there (map (table_now w) ps) ≡ os → ((us : List Input) → each_there (map (table_now w) ps) ≡ Some us → each_there (map (parent_table v) ps) ≡ Some us)
            → option_and_then (λ x. option_map (λ xs. x ∷ xs) os) o ≡ Some ts → each_there (map (parent_table v) (p ∷ ps)) ≡ Some ts
        at None e os es more k = absurd (let no : None ≡ Some ts = k in cc)
        at (Some x) e None es more k = absurd (let no : None ≡ Some ts = k in cc)
        at (Some x) e (Some us) es more k = (λ j. option_and_then (λ (y : Input). option_map (λ (ys : List Input). y ∷ ys) (more us es j)) (table_stays p x same e j)) ∙ k

    read_stays : (all : List Planned) (p : Planned) (ts : List Input) → parents_now w parts p (parents_at all p.node.parents) ≡ Some ts → tables_read v all p ≡ Some ts
    read_stays all p ts h = by_parts (are_read_later parts ps) refl h
      where
        ps : List Planned
        ps = parents_at all p.node.parents

        by_tables : are_read_later parts ps ≡ false → (o : Option (List Input)) → each_there (map (table_now w) ps) ≡ o → option_map (inputs w.sources p.node.own) o ≡ Some ts → tables_read v all p ≡ Some ts
        by_tables still None e k = absurd (let no : None ≡ Some ts = k in cc)
        by_tables still (Some us) e k =
            ap (option_map (inputs v.sources p.node.own)) (all_stay ps us still e)
            ∙ ap (λ (s : List Input). Some (inputs s p.node.own us)) spares.sources
            ∙ k

        by_parts : (b : Bool) → are_read_later parts ps ≡ b → cond b None (tables_now w p ps) ≡ Some ts → tables_read v all p ≡ Some ts
        by_parts true e k = absurd (let no : None ≡ Some ts = k in cc)
        by_parts false e k = by_tables e (each_there (map (table_now w) ps)) refl k

    -- the tables of a part are still those that were found
    pub pool_stays : (all : List Planned) (p : Part) (ts : List Input) → pool_now w all parts p ≡ Some ts → part_tables v all p ≡ Some ts
    pool_stays all p ts h = by_dues (is_any p.dues) h
      where
        m : Planned
        m = model_of p.node p.entry

        found : Option (List Input)
        found = parents_now w parts m (parents_at all p.node.parents)

        by_kind : (k : Kind) → cond (is_computed k) found (Some []) ≡ Some ts → tables_for v all m k ≡ Some ts
        by_kind Full h = read_stays all m ts h
        by_kind (Incremental time lookback) h = read_stays all m ts h
        by_kind View h = h
        by_kind Seed h = h

        by_dues : (b : Bool) → cond (b && is_computed p.node.own.kind) found (Some []) ≡ Some ts → tables_if b v all m ≡ Some ts
        by_dues false h = h
        by_dues true h = by_kind p.node.own.kind h

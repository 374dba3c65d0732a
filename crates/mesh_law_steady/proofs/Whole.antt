-- A steady FULL model keeps its rows while the horizons that it stands on stay.
use Rattle.std.proofs.Common.{◌≡◌, Bool, true, false, not, ◌&&◌, ◌||◌, cond, inl, inr, List, [], ◌∷◌, refl, sym, ap, ◌∙◌}
use Rattle.std.specs.List.{flat_map, list_any}
use Rattle.std.specs.Ordering.{is_eq}
use Rattle.std.specs.declared.option.Option.TheVariants.{Some}
use Rattle.std.proofs.lemmas.Bool.{or_parts as neither}
use Rattle.mesh_base_values.specs.Bag.{IsSameBag, times}
use Rattle.mesh_base_values.specs.Kinds.{is_incremental}
use Rattle.mesh_base_values.specs.Names.{name_cmp}
use Rattle.mesh_base_values.specs.declared.values.Name.{Name}
use Rattle.mesh_base.specs.declared.definitions.Decl.{Decl}
use Rattle.mesh_base.specs.declared.jobs.Input.{Input}
use Rattle.mesh_base.specs.rules.Proper.{defn_names}
use Rattle.mesh_spec_model.specs.Closures.{Closure, Closures, Model, Alone, With, ancestors, own_of, standing}
use Rattle.mesh_spec_model.specs.Horizons.{Clock, horizon, schedule, units_from}
use Rattle.mesh_spec_model.specs.Scratch.{from_scratch, piece, rows_over, table_of, tables}
use Rattle.mesh_spec_model.specs.Sources.{declared, inputs}
use Rattle.mesh_law_query.specs.Alike.{IsSameTable, named}
use Rattle.mesh_law_query.proofs.Bags.{bag_is_perm, counts_same}
use Rattle.mesh_law_query.proofs.Has.{Has, Has_to}
use Rattle.mesh_law_query.proofs.Lists.{Each, Each_left, Each_right, each}
use Rattle.mesh_law_query.proofs.Models.{inputs_bag, step_bag}
use Rattle.mesh_law_query.proofs.Perm.{Perm, appended, is, nil, trans}
use Rattle.mesh_spec_changes.specs.steady.Arrives.{StaysStatic}
use Rattle.mesh_spec_changes.specs.steady.Steady.{has_timed_source, is_timed_source, parents_reach_timed, reaches_timed}
use Rattle.mesh_law_steady.proofs.Both.{all_of}
use Rattle.mesh_law_steady.proofs.Staying.{Fine, at_once, by_units, pieces_stay, same_list, source_same, untimed}

flat_there : {X Y : Type 0} (f g : X → List Y) (xs : List X) → ((x : X) → Has x xs → Perm (f x) (g x)) → Perm (flat_map f xs) (flat_map g xs)
flat_there f g [] h = nil
flat_there f g (x ∷ xs) h = appended (h x (inl refl)) (flat_there f g xs (λ y i. h y (inr i)))

module _ (before after : List Input) (clock later : Clock) where
  abbrev Kept : Closure → Type 0
  Kept = Fine before after clock later

  -- an incremental model's horizon is the same
  abbrev pub HasSameHorizon : Closure → Type 0
  HasSameHorizon c = is_incremental (own_of c).kind ≡ true → horizon clock c ≡ horizon later c

  static_rows : (ds : List Decl) → Each (StaysStatic before after) ds → list_any is_timed_source ds ≡ false → Each (λ (d : Decl). IsSameBag (declared before d).rows (declared after d).rows) ds
  static_rows [] h none = tt
  static_rows (d ∷ ds) h none =
      let p = neither (is_timed_source d) (list_any is_timed_source ds) none in
      (same_list (λ i. (source_same before after clock later d h.0 (untimed d p.0) i).rows), static_rows ds h.1 p.1)

  -- all units of an incremental model
  incremental_same : (c : Closure) → Each Kept (standing c) → is_incremental (own_of c).kind ≡ true → horizon clock c ≡ horizon later c → IsSameBag (from_scratch before clock c) (from_scratch after later c)
  incremental_same c kept timed same =
      let all : Perm (flat_map (piece before clock c) (schedule clock c)) (flat_map (piece after later c) (schedule clock c)) =
      flat_there (piece before clock c) (piece after later c) (schedule clock c)
      (λ u i. bag_is_perm (piece before clock c u) (piece after later c u) (pieces_stay before after clock later c kept timed u (Has_to (schedule clock c) u i))) in
      counts_same
      (trans (is _ _ (by_units before after clock later before clock c timed))
      (trans all
      (is _ _ (ap (λ h. flat_map (piece after later c) (units_from (own_of c).start (own_of c).unit h)) same ∙ sym (by_units before after clock later after later c timed)))))

  mutual
    pub whole_same : (c : Closure) → Each Kept (standing c) → Each HasSameHorizon (standing c) → (not (is_incremental (own_of c).kind) && reaches_timed c) ≡ false → IsSameBag (from_scratch before clock c) (from_scratch after later c)
    whole_same (Model own parents) kept same none = go (is_incremental own.kind) refl (tables_same parents kept.1 same.1)
      where
        each_name : (names : List Name) → ((name : Name) → IsSameTable (named (tables before clock parents) name) (named (tables after later parents) name))
            → Each (λ name. IsSameTable (named (tables before clock parents) name) (named (tables after later parents) name)) names
        each_name [] h = tt
        each_name (name ∷ names) h = (h name, each_name names h)

        go : (b : Bool) → is_incremental own.kind ≡ b → (parents_reach_timed parents ≡ false → (name : Name) → IsSameTable (named (tables before clock parents) name) (named (tables after later parents) name))
            → IsSameBag (from_scratch before clock (Model own parents)) (from_scratch after later (Model own parents))
        go true e more = incremental_same (Model own parents) kept e (same.0 e)
        go false e more =
            let reach : (has_timed_source own || parents_reach_timed parents) ≡ false = ap (λ b. not b && (has_timed_source own || parents_reach_timed parents)) (sym e) ∙ none in
            let p = neither (has_timed_source own) (parents_reach_timed parents) reach in
            let rows = step_bag (inputs before own (tables before clock parents)) (inputs after own (tables after later parents)) own
            (inputs_bag before after own (all_of (λ (d : Decl). IsSameBag (declared before d).rows (declared after d).rows) own.sources (static_rows own.sources (each (StaysStatic before after) own.sources kept.0.kept.static) p.0))
            (tables before clock parents) (tables after later parents)
            (all_of (λ name. IsSameTable (named (tables before clock parents) name) (named (tables after later parents) name)) (defn_names own.defn) (each_name (defn_names own.defn) (more p.1))))
            (schedule clock (Model own parents)) in
            let other : rows_over own (inputs after own (tables after later parents)) (schedule clock (Model own parents)) ≡ rows_over own (inputs after own (tables after later parents)) (schedule later (Model own parents)) =
            at_once before after clock later own (inputs after own (tables after later parents)) (schedule clock (Model own parents)) e
            ∙ sym (at_once before after clock later own (inputs after own (tables after later parents)) (schedule later (Model own parents)) e) in
            λ row. rows row ∙ ap (times row) other

    tables_same : (cs : Closures) → Each Kept (ancestors cs) → Each HasSameHorizon (ancestors cs) → parents_reach_timed cs ≡ false → (name : Name) → IsSameTable (named (tables before clock cs) name) (named (tables after later cs) name)
    tables_same Alone kept same none name = (refl, λ row. refl)
    tables_same (With c cs) kept same none name =
        let p = neither (not (is_incremental (own_of c).kind) && reaches_timed c) (parents_reach_timed cs) none in
        go (is_eq (name_cmp (own_of c).name name))
        (whole_same c (Each_left Kept (standing c) (ancestors cs) kept) (Each_left HasSameHorizon (standing c) (ancestors cs) same) p.0)
        (tables_same cs (Each_right Kept (standing c) (ancestors cs) kept) (Each_right HasSameHorizon (standing c) (ancestors cs) same) p.1 name)
      where
        go : (b : Bool) → IsSameBag (from_scratch before clock c) (from_scratch after later c) → IsSameTable (named (tables before clock cs) name) (named (tables after later cs) name)
            → IsSameTable (cond b (Some (table_of (own_of c) (from_scratch before clock c))) (named (tables before clock cs) name)) (cond b (Some (table_of (own_of c) (from_scratch after later c))) (named (tables after later cs) name))
        go true rows more = (refl, rows)
        go false rows more = more

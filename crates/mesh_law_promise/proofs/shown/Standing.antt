-- The objects of the entries of an environment stand, with all that they read: so each view shows rows.
use Rattle.std.proofs.Common.{◌≡◌, ℕ, zero, suc, ◌<◌, Bool, true, false, cond, nat_le, length, inl, inr, List, [], ◌∷◌, ◌++◌, map, Some, None, refl, sym, ◌∙◌, ap, subst, arith, IsSome}
use Rattle.std.proofs.lemmas.List.{map-append}
use Rattle.std.specs.declared.option.Option.{Option}
use Rattle.std.specs.List.{list_all}
use Rattle.std.specs.Option.{is_some, option_map, option_and_then, option_to_list}
use Rattle.mesh_list.specs.Keyed.{ascends, found}
use Rattle.mesh_list.proofs.Ascends.{and_right}
use Rattle.mesh_base_values.specs.Names.{name_cmp}
use Rattle.mesh_base_values.specs.declared.values.Cell.{Cell}
use Rattle.mesh_base_values.specs.declared.values.Name.{Name}
use Rattle.mesh_base_values.specs.declared.values.Pair.{Pair}
use Rattle.mesh_base_values.specs.declared.kinds.Kind.{Kind}
use Rattle.mesh_base_values.specs.declared.kinds.Kind.TheVariants.{Full, View, Seed as SeedKind, Incremental}
use Rattle.mesh_base.specs.Keys.{ref_cmp, ref_itself, ref_name, refs_exact}
use Rattle.mesh_base.specs.declared.definitions.Defn.{Defn}
use Rattle.mesh_base.specs.declared.definitions.Defn.TheVariants.{Seed, Sql}
use Rattle.mesh_base.specs.declared.jobs.Input.{Input}
use Rattle.mesh_base.specs.declared.queries.Query.{Query}
use Rattle.mesh_base.specs.declared.snapshots.Env.{Env}
use Rattle.mesh_base.specs.declared.snapshots.Ref.{Ref}
use Rattle.mesh_base.specs.declared.snapshots.Snapshot.{Snapshot}
use Rattle.mesh_base.specs.rules.Proper.{is_body_of, is_body_seen}
use Rattle.mesh_base.specs.rules.Relations.{parent_relation, read_relations, source_relation}
use Rattle.mesh_base.specs.rules.Seen.{or_no_columns}
use Rattle.mesh_base.specs.declared.rules.relations.Relation.{Relation}
use Rattle.mesh_spec_query.specs.Sel.{Sel}
use Rattle.mesh_spec_model.specs.Scratch.{no_bounds}
use Rattle.mesh_spec_model.specs.Sources.{inputs}
use Rattle.mesh_house_book.specs.WellFormed.{have_parents, has_parents, is_listed, are_kept, parents_at, parents_of, snapshot_at}
use Rattle.mesh_house_book.proofs.Exchanged.{found_key}
use Rattle.mesh_law_query.proofs.Finding.{one_passes}
use Rattle.mesh_law_query.proofs.Has.{Has, Has_from, Has_to}
use Rattle.mesh_spec_changes.specs.listed.Closing.{IsSnapshot}
use Rattle.mesh_spec_changes.proofs.listed.Books.{fits, is_its_own}
use Rattle.mesh_house.specs.declared.objects.Body.{Body}
use Rattle.mesh_house.specs.declared.objects.Body.TheVariants.{Rows, Stored}
use Rattle.mesh_house.specs.declared.objects.Object.{Object}
use Rattle.mesh_house.specs.declared.world.World.{World}
use Rattle.mesh_house.specs.World.{body_of, columns_of, object_at, rows_of, view}
use Rattle.mesh_spec_changes.specs.shown.Shown.{body_rows, each_there, is_query_there, object_rows, rows_through, stored_relations, stored_rows, target_relation, target_table, view_rows}
use Rattle.mesh_spec_changes.specs.due.Parts.{Parts}
use Rattle.mesh_spec_changes.specs.Environments.{IsEnv}
use Rattle.mesh_spec_promise.specs.Sound.{IsBodyOf, IsEntry, IsMade, IsObjectMade, Sound, parent_objects, table_rows}
use Rattle.mesh_spec_promise.proofs.Ends.{found_contained}
use Rattle.mesh_spec_promise.proofs.Fits.{its_body, its_names, its_rank}
use Rattle.mesh_spec_promise.proofs.Tables.{table_shown}
use Rattle.mesh_spec_promise.proofs.There.{relation_name, seen_there}
use Rattle.mesh_spec_promise.proofs.Views.{tabular}
use Rattle.mesh_law_changes.proofs.EnvLaws.{own_of_old}

-- a reference that is listed stands in the list
pub listed_has : (list : List Ref) (r : Ref) → is_listed list r ≡ true → Has r list
listed_has list r h = go (found ref_cmp ref_itself r list) refl h
  where
    go : (o : Option Ref) → found ref_cmp ref_itself r list ≡ o → is_some o ≡ true → Has r list
    go None e k = absurd (let clash : false ≡ true = k in cc)
    go (Some q) e k = subst (λ (t : Ref). Has t list) (found_key ref_cmp ref_itself refs_exact r q list e) (Has_from list q (found_contained ref_cmp ref_itself r q list e))

module _ (x : Parts) (w : World) (sound : Sound x w) where
  abbrev all : List Snapshot
  all = w.book.snapshots

  -- what some references name is made, and so is all that it stands on
  pub record AreStanding (list : List Ref) : Type 0 where
    pub parents : have_parents all list list ≡ true
    pub made : (r : Ref) → Has r list → (s : Snapshot) → snapshot_at all r ≡ Some s → IsObjectMade w.book s

  module _ (list : List Ref) (standing : AreStanding list) where
    -- it has the parents of what it names
    parent_listed : (r : Ref) → Has r list → (s : Snapshot) → snapshot_at all r ≡ Some s → (q : Ref) → Has q s.parents → Has q list
    parent_listed r h s at q k =
        let its : has_parents all list r ≡ true = one_passes (has_parents all list) list r standing.parents h in
        let theirs : list_all (is_listed list) s.parents ≡ true = ap (λ (o : Option Snapshot). list_all (is_listed list) (parents_at o)) (sym at) ∙ its in
        listed_has list q (one_passes (is_listed list) s.parents q theirs k)

    -- a reference names a snapshot whose object shows rows
    record Shows (below : Name → Option (List (List Cell))) (r : Ref) : Type 0 where
      snapshot : Snapshot
      known : snapshot_at all r ≡ Some snapshot
      rows : List (List Cell)
      shown : below snapshot.object ≡ Some rows

    module _ (below : Name → Option (List (List Cell))) where
      abbrev read_of : List Ref → Option (List Input)
      read_of refs = each_there (map (target_table below w) (parent_objects all refs))

      tables_there : (refs : List Ref) → ((r : Ref) → Has r refs → Shows below r) → (ts : List Input) × (read_of refs ≡ Some ts)
      tables_there [] h = ([], refl)
      tables_there (r ∷ rs) h =
          let (ts, rest) = tables_there rs (λ q k. h q (inr k)) in
          let one = h r (inl refl) in
          let p : Snapshot = one.snapshot in
          let t : Input = record { name = r.name; columns = or_no_columns (columns_of (object_at w p.object)); rows = one.rows } in
          let target : target_table below w (record { first = r.name; second = p.object }) ≡ Some t =
          ap (option_map (λ (rows : List (List Cell)). record { name = r.name; columns = or_no_columns (columns_of (object_at w p.object)); rows = rows })) one.shown in
          let first : read_of (r ∷ rs) ≡ each_there (target_table below w (record { first = r.name; second = p.object }) ∷ map (target_table below w) (parent_objects all rs)) =
          ap (λ (o : Option Snapshot). each_there (map (target_table below w) (map (λ (s : Snapshot). record { first = r.name; second = s.object }) (option_to_list o) ++ parent_objects all rs))) one.known in
          (t ∷ ts, first ∙ (λ i. option_and_then (λ x. option_map (λ xs. x ∷ xs) (rest i)) (target i)))

      -- parents are named alike as relations and as targets
      targets_named : (refs : List Ref) → ((r : Ref) → Has r refs → Shows below r)
          → map relation_name (map parent_relation (parents_of all refs)) ≡ map relation_name (map target_relation (parent_objects all refs))
      targets_named [] h = refl
      targets_named (r ∷ rs) h =
          (λ i. r.name ∷ targets_named rs (λ q k. h q (inr k)) i)
          ∙ sym (ap (λ (o : Option Snapshot). map relation_name (map target_relation (map (λ (s : Snapshot). record { first = r.name; second = s.object }) (option_to_list o) ++ parent_objects all rs))) (h r (inl refl)).known)

    abbrev HasRows : ℕ → Snapshot → Type 0
    HasRows depth s = (rows : List (List Cell)) × (rows_through depth w s.object ≡ Some rows)

    module _ (s : Snapshot) (known : IsSnapshot all s) (made : IsMade w s) where
      body_is : IsBodyOf all s s.own.kind made.object.body
      body_is = sound.objects.bodies s known made.object made.stands

      of_table : (depth : ℕ) (kind : Kind) → s.own.kind ≡ kind → (kind ≡ View → ⊥) → HasRows depth s
      of_table depth kind e other =
          let table = tabular all s kind other made.object.body (subst (λ (k : Kind). IsBodyOf all s k made.object.body) e body_is) in
          let at : table_rows w s.object ≡ Some table.0 = ap (λ (o : Option Object). rows_of (body_of o)) made.stands ∙ ap (λ (b : Body). rows_of (Some b)) table.1 in
          (table.0, table_shown depth w s.object table.0 at)

      module _ (depth : ℕ) (e : s.own.kind ≡ View) (shows : (r : Ref) → Has r s.parents → Shows (rows_through depth w) r) where
        abbrev below : Name → Option (List (List Cell))
        below = rows_through depth w

        abbrev objects : List Pair
        objects = parent_objects all s.parents

        there : (q : Query) → s.own.defn ≡ Sql q → is_query_there (stored_relations s.own objects) q ≡ true
        there q is =
            let declared : List Relation = map source_relation s.own.sources in
            let parents : List Relation = map parent_relation (parents_of all s.parents) in
            let names : map relation_name (declared ++ parents) ≡ map relation_name (declared ++ map target_relation objects) =
            map-append relation_name declared parents
            ∙ ap (λ (l : List Name). map relation_name declared ++ l) (targets_named below s.parents shows)
            ∙ sym (map-append relation_name declared (map target_relation objects)) in
            seen_there (declared ++ parents) (declared ++ map target_relation objects) names q
            (subst (λ (d : Defn). is_body_seen (read_relations s.own.sources (parents_of all s.parents)) d ≡ true) is (its_names w.book s sound.book.well_formed known))

        stored : (b : Body) → IsBodyOf all s View b → body_rows below w b ≡ stored_rows s.own objects s.own.defn w.sources (read_of below s.parents)
        stored (Rows rows) h = absurd h
        stored (Stored own targets) h = λ i. stored_rows (h.0 i) (h.1 i) (h.0 i).defn w.sources (each_there (map (target_table below w) (h.1 i)))

        answered : (d : Defn) → s.own.defn ≡ d → is_body_of View d ≡ true → (rows : List (List Cell)) × (stored_rows s.own objects d w.sources (read_of below s.parents) ≡ Some rows)
        answered (Seed columns rows) is body = absurd (let f : false ≡ true = body in cc)
        answered (Sql q) is body =
            let (ts, read) = tables_there below s.parents shows in
            let answer : List Input → List (List Cell) = λ ts. Sel q (inputs w.sources s.own ts) no_bounds in
            (answer ts, ap (λ (b : Bool). cond b (option_map answer (read_of below s.parents)) None) (there q is) ∙ ap (option_map answer) read)

        of_view : HasRows (suc depth) s
        of_view =
            let (rows, is) = answered s.own.defn refl (subst (λ (k : Kind). is_body_of k s.own.defn ≡ true) e (its_body w.book s sound.book.well_formed known)) in (
              rows,
              ap (λ (o : Option Object). option_and_then (body_rows below w) (body_of o)) made.stands
                  ∙ stored made.object.body (subst (λ (k : Kind). IsBodyOf all s k made.object.body) e body_is)
                  ∙ is,
            )

    entry_shows : (depth : ℕ) (r : Ref) (s : Snapshot) → Has r list → snapshot_at all r ≡ Some s → s.rank < depth → HasRows depth s
    entry_shows zero r s h at l = absurd (omega (arith, l))
    entry_shows (suc depth) r s h at l = by_kind s.own.kind refl (λ q p k e less. entry_shows depth q p k e less)
      where
        known : IsSnapshot all s
        known = is_its_own all r s at

        made : IsMade w s
        made = let (v, its, is) = standing.made r h s at in sound.objects.made s known v its is

        More : Type 0
        More = (q : Ref) (p : Snapshot) → Has q list → snapshot_at all q ≡ Some p → p.rank < depth → HasRows depth p

        parents : More → (q : Ref) → Has q s.parents → Shows (rows_through depth w) q
        parents more q k =
            let p = (fits w.book s sound.book.well_formed known).parents q k in
            let (rows, is) = more q p.snapshot (parent_listed r h s at q k) p.known (omega (arith, p.lower, l)) in
            record { snapshot = p.snapshot; known = p.known; rows = rows; shown = is }

        by_kind : (kind : Kind) → s.own.kind ≡ kind → More → HasRows (suc depth) s
        by_kind View e more = of_view s known made depth e (parents more)
        by_kind Full e more = of_table s known made (suc depth) Full e (λ f. cc)
        by_kind SeedKind e more = of_table s known made (suc depth) SeedKind e (λ f. cc)
        by_kind (Incremental time lookback) e more = of_table s known made (suc depth) (Incremental time lookback) e (λ f. cc)

    -- what the object of something that a list names shows
    pub listed_shows : (r : Ref) (s : Snapshot) → Has r list → snapshot_at all r ≡ Some s → (rows : List (List Cell)) × (object_rows w s.object ≡ Some rows)
    listed_shows r s h at = entry_shows 4096 r s h at (let low = its_rank w.book s sound.book.well_formed (is_its_own all r s at) in omega (arith, low))

  -- the list of an environment stands, and so does the one that it had before
  pub list_stands : (e : Env) → IsEnv w.book e → AreStanding e.list
  list_stands e known = record {
    parents =
        let kept = and_right (are_kept all e.list) _ (own_of_old x w sound e known) in
        let few = and_right (are_kept all e.previous) _ kept in
        let up = and_right (nat_le (length e.list) 4096) _ few in
        and_right (ascends name_cmp ref_name e.list) (have_parents all e.list e.list) up;
    made = λ r h s at. sound.views.entries e known r (inl (Has_to e.list r h)) s at;
  }

  pub previous_stands : (e : Env) → IsEnv w.book e → AreStanding e.previous
  previous_stands e known = record { parents = sound.views.parents e known; made = λ r h s at. sound.views.entries e known r (inr (Has_to e.previous r h)) s at }

  -- the object of an entry shows rows
  pub entry_has_rows : (e : Env) → IsEnv w.book e → (r : Ref) → IsEntry e r → (s : Snapshot) → snapshot_at all r ≡ Some s → (rows : List (List Cell)) × (object_rows w s.object ≡ Some rows)
  entry_has_rows e known r (inl k) s at = listed_shows e.list (list_stands e known) r s (Has_from e.list r k) at
  entry_has_rows e known r (inr k) s at = listed_shows e.previous (previous_stands e known) r s (Has_from e.previous r k) at

pub view_shows_rows : (x : Parts) (w : World) → Sound x w → (name target : Name) → view w name ≡ Some target → IsSome (view_rows w name)
view_shows_rows x w sound name target at =
    let v = sound.views.views name target at in
    let (rows, shown) = entry_has_rows x w sound v.env v.known v.entry v.of v.snapshot v.is in
    ap (λ (o : Option Name). is_some (option_and_then (object_rows w) o)) (at ∙ ap Some v.object) ∙ ap is_some shown

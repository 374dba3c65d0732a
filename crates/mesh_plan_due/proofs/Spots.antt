-- The models of a project by name, one model more.
use Rattle.std.proofs.Common.{◌≡◌, ℕ, ℤ, pos, ◌+◌, ◌<◌, Bool, true, false, ◌||◌, cond, List, [], ◌∷◌, ◌++◌, length, take, get_or, refl, sym, ap, ◌∙◌, subst}
use Rattle.std.specs.List.{slice_get}
use Rattle.std.specs.Ordering.{is_eq, match_ordering, ordering_reverse}
use Rattle.std.specs.BTreeMap.{insert_entry}
use Rattle.std.specs.declared.cmp.Ordering.{Ordering}
use Rattle.std.specs.declared.cmp.Ordering.TheVariants.{Less, Equal, Greater}
use Rattle.std.specs.declared.option.Option.{Option}
use Rattle.std.specs.declared.option.Option.TheVariants.{None, Some}
use Rattle.std.proofs.lemmas.List.{take_more}
use Rattle.std.proofs.lemmas.List.Folds.{list_any-append}
use Rattle.mesh_list.specs.Keyed.{ascends, found, placed, put_by}
use Rattle.mesh_list.proofs.Ascends.{ascends-placed}
use Rattle.mesh_list.proofs.Found.{found-placed}
use Rattle.mesh_base_values.specs.Names.{name_cmp}
use Rattle.mesh_base_values.specs.NameOrder.{names_exact, names_total}
use Rattle.mesh_base_values.specs.declared.values.Name.{Name}
use Rattle.mesh_base.specs.declared.snapshots.Node.{Node}
use Rattle.mesh_base.specs.rules.Proper.{has_node}
use Rattle.mesh_spec_changes.specs.due.Marks.{is_computed}
use Rattle.mesh_spec_changes.specs.due.Parts.{same_name}
use Rattle.mesh_plan_due.specs.declared.marks.Spot.{Spot}
use Rattle.mesh_plan_due.specs.Marked.{Entry, HaveSpots, IsSpotOf, entry_name}
use Rattle.mesh_plan_due.proofs.Nodes.{node_there}
use Rattle.mesh_plan_due.proofs.Rows.{same_names}

-- an entry is put into a map at its place
put_in : (k : Name) (v : Spot) (es : List Entry) → insert_entry name_cmp es k v ≡ placed name_cmp entry_name (k, v) es
put_in k v [] = refl
put_in k v (x ∷ xs) = by_order (name_cmp k x.0) refl (name_cmp x.0 k) (names_total.antisymm x.0 k) (put_in k v xs)
  where
    by_order : (o : Ordering) → name_cmp k x.0 ≡ o → (other : Ordering) → other ≡ ordering_reverse (name_cmp k x.0) → insert_entry name_cmp xs k v ≡ placed name_cmp entry_name (k, v) xs
        → match_ordering o ((k, v) ∷ x ∷ xs) ((x.0, v) ∷ xs) (x ∷ insert_entry name_cmp xs k v) ≡ put_by other x (k, v) xs (placed name_cmp entry_name (k, v) xs)
    by_order Less is other e more = ap (λ p. put_by p x (k, v) xs (placed name_cmp entry_name (k, v) xs)) (sym (e ∙ ap ordering_reverse is))
    by_order Equal is other e more = ap (λ (n : Name). (n, v) ∷ xs) (sym (names_exact k x.0 is)) ∙ ap (λ p. put_by p x (k, v) xs (placed name_cmp entry_name (k, v) xs)) (sym (e ∙ ap ordering_reverse is))
    by_order Greater is other e more = ap (λ l. x ∷ l) more ∙ ap (λ p. put_by p x (k, v) xs (placed name_cmp entry_name (k, v) xs)) (sym (e ∙ ap ordering_reverse is))

or_none : (a b : Bool) → a ≡ false → b ≡ false → (a || (b || false)) ≡ false
or_none true b e f = absurd (cc)
or_none false true e f = absurd (cc)
or_none false false e f = refl

module _ (nodes : List Node) (hs : List ℤ) (i : ℕ) (n : Node) (inside : i < length nodes) (here : n ≡ get_or nodes i n) (v : Spot)
    (place : v.place ≡ i) (computed : v.computed ≡ is_computed n.own.kind) (horizon : v.horizon ≡ get_or hs i (pos 0)) (key : Name) (named : key ≡ n.own.name) where
  has_more : (name : Name) → has_node (take i nodes) name ≡ false → same_name n.own.name name ≡ false → has_node (take (i + 1) nodes) name ≡ false
  has_more name h g =
      ap (λ l. has_node l name) (take_more nodes i n inside ∙ ap (λ m. take i nodes ++ m ∷ []) (sym here))
      ∙ list_any-append (λ (m : Node). is_eq (name_cmp m.own.name name)) (take i nodes) (n ∷ [])
      ∙ or_none (has_node (take i nodes) name) (same_name n.own.name name) h g

  spot_there : (name : Name) (o : Option Entry) (b : Bool) → is_eq (name_cmp key name) ≡ b → IsSpotOf nodes (take i nodes) hs name o → IsSpotOf nodes (take (i + 1) nodes) hs name (cond b (Some (key, v)) o)
  spot_there name o true e h =
      (n, ap (slice_get nodes) place ∙ node_there nodes i n inside here, sym named ∙ same_names key name e, same_names key name e, computed, horizon ∙ ap (λ j. get_or hs j (pos 0)) (sym place))
  spot_there name None false e h = has_more name h (ap (λ m. same_name m name) (sym named) ∙ e)
  spot_there name (Some x) false e h = h

  pub spots_more : (old new : List Entry) → new ≡ insert_entry name_cmp old key v → HaveSpots nodes (take i nodes) hs old → HaveSpots nodes (take (i + 1) nodes) hs new
  spots_more old new is h =
      let placed_is : new ≡ placed name_cmp entry_name (key, v) old = is ∙ put_in key v old in
      record {
        ascending = ap (ascends name_cmp entry_name) placed_is ∙ ascends-placed name_cmp names_total entry_name (key, v) old h.ascending;
        each = λ name. subst (IsSpotOf nodes (take (i + 1) nodes) hs name)
            (sym (ap (found name_cmp entry_name name) placed_is ∙ found-placed name_cmp names_exact entry_name (key, v) name old))
            (spot_there name (found name_cmp entry_name name old) (is_eq (name_cmp key name)) refl (h.each name));
      }

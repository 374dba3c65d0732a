-- An entry is put into a map as its model is put at its place.
use Rattle.std.proofs.Common.{◌≡◌, ℕ, List, [], ◌∷◌, refl, sym, ap, ◌∙◌}
use Rattle.std.specs.declared.cmp.Ordering.{Ordering}
use Rattle.std.specs.declared.cmp.Ordering.TheVariants.{Less, Equal, Greater}
use Rattle.std.specs.Ordering.{ordering_reverse, match_ordering}
use Rattle.std.specs.BTreeMap.{insert_entry}
use Rattle.mesh_base_values.specs.declared.values.Name.{Name}
use Rattle.mesh_base_values.specs.Names.{name_cmp}
use Rattle.mesh_base_values.specs.NameOrder.{names_exact, names_total}
use Rattle.mesh_list.specs.Keyed.{placed, put_by}
use Rattle.mesh_cli_apply.specs.declared.listing.Target.{Target}
use Rattle.mesh_cli_apply.specs.Listing.{as_target, as_targets, target_name}

abbrev Of : Type 0
Of = List ℕ × Name

abbrev Entry : Type 0
Entry = Name × Of

abbrev at : Name → Of → Entry → List Entry → Ordering → List Target
at k v x xs other = put_by other (as_target x) (as_target (k, v)) (as_targets xs) (placed name_cmp target_name (as_target (k, v)) (as_targets xs))

pub put_in : (k : Name) (v : Of) (es : List Entry) → as_targets (insert_entry name_cmp es k v) ≡ placed name_cmp target_name (as_target (k, v)) (as_targets es)
put_in k v [] = refl
put_in k v (x ∷ xs) = by_order (name_cmp k x.0) refl (name_cmp x.0 k) (names_total.antisymm x.0 k) (put_in k v xs)
  where
    by_order : (o : Ordering) → name_cmp k x.0 ≡ o → (other : Ordering) → other ≡ ordering_reverse (name_cmp k x.0)
        → as_targets (insert_entry name_cmp xs k v) ≡ placed name_cmp target_name (as_target (k, v)) (as_targets xs)
        → as_targets (match_ordering o ((k, v) ∷ x ∷ xs) ((x.0, v) ∷ xs) (x ∷ insert_entry name_cmp xs k v)) ≡ at k v x xs other
    by_order Less is other e more = ap (at k v x xs) (sym (e ∙ ap ordering_reverse is))
    by_order Equal is other e more = ap (λ n. as_target (n, v) ∷ as_targets xs) (sym (names_exact k x.0 is)) ∙ ap (at k v x xs) (sym (e ∙ ap ordering_reverse is))
    by_order Greater is other e more = ap (λ l. as_target x ∷ l) more ∙ ap (at k v x xs) (sym (e ∙ ap ordering_reverse is))

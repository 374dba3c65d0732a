-- Pairs that are put in order from the last one on.
use Rattle.std.proofs.Common.{◌≡◌, List, [], ◌∷◌, ◌++◌, refl, sym, ap, ◌∙◌}
use Rattle.std.specs.declared.cmp.Ordering.{Ordering}
use Rattle.std.specs.declared.cmp.Ordering.TheVariants.{Less, Equal, Greater}
use Rattle.std.specs.Ordering.{ordering_reverse, match_ordering}
use Rattle.std.specs.BTreeMap.{insert_entry}
use Rattle.mesh_base_values.specs.declared.values.Name.{Name}
use Rattle.mesh_base_values.specs.declared.values.Pair.{Pair}
use Rattle.mesh_base_values.specs.Names.{name_cmp}
use Rattle.mesh_base_values.specs.NameOrder.{names_exact, names_total}
use Rattle.mesh_list.specs.Keyed.{placed, put_by}
use Rattle.mesh_lineage.specs.Pairs.{as_pair, as_pairs}
use Rattle.mesh_lineage.specs.Unsteady.{by_name, pair_name}

-- these, put among those that are in order
abbrev pub onto : List Pair → List Pair → List Pair
onto [] made = made
onto (p ∷ ps) made = placed name_cmp pair_name p (onto ps made)

pub onto_last : (ps : List Pair) (p : Pair) (made : List Pair) → onto (ps ++ p ∷ []) made ≡ onto ps (placed name_cmp pair_name p made)
onto_last [] p made = refl
onto_last (x ∷ ps) p made = ap (placed name_cmp pair_name x) (onto_last ps p made)

pub onto_none : (ps : List Pair) → onto ps [] ≡ by_name ps
onto_none [] = refl
onto_none (p ∷ ps) = ap (placed name_cmp pair_name p) (onto_none ps)

abbrev Entry : Type 0
Entry = Name × Name

abbrev at : Name → Name → Entry → List Entry → Ordering → List Pair
at k v x xs other = put_by other (as_pair x) (as_pair (k, v)) (as_pairs xs) (placed name_cmp pair_name (as_pair (k, v)) (as_pairs xs))

-- an entry is put into a map as its pair is put at its place
pub put_in : (k v : Name) (es : List Entry) → as_pairs (insert_entry name_cmp es k v) ≡ placed name_cmp pair_name (as_pair (k, v)) (as_pairs es)
put_in k v [] = refl
put_in k v (x ∷ xs) = by_order (name_cmp k x.0) refl (name_cmp x.0 k) (names_total.antisymm x.0 k) (put_in k v xs)
  where
    by_order : (o : Ordering) → name_cmp k x.0 ≡ o → (other : Ordering) → other ≡ ordering_reverse (name_cmp k x.0)
        → as_pairs (insert_entry name_cmp xs k v) ≡ placed name_cmp pair_name (as_pair (k, v)) (as_pairs xs)
        → as_pairs (match_ordering o ((k, v) ∷ x ∷ xs) ((x.0, v) ∷ xs) (x ∷ insert_entry name_cmp xs k v)) ≡ at k v x xs other
    by_order Less is other e more = ap (at k v x xs) (sym (e ∙ ap ordering_reverse is))
    by_order Equal is other e more = ap (λ n. as_pair (n, v) ∷ as_pairs xs) (sym (names_exact k x.0 is)) ∙ ap (at k v x xs) (sym (e ∙ ap ordering_reverse is))
    by_order Greater is other e more = ap (λ l. as_pair x ∷ l) more ∙ ap (at k v x xs) (sym (e ∙ ap ordering_reverse is))

pub one_more : (rest : List Pair) (p : Pair) (old new : List Entry) (all : List Pair) → new ≡ insert_entry name_cmp old p.first p.second
    → onto (rest ++ p ∷ []) (as_pairs old) ≡ by_name all → onto rest (as_pairs new) ≡ by_name all
one_more rest p old new all put before =
    ap (λ es. onto rest (as_pairs es)) put ∙ ap (onto rest) (put_in p.first p.second old) ∙ sym (onto_last rest p (as_pairs old)) ∙ before

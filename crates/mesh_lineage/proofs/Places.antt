-- One place more, and one source more.
use Rattle.std.proofs.Common.{◌≡◌, Bool, true, false, cond, Some, ℕ, ◌+◌, ◌<◌, ◌&&◌, List, [], ◌∷◌, ◌++◌, length, take, map, refl, sym, ap, ◌∙◌, get_or, append-nil}
use Rattle.std.specs.Prelude.{filter}
use Rattle.std.specs.List.{slice_get}
use Rattle.std.specs.Option.{option_map, option_to_list}
use Rattle.std.specs.Ordering.{is_eq}
use Rattle.std.proofs.lemmas.List.{map-append, take_more}
use Rattle.std.proofs.lemmas.List.Elements.{filter-append}
use Rattle.std.proofs.lemmas.List.Folds.{list_all-append}
use Rattle.std.proofs.lemmas.Grind.{flat_map-append}
use Rattle.mesh_list.specs.Keyed.{found}
use Rattle.mesh_base_values.specs.Names.{name_cmp}
use Rattle.mesh_base_values.specs.declared.values.Name.{Name}
use Rattle.mesh_base.specs.declared.definitions.Decl.{Decl}
use Rattle.mesh_spec_changes.specs.steady.Steady.{is_timed_source}
use Rattle.mesh_lineage.specs.declared.reaches.Near.{Near}
use Rattle.mesh_lineage.specs.declared.reaches.Reach.{Reach}
use Rattle.mesh_lineage.specs.Unsteady.{decl_name, least, lesser, timed_names_of}
use Rattle.mesh_lineage.specs.Reaches.{are_timeless, least_reached, link_named, near_link, near_links, parent_links, reaches_at}
use Rattle.mesh_lineage.proofs.Least.{least_append, lesser_assoc}

module _ (reaches : List Reach) (places : List ℕ) (i d : ℕ) (inside : i < length places) where
  at_more : reaches_at reaches (take (i + 1) places) ≡ reaches_at reaches (take i places) ++ option_to_list (slice_get reaches (get_or places i d))
  at_more =
      ap (reaches_at reaches) (take_more places i d inside)
      ∙ flat_map-append (λ j. option_to_list (slice_get reaches j)) (take i places) (get_or places i d ∷ [])
      ∙ ap (λ l. reaches_at reaches (take i places) ++ l) (append-nil (option_to_list (slice_get reaches (get_or places i d))))

  pub timeless_more : are_timeless (reaches_at reaches (take (i + 1) places)) ≡ (are_timeless (reaches_at reaches (take i places)) && are_timeless (option_to_list (slice_get reaches (get_or places i d))))
  timeless_more = ap are_timeless at_more ∙ list_all-append (λ (r : Reach). r.timeless) (reaches_at reaches (take i places)) (option_to_list (slice_get reaches (get_or places i d)))

  pub reached_more : least_reached (reaches_at reaches (take (i + 1) places)) ≡ lesser (least_reached (reaches_at reaches (take i places))) (least_reached (option_to_list (slice_get reaches (get_or places i d))))
  reached_more = ap least_reached at_more ∙ reached_append (reaches_at reaches (take i places)) (option_to_list (slice_get reaches (get_or places i d)))
    where
      reached_append : (xs ys : List Reach) → least_reached (xs ++ ys) ≡ lesser (least_reached xs) (least_reached ys)
      reached_append [] ys = refl
      reached_append (x ∷ xs) ys = ap (lesser x.timed) (reached_append xs ys) ∙ sym (lesser_assoc x.timed (least_reached xs) (least_reached ys))

  pub links_more : parent_links (reaches_at reaches (take (i + 1) places)) ≡ parent_links (reaches_at reaches (take i places)) ++ parent_links (option_to_list (slice_get reaches (get_or places i d)))
  links_more = ap parent_links at_more ∙ map-append (λ (r : Reach). r.link) (reaches_at reaches (take i places)) (option_to_list (slice_get reaches (get_or places i d)))

pub timed_more : (sources : List Decl) (i : ℕ) (d : Decl) → i < length sources → least (timed_names_of (take (i + 1) sources)) ≡ lesser (least (timed_names_of (take i sources))) (least (timed_names_of (get_or sources i d ∷ [])))
timed_more sources i d inside =
    ap (λ l. least (timed_names_of l)) (take_more sources i d inside)
    ∙ ap (λ l. least (map decl_name l)) (filter-append is_timed_source (take i sources) (get_or sources i d ∷ []))
    ∙ ap least (map-append decl_name (filter is_timed_source (take i sources)) (filter is_timed_source (get_or sources i d ∷ [])))
    ∙ least_append (timed_names_of (take i sources)) (timed_names_of (get_or sources i d ∷ []))

-- what is found among links that lie elsewhere
pub near_found : (k : Name) (ns : List Near) → link_named (near_links ns) k ≡ option_map near_link (found name_cmp (λ (n : Near). n.link.now.name) k ns)
near_found k [] = refl
near_found k (n ∷ ns) = at (is_eq (name_cmp n.link.now.name k)) (near_found k ns)
  where
    at : (b : Bool) → link_named (near_links ns) k ≡ option_map near_link (found name_cmp (λ (n : Near). n.link.now.name) k ns)
        → cond b (Some n.link.now) (link_named (near_links ns) k) ≡ option_map near_link (cond b (Some n) (found name_cmp (λ (n : Near). n.link.now.name) k ns))
    at true e = refl
    at false e = e

-- Where no column of a model is fed, none is.
use Rattle.std.proofs.Common.{◌≡◌, Bool, true, false, cond, ◌||◌, inl, inr, List, [], ◌∷◌, refl, sym, ap, ◌∙◌}
use Rattle.std.specs.List.{filter, list_any}
use Rattle.mesh_base.specs.declared.definitions.Reading.{Reading}
use Rattle.mesh_base.specs.declared.snapshots.Node.{Node}
use Rattle.mesh_law_query.proofs.Has.{Has}
use Rattle.mesh_lineage.specs.Alike.{IsAlike}
use Rattle.mesh_lineage.proofs.Alike.{Within}
use Rattle.mesh_trace.specs.declared.hits.Hit.{Hit}
use Rattle.mesh_trace.specs.Feeds.{needs}
use Rattle.mesh_trace.specs.Impacts.{all_at, column_names, is_fed, leads, node_hit}
use Rattle.mesh_trace.proofs.Needs.{Str, any_has, has_any, needs_within, same_needs}
use Rattle.mesh_trace.proofs.Feeding.{none_within, one_within}

none_passes : (test : Str → Bool) (xs : List Str) → ((x : Str) → Has x xs → test x ≡ false) → filter test xs ≡ []
none_passes test [] f = refl
none_passes test (x ∷ xs) f = ap (λ b. cond b (x ∷ filter test xs) (filter test xs)) (f x (inl refl)) ∙ none_passes test xs (λ y h. f y (inr h))

module _ (nodes : List Node) (hits : List Hit) (n : Node) (source : Reading) where
  more_fed : (some more : List Str) → Within some more → is_fed nodes hits n source some ≡ true → is_fed nodes hits n source more ≡ true
  more_fed some more w e = go (list_any (all_at hits) n.parents) refl e
    where
      go : (b : Bool) → list_any (all_at hits) n.parents ≡ b → (b || list_any (leads nodes hits n.parents source) (needs n.own some)) ≡ true → (list_any (all_at hits) n.parents || list_any (leads nodes hits n.parents source) (needs n.own more)) ≡ true
      go true f k = ap (λ b. b || list_any (leads nodes hits n.parents source) (needs n.own more)) f
      go false f k =
          let (r, i, t) = any_has (leads nodes hits n.parents source) (needs n.own some) k in
          ap (λ b. b || list_any (leads nodes hits n.parents source) (needs n.own more)) f ∙ has_any (leads nodes hits n.parents source) (needs n.own more) r (needs_within n.own some more w r i) t

  less_fed : (some more : List Str) → Within some more → is_fed nodes hits n source more ≡ false → is_fed nodes hits n source some ≡ false
  less_fed some more w e = go (is_fed nodes hits n source some) refl
    where
      go : (b : Bool) → is_fed nodes hits n source some ≡ b → is_fed nodes hits n source some ≡ false
      go true f = absurd (let clash : true ≡ false = sym (more_fed some more w f) ∙ e in cc)
      go false f = f

  pub none_hit : (test : Bool) → test ≡ is_fed nodes hits n source (column_names n.own) → test ≡ false → node_hit nodes hits n source ≡ record { all = false; columns = [] }
  none_hit test is e =
      let none : is_fed nodes hits n source (column_names n.own) ≡ false = sym is ∙ e in
      let all : is_fed nodes hits n source [] ≡ false = less_fed [] (column_names n.own) (none_within (column_names n.own)) none in
      let each : (x : Str) → Has x (column_names n.own) → (is_fed nodes hits n source [] || is_fed nodes hits n source (x ∷ [])) ≡ false =
      (λ x h. ap (λ b. b || is_fed nodes hits n source (x ∷ [])) all ∙ less_fed (x ∷ []) (column_names n.own) (one_within x (column_names n.own) h) none) in
      let columns : filter (λ x. is_fed nodes hits n source [] || is_fed nodes hits n source (x ∷ [])) (column_names n.own) ≡ [] = none_passes (λ x. is_fed nodes hits n source [] || is_fed nodes hits n source (x ∷ [])) (column_names n.own) each in
      λ i. record { all = all i; columns = columns i }

  pub same_fed : (some more : List Str) → IsAlike some more → is_fed nodes hits n source some ≡ is_fed nodes hits n source more
  same_fed some more a = ap (λ rs. list_any (all_at hits) n.parents || list_any (leads nodes hits n.parents source) rs) (same_needs n.own some more a)

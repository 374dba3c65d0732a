-- The columns that hang on one, one model at a time.
use Rattle.std.proofs.Common.{◌≡◌, true, ◌||◌, not, ◌⊎◌, inl, inr, ℕ, zero, suc, ◌+◌, ◌<◌, ◌≤◌, List, [], ◌∷◌, ◌++◌, map, length, take, get_or, refl, sym, ap, ◌∙◌, subst, arith}
use Rattle.std.specs.Prelude.{◌↔◌}
use Rattle.std.specs.List.{Contains, flat_map, slice_get}
use Rattle.std.specs.Option.{is_some, option_to_list}
use Rattle.std.specs.declared.option.Option.TheVariants.{Some}
use Rattle.std.proofs.lemmas.List.{length-map, take_all}
use Rattle.std.proofs.lemmas.Option.{slice_get_read}
use Rattle.mesh_base.specs.declared.definitions.Reading.{Reading}
use Rattle.mesh_base.specs.declared.snapshots.Node.{Node}
use Rattle.mesh_base.specs.rules.Proper.{is_proper}
use Rattle.mesh_spec_model.specs.Closures.{Closure, Closures, Model, closures, each_of, own_of}
use Rattle.mesh_spec_model.proofs.Listed.{one_each}
use Rattle.mesh_law_query.proofs.Has.{Has, Has_cases, Has_filter, Has_filter_from, Has_from, Has_left, Has_map, Has_map_from, Has_right, Has_to}
use Rattle.mesh_law_query.proofs.Projects.{closures_there}
use Rattle.mesh_lineage.specs.Alike.{IsAlike}
use Rattle.mesh_trace.specs.declared.hits.Hit.{Hit}
use Rattle.mesh_trace.specs.declared.traces.Trace.{Trace}
use Rattle.mesh_trace.specs.Feeds.{feeds, with_column}
use Rattle.mesh_trace.specs.Impacts.{AreHits, IsFedBy, IsHit, column_names, column_trace, node_hit}
use Rattle.mesh_trace.specs.Traces.{has_column_of, is_listed, listed}
use Rattle.mesh_trace.proofs.Hitting.{hit_is}
use Rattle.mesh_trace.proofs.Visiting.{apart}

take_there : {X : Type 0} (xs : List X) (k : ℕ) (x : X) → slice_get xs k ≡ Some x → take (k + 1) xs ≡ take k xs ++ x ∷ []
take_there [] k x e = absurd (cc)
take_there (y ∷ ys) zero x e = let same : y ≡ x = cc in ap (λ z. z ∷ []) same
take_there (y ∷ ys) (suc k) x e = ap (λ j. take j (y ∷ ys)) (let more : suc k + 1 ≡ suc (k + 1) = omega arith in more) ∙ ap (λ l. y ∷ l) (take_there ys k x e)

-- one hit more
more_hits : (source : Reading) (cs : List Closure) (hits : List Hit) (h : Hit) → AreHits source cs hits → ((c : Closure) → slice_get cs (length hits) ≡ Some c → IsHit source c h) → AreHits source cs (hits ++ h ∷ [])
more_hits source cs [] h known new zero x c e at = subst (λ y. IsHit source c y) (let same : h ≡ x = cc in same) (new c at)
more_hits source cs [] h known new (suc i) x c e at = absurd (cc)
more_hits source [] (g ∷ hits) h known new i x c e at = absurd (cc)
more_hits source (d ∷ cs) (g ∷ hits) h known new zero x c e at = known 0 x c e at
more_hits source (d ∷ cs) (g ∷ hits) h known new (suc i) x c e at = more_hits source cs hits h (λ j y z f g. known (suc j) y z f g) new i x c e at

-- the columns of one closure
module _ (source : Reading) (c : Closure) (h : Hit) (is : IsHit source c h) (t : Trace) where
  abbrev FedIn : Type 0
  FedIn = (column : List ℕ) × Contains (column_names (own_of c)) column × (column_trace (own_of c).name column ≡ t) × Contains (feeds c (column ∷ [])) (with_column source)

  fed_here : Has t (map (column_trace (own_of c).name) h.columns) → FedIn
  fed_here k =
      let (column, i, e) = Has_map_from (column_trace (own_of c).name) h.columns t k in
      let (named, fed) = (is.2 column).0 (Has_to h.columns column i) in
      (column, named, e, fed)

  here_fed : FedIn → Has t (map (column_trace (own_of c).name) h.columns)
  here_fed (column, named, e, fed) = Has_map (column_trace (own_of c).name) h.columns column t (Has_from h.columns column ((is.2 column).1 (named, fed))) e

  module _ (cs : List Closure) (found : List Trace) (so_far : Contains found t ↔ IsFedBy cs source t) where
    by_cases : Has t found ⊎ Has t (map (column_trace (own_of c).name) h.columns) → IsFedBy (cs ++ c ∷ []) source t
    by_cases (inl k) = let (d, there, fed) = so_far.0 (Has_to found t k) in (d, Has_to (cs ++ c ∷ []) d (Has_left d cs (c ∷ []) (Has_from cs d there)), fed)
    by_cases (inr k) = (c, Has_to (cs ++ c ∷ []) c (Has_right c cs (c ∷ []) (inl refl)), fed_here k)

    by_closure : (d : Closure) → ((column : List ℕ) × Contains (column_names (own_of d)) column × (column_trace (own_of d).name column ≡ t) × Contains (feeds d (column ∷ [])) (with_column source))
        → Has d cs ⊎ Has d (c ∷ []) → Has t (found ++ map (column_trace (own_of c).name) h.columns)
    by_closure d fed (inl k) = Has_left t found (map (column_trace (own_of c).name) h.columns) (Has_from found t (so_far.1 (d, Has_to cs d k, fed)))
    by_closure d fed (inr (inl e)) =
        Has_right t found (map (column_trace (own_of c).name) h.columns)
        (here_fed (subst (λ (x : Closure). (column : List ℕ) × Contains (column_names (own_of x)) column × (column_trace (own_of x).name column ≡ t) × Contains (feeds x (column ∷ [])) (with_column source)) (sym e) fed))
    by_closure d fed (inr (inr k)) = absurd k

    one_closure : Contains (found ++ map (column_trace (own_of c).name) h.columns) t ↔ IsFedBy (cs ++ c ∷ []) source t
    one_closure = (
      λ k. by_cases (Has_cases t found (map (column_trace (own_of c).name) h.columns) (Has_from (found ++ map (column_trace (own_of c).name) h.columns) t k)),
      λ f. Has_to (found ++ map (column_trace (own_of c).name) h.columns) t (by_closure f.0 f.2 (Has_cases f.0 cs (c ∷ []) (Has_from (cs ++ c ∷ []) f.0 f.1))),
    )

-- one model on
module _ (nodes : List Node) (proper : is_proper nodes ≡ true) (source : Reading) (hits : List Hit) (k : ℕ) (long : length hits ≡ k) (n : Node) (inside : k < length nodes) (is : n ≡ get_or nodes k n)
    (known : AreHits source (closures nodes) hits) where
  abbrev cs : List Closure
  cs = closures nodes

  here : slice_get nodes (length hits) ≡ Some n
  here = subst (λ j. slice_get nodes j ≡ Some n) (sym long) (slice_get_read nodes (length nodes) k n refl inside is)

  its_closure : (parents : Closures) × (slice_get cs (length hits) ≡ Some (Model n.own parents)) × (each_of parents ≡ flat_map (λ i. option_to_list (slice_get cs i)) n.parents)
  its_closure =
      let (before, after, whole, at) = apart nodes (length hits) n here in
      let (parents, there, each) = closures_there nodes proper before after n whole in
      (parents, subst (λ j. slice_get cs j ≡ Some (Model n.own parents)) at there, each)

  its_hit : (parents : Closures) → each_of parents ≡ flat_map (λ i. option_to_list (slice_get cs i)) n.parents → IsHit source (Model n.own parents) (node_hit nodes hits n source)
  its_hit parents each = hit_is nodes proper source n hits here known parents each

  pub hits_more : (next : List Hit) (h : Hit) → next ≡ hits ++ h ∷ [] → h ≡ node_hit nodes hits n source → AreHits source cs next
  hits_more next h e made =
      let (parents, there, each) = its_closure in
      subst (AreHits source cs) (sym (e ∙ ap (λ x. hits ++ x ∷ []) made))
      (more_hits source cs hits (node_hit nodes hits n source) known
      (λ c at. subst (λ x. IsHit source x (node_hit nodes hits n source)) (let both : Some (Model n.own parents) ≡ Some c = sym there ∙ at in let same : Model n.own parents ≡ c = cc in same) (its_hit parents each)))

  pub fed_more : (found next : List Trace) (h : Hit) → h ≡ node_hit nodes hits n source → next ≡ found ++ map (column_trace n.own.name) h.columns → ((t : Trace) → Contains found t ↔ IsFedBy (take k cs) source t) → (t : Trace) → Contains next t ↔ IsFedBy (take (k + 1) cs) source t
  fed_more found next h made e so_far t =
      let (parents, there, each) = its_closure in
      let hit : Hit = node_hit nodes hits n source in
      let one : Contains (found ++ map (column_trace n.own.name) hit.columns) t ↔ IsFedBy (take k cs ++ Model n.own parents ∷ []) source t = one_closure source (Model n.own parents) hit (its_hit parents each) t (take k cs) found (so_far t) in
      let at : slice_get cs k ≡ Some (Model n.own parents) = subst (λ j. slice_get cs j ≡ Some (Model n.own parents)) long there in
      subst (λ l. Contains l t ↔ IsFedBy (take (k + 1) cs) source t) (sym (e ∙ ap (λ (x : Hit). found ++ map (column_trace n.own.name) x.columns) made))
      (subst (λ l. Contains (found ++ map (column_trace n.own.name) hit.columns) t ↔ IsFedBy l source t) (sym (take_there cs k (Model n.own parents) at)) one)

pub fed_all : (nodes : List Node) (source : Reading) (k : ℕ) (found : List Trace) → length nodes ≤ k → ((t : Trace) → Contains found t ↔ IsFedBy (take k (closures nodes)) source t) → (t : Trace) → Contains found t ↔ IsFedBy (closures nodes) source t
fed_all nodes source k found over so_far t =
    let long : length (closures nodes) ≡ length nodes = sym (length-map (closures nodes) own_of) ∙ ap length (one_each nodes) ∙ length-map nodes (λ (n : Node). n.own) in
    subst (λ l. Contains found t ↔ IsFedBy l source t) (take_all k (closures nodes) (subst (λ j. j ≤ k) (sym long) over)) (so_far t)

-- columns are listed as they are
module _ (cs : List Closure) (source : Reading) (found made : List Trace) (same : IsAlike made (listed found)) (exactly : (t : Trace) → Contains found t ↔ IsFedBy cs source t) (t : Trace) where
  is_column : IsFedBy cs source t → is_listed found t ≡ true
  is_column (c, there, (column, named, e, fed)) = ap (λ (x : Trace). is_some x.column || not (has_column_of found x.relation)) (sym e)

  pub still_exactly : Contains made t ↔ IsFedBy cs source t
  still_exactly = (
    λ k. (exactly t).0 (Has_to found t (Has_filter_from (is_listed found) found t (Has_from (listed found) t ((same t).0 k))).0),
    λ f. (same t).1 (Has_to (listed found) t (Has_filter (is_listed found) found t (Has_from found t ((exactly t).1 f)) (is_column f))),
  )

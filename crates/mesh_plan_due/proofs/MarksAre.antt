-- The marks of a model are those that its row counts.
use Rattle.std.proofs.Common.{◌≡◌, ℕ, zero, suc, ℤ, ◌<◌, Bool, true, false, ◌&&◌, ◌||◌, cond, nat_eq, List, [], ◌∷◌, ◌++◌, map, length, refl, sym, ap, ◌∙◌, subst, arith, eqb-true}
use Rattle.std.specs.List.{All, Contains, filter, list_any, slice_get}
use Rattle.std.specs.Option.{option_map}
use Rattle.std.specs.declared.option.Option.{Option}
use Rattle.std.specs.declared.option.Option.TheVariants.{None, Some}
use Rattle.std.proofs.lemmas.Option.{get_or_from_slice_get, slice_get_within}
use Rattle.mesh_list.specs.Keyed.{found}
use Rattle.mesh_base_values.specs.Names.{name_cmp}
use Rattle.mesh_base_values.specs.declared.values.Name.{Name}
use Rattle.mesh_base.specs.declared.definitions.Own.{Own}
use Rattle.mesh_base.specs.declared.snapshots.Node.{Node}
use Rattle.mesh_base.specs.rules.Proper.{is_proper}
use Rattle.mesh_law_query.proofs.Lists.{Each, each}
use Rattle.mesh_spec_model.proofs.Listed.{with_their_parents}
use Rattle.mesh_spec_model.specs.Closures.{Closure, Closures, Model, Alone, With, ancestors, closures, each_of, own_of, parents_of, standing}
use Rattle.mesh_spec_model.specs.Horizons.{Clock, horizon}
use Rattle.mesh_spec_changes.specs.due.Dues.{descends}
use Rattle.mesh_spec_changes.specs.due.Marks.{Mark, by_name, is_computed, mark_of, marked, marks}
use Rattle.mesh_spec_changes.specs.due.Parts.{same_name}
use Rattle.mesh_plan_due.specs.declared.marks.Spot.{Spot}
use Rattle.mesh_plan_due.specs.Lineages.{IsLineage, has_bit}
use Rattle.mesh_plan_due.specs.Marked.{Entry, HaveSpots, IsSpotOf, counts, entry_name, row_marks, spots_in}
use Rattle.mesh_plan_due.proofs.Nodes.{closure_at, closures_long, number_of, read_there}
use Rattle.mesh_plan_due.proofs.Rows.{distinct, one_place, other_name}
use Rattle.mesh_plan_due.proofs.Kept.{as_mark, by_name_found, by_name_up, first_mark, kept, kept_found, kept_up, one_list, pass}

-- all that stands among the closures of a project's models is one of them
module _ (all : List Closure) (closed : (c : Closure) → Contains all c → Each (Contains all) (each_of (parents_of c))) where
  joined : (xs ys : List Closure) → Each (Contains all) xs → Each (Contains all) ys → Each (Contains all) (xs ++ ys)
  joined [] ys h g = g
  joined (x ∷ xs) ys h g = (h.0, joined xs ys h.1 g)

  mutual
    standing_in : (c : Closure) → Contains all c → Each (Contains all) (standing c)
    standing_in (Model own ps) h = (h, ancestors_in ps (closed (Model own ps) h))

    ancestors_in : (cs : Closures) → Each (Contains all) (each_of cs) → Each (Contains all) (ancestors cs)
    ancestors_in Alone h = tt
    ancestors_in (With c cs) h = joined (standing c) (ancestors cs) (standing_in c h.0) (ancestors_in cs h.1)

of_each : {X : Type 0} (P Q : X → Type 0) → ((x : X) → P x → Q x) → (xs : List X) → Each P xs → Each Q xs
of_each P Q f [] h = tt
of_each P Q f (x ∷ xs) h = (f x h.0, of_each P Q f xs h.1)

and_none : (b : Bool) → (b && false) ≡ false
and_none true = refl
and_none false = refl

-- the first mark of a name among some closures
module _ (clock : Clock) (k : Name) where
  abbrev named : Closure → Bool
  named s = same_name (own_of s).name k

  abbrev computed : Closure → Bool
  computed s = is_computed (own_of s).kind

  abbrev marks_in : List Closure → List Mark
  marks_in cs = map (mark_of clock) (filter computed cs)

  none_marked : (cs : List Closure) → Each (λ s. named s ≡ false) cs → first_mark k (marks_in cs) ≡ None
  none_marked [] h = refl
  none_marked (s ∷ cs) h = go (computed s) (none_marked cs h.1)
    where
      go : (b : Bool) → first_mark k (marks_in cs) ≡ None → first_mark k (map (mark_of clock) (cond b (s ∷ filter computed cs) (filter computed cs))) ≡ None
      go true more = ap (λ c. cond c (Some (mark_of clock s)) (first_mark k (marks_in cs))) h.0 ∙ more
      go false more = more

  one_marked : (d : Closure) (cs : List Closure) → Each (λ s. named s ≡ true → s ≡ d) cs → first_mark k (marks_in cs) ≡ cond (list_any named cs && computed d) (Some (mark_of clock d)) None
  one_marked d [] h = refl
  one_marked d (s ∷ cs) h = go (named s) refl (computed s) refl (one_marked d cs h.1)
    where
      go : (b : Bool) → named s ≡ b → (c : Bool) → computed s ≡ c → first_mark k (marks_in cs) ≡ cond (list_any named cs && computed d) (Some (mark_of clock d)) None
          → first_mark k (map (mark_of clock) (cond c (s ∷ filter computed cs) (filter computed cs))) ≡ cond ((b || list_any named cs) && computed d) (Some (mark_of clock d)) None
      go true e true f more =
          let same : s ≡ d = h.0 e in
          ap (λ x. cond x (Some (mark_of clock s)) (first_mark k (marks_in cs))) e ∙ ap (λ x. Some (mark_of clock x)) same
          ∙ ap (λ x. cond x (Some (mark_of clock d)) None) (sym (ap computed (sym same) ∙ f))
      go true e false f more =
          let none : computed d ≡ false = ap computed (sym (h.0 e)) ∙ f in
          more ∙ ap (λ x. cond (list_any named cs && x) (Some (mark_of clock d)) None) none ∙ ap (λ x. cond x (Some (mark_of clock d)) None) (and_none (list_any named cs))
          ∙ ap (λ x. cond x (Some (mark_of clock d)) None) (sym none)
      go false e true f more = ap (λ x. cond x (Some (mark_of clock s)) (first_mark k (marks_in cs))) e ∙ more
      go false e false f more = more

-- the marks of the model at a place
module _ (clock : Clock) (nodes : List Node) (proper : is_proper nodes ≡ true) (hs : List ℤ) (all : hs ≡ map (horizon clock) (closures nodes)) (es : List Entry) (spots : HaveSpots nodes nodes hs es)
    (place : ℕ) (nc : Node) (its_node : slice_get nodes place ≡ Some nc) (own : Own) (ps : Closures) (there : slice_get (closures nodes) place ≡ Some (Model own ps)) (its_own : own ≡ nc.own)
    (row : List ℕ) (lineage : IsLineage nodes (Model own ps) row) where
  abbrev sel : Entry → Bool
  sel e = counts row place e.1

  contained : (j : ℕ) (s : Closure) → slice_get (closures nodes) j ≡ Some s → Contains (closures nodes) s
  contained j s e = (j, slice_get_within (closures nodes) j s e, get_or_from_slice_get (closures nodes) j s s e)

  -- where a closure of the project stands
  record Stands (s : Closure) : Type 0 where
    pub at : ℕ
    pub node : Node
    pub node_there : slice_get nodes at ≡ Some node
    pub closure_there : slice_get (closures nodes) at ≡ Some s
    pub own_is : own_of s ≡ node.own

  stands : (s : Closure) → Contains (closures nodes) s → Stands s
  stands s (j, l, e) =
      let at : slice_get (closures nodes) j ≡ Some s = read_there (closures nodes) j s l (sym e) in
      let inside : j < length nodes = omega (arith, l, closures_long nodes) in
      let (n, m) = node_of nodes j inside in
      let (c, f, o) = closure_at nodes j n m in
      let same : c ≡ s = (let some : Some c ≡ Some s = sym f ∙ at in cc) in
      record { at = j; node = n; node_there = m; closure_there = at; own_is = ap own_of (sym same) ∙ o }
    where
      node_of : (ns : List Node) (i : ℕ) → i < length ns → (n : Node) × (slice_get ns i ≡ Some n)
      node_of [] i h = absurd (omega (arith, h))
      node_of (n ∷ ns) zero h = (n, refl)
      node_of (n ∷ ns) (suc i) h = node_of ns i (omega (arith, h))

  all_standing : Each Stands (ancestors ps)
  all_standing =
      of_each (Contains (closures nodes)) Stands stands (ancestors ps)
      (standing_in (closures nodes) (λ c h. each (Contains (closures nodes)) (each_of (parents_of c)) (closed_at c h)) (Model own ps) (contained place (Model own ps) there)).1
    where
      closed_at : (c : Closure) → Contains (closures nodes) c → All (Contains (closures nodes)) (each_of (parents_of c))
      closed_at c (j, l, e) = subst (λ x. All (Contains (closures nodes)) (each_of (parents_of x))) e (with_their_parents nodes j c l)

  names : own.name ≡ nc.own.name
  names = ap (λ (o : Own). o.name) its_own

  found_is : (k : Name) (o : Option Entry) → IsSpotOf nodes nodes hs k o → option_map as_mark (pass sel o) ≡ first_mark k (marked clock (Model own ps))
  found_is k None h =
      sym (ap (λ b. cond b (Some (mark_of clock (Model own ps))) (first_mark k (marks_in clock k (ancestors ps)))) (ap (λ n. same_name n k) names ∙ other_name nodes place nc k its_node h)
      ∙ none_marked clock k (ancestors ps) (of_each Stands (λ s. named clock k s ≡ false) (λ s t. ap (λ (o : Own). same_name o.name k) t.own_is ∙ other_name nodes t.at t.node k t.node_there h) (ancestors ps) all_standing))
  found_is k (Some e) (n, at, name, first, comp, hor) =
      let (d, d_there, d_own) = closure_at nodes e.1.place n at in
      let mark : as_mark e ≡ mark_of clock d = (λ i. record { name = (first ∙ sym name ∙ ap (λ (o : Own). o.name) (sym d_own)) i; at = (hor ∙ number_of (horizon clock) (closures nodes) hs all e.1.place d d_there) i }) in
      let itself : nat_eq e.1.place place ≡ named clock k (Model own ps) = sym (one_place nodes (distinct nodes proper) e.1.place place n nc at its_node) ∙ (λ i. same_name (sym names i) (name i)) in
      let below : has_bit row e.1.place ≡ (named clock k (Model own ps) || list_any (named clock k) (ancestors ps)) = lineage e.1.place n at ∙ ap (λ x. descends x (Model own ps)) name in
      let kind : e.1.computed ≡ computed clock k d = comp ∙ ap (λ (o : Own). is_computed o.kind) (sym d_own) in
      let each_is : Each (λ s. named clock k s ≡ true → s ≡ d) (ancestors ps) = of_each Stands (λ s. named clock k s ≡ true → s ≡ d) (λ s t f. one_closure e n at name d d_there s t f) (ancestors ps) all_standing in
      let found : first_mark k (marks_in clock k (ancestors ps)) ≡ cond (list_any (named clock k) (ancestors ps) && computed clock k d) (Some (mark_of clock d)) None = one_marked clock k d (ancestors ps) each_is in
      (λ i. option_map as_mark (cond (below i && (itself i || kind i)) (Some e) None))
      ∙ go (named clock k (Model own ps)) (list_any (named clock k) (ancestors ps)) (computed clock k d) e d mark (λ t. same_model e n at d d_there (itself ∙ t))
      ∙ ap (cond (named clock k (Model own ps)) (Some (mark_of clock (Model own ps)))) (sym found)
    where
      one_closure : (e : Entry) (n : Node) → slice_get nodes e.1.place ≡ Some n → n.own.name ≡ k → (d : Closure) → slice_get (closures nodes) e.1.place ≡ Some d → (s : Closure) → Stands s → named clock k s ≡ true → s ≡ d
      one_closure e n at name d d_there s t f =
          let one : same_name t.node.own.name n.own.name ≡ true = (λ i. same_name ((ap (λ (o : Own). o.name) (sym t.own_is)) i) (name i)) ∙ f in
          let places : nat_eq e.1.place t.at ≡ true = sym (one_place nodes (distinct nodes proper) e.1.place t.at n t.node at t.node_there) ∙ one in
          let same : e.1.place ≡ t.at = eqb-true e.1.place t.at places in
          let some : Some s ≡ Some d = sym t.closure_there ∙ ap (slice_get (closures nodes)) (sym same) ∙ d_there in cc

      same_model : (e : Entry) (n : Node) → slice_get nodes e.1.place ≡ Some n → (d : Closure) → slice_get (closures nodes) e.1.place ≡ Some d → nat_eq e.1.place place ≡ true → d ≡ Model own ps
      same_model e n at d d_there t =
          let same : e.1.place ≡ place = eqb-true e.1.place place t in
          let some : Some d ≡ Some (Model own ps) = sym d_there ∙ ap (slice_get (closures nodes)) same ∙ there in cc

      go : (x y z : Bool) (e : Entry) (d : Closure) → as_mark e ≡ mark_of clock d → (x ≡ true → d ≡ Model own ps)
          → option_map as_mark (cond ((x || y) && (x || z)) (Some e) None) ≡ cond x (Some (mark_of clock (Model own ps))) (cond (y && z) (Some (mark_of clock d)) None)
      go true y z e d m f = ap Some (m ∙ ap (mark_of clock) (f refl))
      go false true true e d m f = ap Some m
      go false true false e d m f = refl
      go false false z e d m f = refl

  marks_kept : (xs : List Entry) → row_marks (spots_in xs) row place ≡ map (λ (m : Mark). m.at) (kept sel xs)
  marks_kept [] = refl
  marks_kept (x ∷ xs) = go (sel x) (marks_kept xs)
    where
      go : (b : Bool) → row_marks (spots_in xs) row place ≡ map (λ (m : Mark). m.at) (kept sel xs)
          → map (λ (s : Spot). s.horizon) (cond b (x.1 ∷ filter (counts row place) (spots_in xs)) (filter (counts row place) (spots_in xs))) ≡ map (λ (m : Mark). m.at) (map as_mark (cond b (x ∷ filter sel xs) (filter sel xs)))
      go true more = ap (λ l. x.1.horizon ∷ l) more
      go false more = more

  pub marks_are : row_marks (spots_in es) row place ≡ marks clock (Model own ps)
  marks_are =
      marks_kept es
      ∙ ap (map (λ (m : Mark). m.at))
      (one_list (kept sel es) (by_name (marked clock (Model own ps))) (kept_up sel es spots.ascending) (by_name_up (marked clock (Model own ps)))
      (λ k. kept_found sel es spots.ascending k ∙ found_is k (found name_cmp entry_name k es) (spots.each k) ∙ sym (by_name_found (marked clock (Model own ps)) k)))

-- What is due of a plan's models, from what is known of each.
use Rattle.std.proofs.Common.{◌≡◌, ℕ, zero, suc, ◌+◌, ◌<◌, ◌≤◌, ℤ, pos, Bool, true, false, not, ◌&&◌, ◌||◌, cond, List, [], ◌∷◌, ◌++◌, map, length, take, get_or, refl, sym, ap, ◌∙◌, arith, append-nil, append_assoc, length-take-le, subst}
use Rattle.std.specs.BTreeSet.{contains}
use Rattle.std.specs.List.{filter, slice_get}
use Rattle.std.specs.Option.{is_some}
use Rattle.std.specs.declared.option.Option.{Option}
use Rattle.std.specs.declared.option.Option.TheVariants.{Some}
use Rattle.std.proofs.lemmas.Bool.{and_parts, leb-true}
use Rattle.std.proofs.lemmas.Option.{slice_get_within}
use Rattle.mesh_base_values.specs.Names.{name_cmp}
use Rattle.mesh_base_values.specs.declared.kinds.Kind.{Kind}
use Rattle.mesh_base_values.specs.declared.kinds.Kind.TheVariants.{Full, View, Seed, Incremental}
use Rattle.mesh_base_values.specs.declared.times.Bounds.{Bounds}
use Rattle.mesh_base_values.specs.declared.values.Name.{Name}
use Rattle.mesh_base.specs.declared.definitions.Own.{Own}
use Rattle.mesh_base.specs.declared.forgets.Forget.{Forget}
use Rattle.mesh_base.specs.declared.forgets.Forget.TheVariants.{Marks}
use Rattle.mesh_base.specs.declared.plans.Due.{Due}
use Rattle.mesh_base.specs.declared.plans.Entry.{Entry}
use Rattle.mesh_base.specs.declared.snapshots.Node.{Node}
use Rattle.mesh_house_book.specs.declared.book.Book.{Book}
use Rattle.mesh_house_book.specs.declared.versions.Version.{Version}
use Rattle.mesh_house.specs.World.{version_of}
use Rattle.mesh_base.specs.rules.Proper.{is_proper}
use Rattle.mesh_spec_model.specs.Closures.{Closure, Model, closures, own_of}
use Rattle.mesh_spec_model.specs.Horizons.{Clock, horizon, units_from}
use Rattle.mesh_spec_changes.specs.due.Dues.{due, due_at, due_of, dues, dues_from, is_due_unit}
use Rattle.mesh_spec_changes.specs.due.Marks.{marks}
use Rattle.mesh_spec_changes.specs.due.Parts.{is_among, unit_of}
use Rattle.mesh_spec_changes.specs.due.Plans.{Planned, are_marks, holds, marks_of, planned, ranges_of}
use Rattle.mesh_plan_due.specs.declared.due.Sight.{Sight}
use Rattle.mesh_plan_due.specs.Whole.{IsSight, again_units, dues_by, is_due, sight_dues, sight_marks, unit_due, whole_due}
use Rattle.mesh_plan_due.specs.Lineages.{HaveLineages, IsLineage}
use Rattle.mesh_plan_due.specs.Marked.{row_marks}
use Rattle.mesh_plan_due.proofs.Nodes.{node_there}
use Rattle.mesh_plan_due.proofs.EachModel.{model_at, take_one}
use Rattle.mesh_plan_due.proofs.MarksAre.{marks_are}

pub few : (nodes : List Node) → is_proper nodes ≡ true → length nodes ≤ 4096
few nodes h = leb-true (length nodes) 4096 (and_parts _ _ h).0

-- the dues of one model
module _ (clock : Clock) (b : Book) (forgets : List Forget) (place : ℕ) (p : Planned) (units : Bounds → Bool) (same_units : (u : Bounds) → units u ≡ is_among forgets (unit_of p.object u))
    (table : Bool) (same_table : table ≡ is_among forgets (Marks p.object)) where
  units_due : (us : List Bounds) → map (due_at clock place p) (map (unit_of p.object) (filter (is_due_unit b forgets p) us)) ≡ map (unit_due place) (filter (is_due (ranges_of (version_of b p.object)) units) us)
  units_due [] = refl
  units_due (u ∷ us) =
      go (is_due_unit b forgets p u) (units_due us)
      ∙ ap (λ c. map (unit_due place) (cond c (u ∷ filter (is_due (ranges_of (version_of b p.object)) units) us) (filter (is_due (ranges_of (version_of b p.object)) units) us)))
      (ap (λ c. not (holds b p.object u) || c) (sym (same_units u)))
    where
      go : (c : Bool) → map (due_at clock place p) (map (unit_of p.object) (filter (is_due_unit b forgets p) us)) ≡ map (unit_due place) (filter (is_due (ranges_of (version_of b p.object)) units) us)
          → map (due_at clock place p) (map (unit_of p.object) (cond c (u ∷ filter (is_due_unit b forgets p) us) (filter (is_due_unit b forgets p) us)))
          ≡ map (unit_due place) (cond c (u ∷ filter (is_due (ranges_of (version_of b p.object)) units) us) (filter (is_due (ranges_of (version_of b p.object)) units) us))
      go true e = ap (λ l. unit_due place u ∷ l) e
      go false e = e

  pub dues_are : own_of p.closure ≡ p.node.own → (kind : Kind)
      → map (due_at clock place p) (due_of clock b forgets p kind) ≡ dues_by place p.node.own (horizon clock p.closure) (version_of b p.object) units table (marks clock p.closure) kind
  dues_are own (Incremental time lookback) =
      ap (λ (o : Own). map (due_at clock place p) (map (unit_of p.object) (filter (is_due_unit b forgets p) (units_from o.start o.unit (horizon clock p.closure))))) own
      ∙ units_due (units_from p.node.own.start p.node.own.unit (horizon clock p.closure))
  dues_are own Full =
      go (are_marks (marks_of (version_of b p.object)) (marks clock p.closure)) (is_among forgets (Marks p.object))
      ∙ ap (λ t. whole_due place (marks clock p.closure) (not (are_marks (marks_of (version_of b p.object)) (marks clock p.closure) && not t))) (sym same_table)
    where
      go : (c d : Bool) → map (due_at clock place p) (cond (c && not d) [] (Marks p.object ∷ [])) ≡ whole_due place (marks clock p.closure) (not (c && not d))
      go false d = refl
      go true true = refl
      go true false = refl
  dues_are own View = go (is_some (marks_of (version_of b p.object)))
    where
      go : (c : Bool) → map (due_at clock place p) (cond c [] (Marks p.object ∷ [])) ≡ whole_due place (marks clock p.closure) (not c)
      go true = refl
      go false = refl
  dues_are own Seed = go (is_some (marks_of (version_of b p.object)))
    where
      go : (c : Bool) → map (due_at clock place p) (cond c [] (Marks p.object ∷ [])) ≡ whole_due place (marks clock p.closure) (not c)
      go true = refl
      go false = refl

-- one model more
module _ (clock : Clock) (b : Book) (forgets : List Forget) where
  from_append : (a c : ℕ) (xs : List Planned) (p : Planned) → a + length xs ≡ c → dues_from a clock b forgets (xs ++ p ∷ []) ≡ dues_from a clock b forgets xs ++ map (due_at clock c p) (due clock b forgets p)
  from_append a c [] p e = append-nil (map (due_at clock a p) (due clock b forgets p)) ∙ ap (λ k. map (due_at clock k p) (due clock b forgets p)) (let same : a ≡ c = omega (arith, e) in same)
  from_append a c (x ∷ xs) p e =
      ap (λ l. map (due_at clock a x) (due clock b forgets x) ++ l) (from_append (a + 1) c xs p (omega (arith, e)))
      ∙ sym (append_assoc (map (due_at clock a x) (due clock b forgets x)) (dues_from (a + 1) clock b forgets xs) (map (due_at clock c p) (due clock b forgets p)))

  one_more : (all : List Planned) (i : ℕ) (p : Planned) → slice_get all i ≡ Some p → dues clock b forgets (take (i + 1) all) ≡ dues clock b forgets (take i all) ++ map (due_at clock i p) (due clock b forgets p)
  one_more all i p at =
      ap (dues clock b forgets) (take_one all i p at)
      ∙ from_append 0 i (take i all) p (let long = length-take-le i all (let l = slice_get_within all i p at in omega (arith, l)) in omega (arith, long))

-- the row of the model at a place
zip_at : (nodes : List Node) (cs : List Closure) (rows : List (List ℕ)) (k : ℕ) (c : Closure) → HaveLineages nodes cs rows → slice_get cs k ≡ Some c → IsLineage nodes c (get_or rows k [])
zip_at nodes [] rows k c h e = absurd (cc)
zip_at nodes (z ∷ cs) [] k c h e = absurd h
zip_at nodes (w ∷ cs) (z ∷ rows) zero c h e = let g : w ≡ c = cc in subst (λ t. IsLineage nodes t z) g h.0
zip_at nodes (w ∷ cs) (z ∷ rows) (suc k) c h e = zip_at nodes cs rows k c h.1 e

module _ (clock : Clock) (b : Book) (forgets : List Forget) (nodes : List Node) (proper : is_proper nodes ≡ true) (hs : List ℤ) (all : hs ≡ map (horizon clock) (closures nodes)) (entries : List Entry) (i : ℕ) (n : Node)
    (inside : i < length nodes) (here : n ≡ get_or nodes i n) (e : Entry) (long : length entries ≡ length nodes) (entry : e ≡ get_or entries i e) (s : Sight) (sight : IsSight nodes hs forgets s) where
  its_marks : (c : Closure) → slice_get (closures nodes) i ≡ Some c → own_of c ≡ n.own → sight_marks s i ≡ marks clock c
  its_marks (Model own ps) there own_is =
      let (es, have, is) = sight.spots in
      ap (λ l. row_marks l (get_or s.rows.items i []) i) is
      ∙ marks_are clock nodes proper hs all es have i n (node_there nodes i n inside here) own ps there own_is (get_or s.rows.items i []) (zip_at nodes (closures nodes) s.rows.items i (Model own ps) sight.rows there)

  pub dues_more : (object : Name) → object ≡ e.object → (h : ℤ) → h ≡ get_or hs i (pos 0) → (v : Option Version) → v ≡ version_of b object
      → (made new : List Due) → made ≡ dues clock b forgets (take i (planned nodes entries)) → new ≡ made ++ sight_dues s i n.own object h v → new ≡ dues clock b forgets (take (i + 1) (planned nodes entries))
  dues_more object same_object h same_h v same_v made new was is =
      let k = model_at clock nodes hs all entries i n inside here e long entry in
      let p : Planned = k.model in
      let objects : object ≡ p.object = same_object ∙ sym k.its_object in
      let seconds : h ≡ horizon clock p.closure = same_h ∙ sym k.its_horizon in
      let owns : n.own ≡ p.node.own = sym k.node_own in
      is
      ∙ (λ j. was j ++ dues_by i (owns j) (seconds j) ((same_v ∙ ap (version_of b) objects) j) (again_units s (objects j)) (contains name_cmp s.tables (objects j)) (its_marks p.closure k.closure_there (k.closure_own ∙ k.node_own) j) (owns j).kind)
      ∙ ap (λ l. dues clock b forgets (take i (planned nodes entries)) ++ l)
      (sym (dues_are clock b forgets i p (again_units s p.object) (sight.units p.object) (contains name_cmp s.tables p.object) (sight.tables p.object) k.closure_own p.node.own.kind))
      ∙ sym (one_more clock b forgets (planned nodes entries) i p k.at)

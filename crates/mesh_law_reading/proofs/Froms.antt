-- What FROM draws is there, and stands in sight at its place.
use Rattle.std.proofs.Common.{◌≡◌, ℕ, zero, suc, ◌+◌, Bool, true, false, cond, List, [], ◌∷◌, ◌++◌, map, length, Option, Some, None, Ok, refl, sym, ap, ◌∙◌, subst, append_assoc, arith}
use Rattle.std.specs.List.{AllByRecursion, slice_get}
use Rattle.std.specs.Option.{is_some, option_map}
use Rattle.std.specs.Ordering.{is_eq}
use Rattle.std.proofs.lemmas.List.{append-nil, length-append, map-append}
use Rattle.std.proofs.lemmas.List.Folds.{list_all-append}
use Rattle.std.proofs.lemmas.Option.{slice_get-map}
use Rattle.std.proofs.lemmas.Bool.{and_from as and_both}
use Rattle.mesh_list.specs.Keyed.{found}
use Rattle.mesh_base_values.specs.Names.{name_cmp}
use Rattle.mesh_base_values.specs.declared.values.Column.{Column}
use Rattle.mesh_base_values.specs.declared.values.Name.{Name}
use Rattle.mesh_base.specs.Keys.{input_name}
use Rattle.mesh_base.specs.Outputs.{select_columns}
use Rattle.mesh_base.specs.declared.definitions.Decl.{Decl}
use Rattle.mesh_base.specs.declared.jobs.Input.{Input}
use Rattle.mesh_base.specs.declared.queries.FromItem.{FromItem}
use Rattle.mesh_base.specs.declared.queries.Join.{Join}
use Rattle.mesh_base.specs.declared.queries.Join.TheVariants as join
use Rattle.mesh_base.specs.declared.queries.Select.{Select}
use Rattle.mesh_base.specs.declared.rules.relations.Relation.{Relation}
use Rattle.mesh_base.specs.rules.Relations.{relation_columns, source_relation}
use Rattle.mesh_base.specs.rules.Seen.{are_there, conditions_see, or_no_columns, rel_columns, sees, sees_some, tables_of}
use Rattle.mesh_query_grammar.specs.declared.surface.expressions.OrExpr.{OrExpr}
use Rattle.mesh_query_grammar.specs.declared.surface.queries.SurfaceFrom.{SurfaceFrom}
use Rattle.mesh_query_grammar.specs.declared.surface.queries.SurfaceJoin.{SurfaceJoin}
use Rattle.mesh_query_grammar.specs.declared.surface.queries.SurfaceJoin.TheVariants as written
use Rattle.mesh_query_grammar.specs.declared.surface.queries.SurfaceRel.{SurfaceRel}
use Rattle.mesh_query_tokens.specs.Gives.{◌>>=◌}
use Rattle.mesh_query_tokens.specs.Walk.{along}
use Rattle.mesh_resolve_types.specs.declared.typed.Typed.{Typed}
use Rattle.mesh_resolve_types.specs.Faults.{mismatch, unknown_relation}
use Rattle.mesh_resolve_types.specs.Forms.{expr_of}
use Rattle.mesh_resolve_types.specs.rules.Kinds.{may_be}
use Rattle.mesh_base_values.specs.declared.values.ColType.TheVariants.{Bool as Truth}
use Rattle.mesh_resolve_scope.specs.declared.sight.sight.Seen.{Seen}
use Rattle.mesh_resolve_scope.specs.declared.sight.sight.Sight.{Sight}
use Rattle.mesh_resolve_scope.specs.Expressions.{typed}
use Rattle.mesh_resolve.specs.declared.drawn.Drawing.{Drawing}
use Rattle.mesh_resolve_selects.specs.declared.selects.parts.Drawn.{Drawn}
use Rattle.mesh_resolve_selects.specs.declared.outputs.commons.Common.{Common}
use Rattle.mesh_resolve.specs.declared.known.Known.{Known}
use Rattle.mesh_resolve_selects.specs.outputs.Commons.{Found, place_named, selects_of}
use Rattle.mesh_resolve.specs.Relations.{columns_named, condition, conditional, decl_name, drawing, drawn_from, dotted, found_relation, item_drawn, joined, model_columns, nothing_drawn, or_else, or_unknown, relation, relation_by, seeing_relation, source_columns, unconditional}
use Rattle.mesh_resolve.specs.Selects.{from_item}
use Rattle.mesh_resolve_selects.proofs.outputs.Places.{at_place, named_at, relation_of}
use Rattle.mesh_law_reading.specs.Sight.{known_relations, model_relation}
use Rattle.mesh_law_reading.proofs.Good.{AllByRecursion-push, Good, any, along_good, each_weaker, given, provided_good, refused, then_good}
use Rattle.mesh_law_reading.proofs.Sees.{Standing, Stands, typed_seen}

-- a list's member stays at its place where more members stand behind
get_before : {X : Type 0} (xs ys : List X) (k : ℕ) (x : X) → slice_get xs k ≡ Some x → slice_get (xs ++ ys) k ≡ Some x
get_before [] ys k x e = absurd (cc)
get_before (y ∷ xs) ys zero x e = e
get_before (y ∷ xs) ys (suc k) x e = get_before xs ys k x e

get_last : {X : Type 0} (xs : List X) (x : X) → slice_get (xs ++ x ∷ []) (length xs) ≡ Some x
get_last [] x = refl
get_last (y ∷ xs) x = get_last xs x

pub still_standing : (all more : List (List Column)) (from : List Seen) → Standing all from → Standing (all ++ more) from
still_standing all more from standing = each_weaker (Stands all) (Stands (all ++ more)) from (λ d at. get_before all more d.place d.columns at) standing

-- a name among relations
pub columns_of_models : (models : List Input) (name : Name) → relation_columns (map model_relation models) name ≡ model_columns models name
columns_of_models [] name = refl
columns_of_models (m ∷ ms) name = by_name (is_eq (name_cmp m.name name)) (columns_of_models ms name)
  where
    by_name : (b : Bool) → relation_columns (map model_relation ms) name ≡ model_columns ms name
        → cond b (Some m.columns) (relation_columns (map model_relation ms) name) ≡ option_map (λ (m : Input). m.columns) (cond b (Some m) (found name_cmp input_name name ms))
    by_name true e = refl
    by_name false e = e

pub columns_of_sources : (sources : List Decl) (name : Name) → relation_columns (map source_relation sources) name ≡ source_columns sources name
columns_of_sources [] name = refl
columns_of_sources (d ∷ ds) name = by_name (is_eq (name_cmp d.name name)) (columns_of_sources ds name)
  where
    by_name : (b : Bool) → relation_columns (map source_relation ds) name ≡ source_columns ds name
        → cond b (Some d.columns) (relation_columns (map source_relation ds) name) ≡ option_map (λ (d : Decl). d.columns) (cond b (Some d) (found name_cmp decl_name name ds))
    by_name true e = refl
    by_name false e = e

pub columns_of_two : (rs ss : List Relation) (name : Name) → relation_columns (rs ++ ss) name ≡ or_else (relation_columns rs name) (relation_columns ss name)
columns_of_two [] ss name = refl
columns_of_two (r ∷ rs) ss name = by_name (is_eq (name_cmp r.name name)) (columns_of_two rs ss name)
  where
    by_name : (b : Bool) → relation_columns (rs ++ ss) name ≡ or_else (relation_columns rs name) (relation_columns ss name)
        → cond b (Some r.columns) (relation_columns (rs ++ ss) name) ≡ or_else (cond b (Some r.columns) (relation_columns rs name)) (relation_columns ss name)
    by_name true e = refl
    by_name false e = e

pub columns_known : (known : Known) (name : Name) → relation_columns (known_relations known) name ≡ columns_named known name
columns_known known name =
    columns_of_two (map model_relation known.models) (map source_relation known.sources) name ∙ ap (λ o. or_else o (relation_columns (map source_relation known.sources) name)) (columns_of_models known.models name)
    ∙ ap (or_else (model_columns known.models name)) (columns_of_sources known.sources name)

module _ (known : Known) (ctes : List Common) where
  abbrev rels : List Relation
  rels = known_relations known

  abbrev earlier : List (List Select)
  earlier = map selects_of ctes

  -- what a relation's name means is there, with its columns
  abbrev IsThere : Found → Type 0
  IsThere f = rel_columns rels earlier f.0 ≡ Some f.1

  none_before : (i : ℕ) → 0 + i ≡ i
  none_before i = omega arith

  named : (at : ℕ) (text : List ℕ) (full : Name) (o : Option (List Column)) → columns_named known full ≡ o → Good IsThere (or_unknown at text (option_map (found_relation full) o))
  named at text full None e = refused IsThere (unknown_relation at text)
  named at text full (Some columns) e = given IsThere (found_relation full columns) (columns_known known full ∙ e)

  by_place : (at : ℕ) (name : List ℕ) (i : ℕ) (o : Option Common) → slice_get ctes i ≡ o → Good IsThere (or_unknown at name (option_map (relation_of i) o))
  by_place at name i None e = refused IsThere (unknown_relation at name)
  by_place at name i (Some c) e = given IsThere (relation_of i c) (ap (option_map select_columns) (slice_get-map selects_of ctes i ∙ ap (option_map selects_of) e))

  by_name : (at : ℕ) (name : List ℕ) (o : Option ℕ) → Good IsThere (or_unknown at name (at_place 0 ctes o))
  by_name at name None = refused IsThere (unknown_relation at name)
  by_name at name (Some i) = subst (λ (n : ℕ). Good IsThere (or_unknown at name (option_map (relation_of n) (slice_get ctes i)))) (sym (none_before i)) (by_place at name i (slice_get ctes i) refl)

  by_parts : (at : ℕ) (schema : Option (List ℕ)) (name : List ℕ) → Good IsThere (relation_by known ctes at schema name)
  by_parts at None name = subst (λ o. Good IsThere (or_unknown at name o)) (sym (named_at 0 name ctes)) (by_name at name (place_named name ctes))
  by_parts at (Some schema) name = named at (dotted schema name) (record { schema = schema; model = name }) (columns_named known (record { schema = schema; model = name })) refl

  relation_there : (r : SurfaceRel) → Good IsThere (relation known ctes r)
  unfolding relation
  relation_there r = by_parts r.at r.schema r.name

  -- the columns of the FROM items so far
  abbrev pub tables : List Drawn → List (List Column)
  tables drawn = tables_of rels earlier (map from_item drawn)

  -- a condition sees what it names, whatever stands behind
  abbrev pub SomeSees : List (List Column) → Drawn → Type 0
  SomeSees all d = (more : List (List Column)) → sees_some (all ++ more) (option_map expr_of d.on) ≡ true

  pub record IsDrawn (f : Drawing) : Type 0 where
    pub standing : Standing (tables f.drawn) f.sight.from
    pub as_many : length f.sight.from ≡ length (tables f.drawn)
    pub is_there : are_there rels earlier (map from_item f.drawn) ≡ true
    pub conditions : AllByRecursion (SomeSees (tables f.drawn)) f.drawn

  one_more_table : (drawn : List Drawn) (d : Drawn) (columns : List Column) → rel_columns rels earlier d.rel ≡ Some columns → tables (drawn ++ d ∷ []) ≡ tables drawn ++ columns ∷ []
  one_more_table drawn d columns e =
      ap (tables_of rels earlier) (map-append from_item drawn (d ∷ [])) ∙ map-append (λ (f : FromItem). or_no_columns (rel_columns rels earlier f.rel)) (map from_item drawn) (from_item d ∷ [])
      ∙ ap (λ o. tables drawn ++ or_no_columns o ∷ []) e

  more_there : (drawn : List Drawn) (d : Drawn) (columns : List Column) → rel_columns rels earlier d.rel ≡ Some columns → are_there rels earlier (map from_item drawn) ≡ true
      → are_there rels earlier (map from_item (drawn ++ d ∷ [])) ≡ true
  more_there drawn d columns e before =
      ap (are_there rels earlier) (map-append from_item drawn (d ∷ [])) ∙ list_all-append (λ (f : FromItem). is_some (rel_columns rels earlier f.rel)) (map from_item drawn) (from_item d ∷ [])
      ∙ and_both _ _ before (and_both _ true (ap is_some e) refl)

  -- one more FROM item
  drawn_more : (f : Drawing) (j : Join) (r : SurfaceRel) (found : Found) (on : Option Typed) → IsDrawn f → IsThere found
      → ((more : List (List Column)) → sees_some ((tables f.drawn ++ found.1 ∷ []) ++ more) (option_map expr_of on) ≡ true) → IsDrawn (drawing f j r found on)
  drawn_more f j r found on so_far is_there seen =
      let d : Drawn = item_drawn j r found.0 on in
      let grown : tables (f.drawn ++ d ∷ []) ≡ tables f.drawn ++ found.1 ∷ [] = one_more_table f.drawn d found.1 is_there in
      let last : Seen = record { place = length f.sight.from; name = _; columns = found.1 } in
      record {
        standing = subst (λ all. Standing all (seeing_relation f.sight r found).from) (sym grown)
            (AllByRecursion-push (Stands (tables f.drawn ++ found.1 ∷ [])) f.sight.from last (ap (slice_get (tables f.drawn ++ found.1 ∷ [])) so_far.as_many ∙ get_last (tables f.drawn) found.1) (still_standing (tables f.drawn) (found.1 ∷ []) f.sight.from so_far.standing));
        as_many = length-append f.sight.from (last ∷ []) ∙ ap (λ n. n + 1) so_far.as_many ∙ sym (ap length grown ∙ length-append (tables f.drawn) (found.1 ∷ []));
        is_there = more_there f.drawn d found.1 is_there so_far.is_there;
        conditions = subst (λ all. AllByRecursion (SomeSees all) (f.drawn ++ d ∷ [])) (sym grown)
            (AllByRecursion-push (SomeSees (tables f.drawn ++ found.1 ∷ [])) f.drawn d seen
            (each_weaker (SomeSees (tables f.drawn)) (SomeSees (tables f.drawn ++ found.1 ∷ [])) f.drawn (λ x sees more. ap (λ all. sees_some all (option_map expr_of x.on)) (append_assoc (tables f.drawn) (found.1 ∷ []) more) ∙ sees (found.1 ∷ more)) so_far.conditions));
      }

  -- what is in sight once an item stands in FROM
  standing_more : (f : Drawing) (r : SurfaceRel) (found : Found) → IsDrawn f → Standing (tables f.drawn ++ found.1 ∷ []) (seeing_relation f.sight r found).from
  standing_more f r found so_far =
      let last : Seen = record { place = length f.sight.from; name = _; columns = found.1 } in
      AllByRecursion-push (Stands (tables f.drawn ++ found.1 ∷ [])) f.sight.from last (ap (slice_get (tables f.drawn ++ found.1 ∷ [])) so_far.as_many ∙ get_last (tables f.drawn) found.1)
      (still_standing (tables f.drawn) (found.1 ∷ []) f.sight.from so_far.standing)

  pub condition_seen : (all : List (List Column)) (sight : Sight) → Standing all sight.from → (e : OrExpr) → Good (λ (t : Typed). sees all t.expr ≡ true) (condition sight e)
  unfolding condition
  condition_seen all sight standing e =
      then_good (λ t. sees all t.expr ≡ true) (λ t. sees all t.expr ≡ true) (typed sight e) _ (typed_seen all sight standing e) (λ t p. provided_good (λ t. sees all t.expr ≡ true) (may_be Truth t.kind) t (mismatch t.at) (λ fits. p))

  plainly : (f : Drawing) (j : Join) (r : SurfaceRel) → IsDrawn f → Good IsDrawn (unconditional known ctes f j r)
  plainly f j r so_far = then_good IsThere IsDrawn (relation known ctes r) (λ found. Ok (drawing f j r found None)) (relation_there r) (λ found at. given IsDrawn (drawing f j r found None) (drawn_more f j r found None so_far at (λ more. refl)))

  under_condition : (f : Drawing) (j : Join) (r : SurfaceRel) (on : OrExpr) → IsDrawn f → Good IsDrawn (conditional known ctes f j r on)
  under_condition f j r on so_far =
      then_good IsThere IsDrawn (relation known ctes r) (λ found. condition (seeing_relation f.sight r found) on >>= λ t. Ok (drawing f j r found (Some t))) (relation_there r)
      (λ found at. then_good (λ (t : Typed). (more : List (List Column)) → sees ((tables f.drawn ++ found.1 ∷ []) ++ more) t.expr ≡ true) IsDrawn (condition (seeing_relation f.sight r found) on) (λ t. Ok (drawing f j r found (Some t)))
      (λ t e more. condition_seen ((tables f.drawn ++ found.1 ∷ []) ++ more) (seeing_relation f.sight r found) (still_standing (tables f.drawn ++ found.1 ∷ []) more (seeing_relation f.sight r found).from (standing_more f r found so_far)) on t e)
      (λ t sees. given IsDrawn (drawing f j r found (Some t)) (drawn_more f j r found (Some t) so_far at sees)))

  one_join : (f : Drawing) (j : SurfaceJoin) → IsDrawn f → Good IsDrawn (joined known ctes f j)
  one_join f (written.Comma at r) so_far = plainly f join.Cross r so_far
  one_join f (written.Cross at r) so_far = plainly f join.Cross r so_far
  one_join f (written.Inner at r on) so_far = under_condition f join.Inner r on so_far
  one_join f (written.Left at r on) so_far = under_condition f join.Left r on so_far

  nothing_yet : IsDrawn (nothing_drawn known)
  nothing_yet = record { standing = tt; as_many = refl; is_there = refl; conditions = tt }

  pub from_drawn : (from : Option SurfaceFrom) → Good IsDrawn (drawn_from known ctes from)
  unfolding drawn_from
  from_drawn None = given IsDrawn (nothing_drawn known) nothing_yet
  from_drawn (Some from) =
      then_good IsDrawn IsDrawn (unconditional known ctes (nothing_drawn known) join.First from.first) (λ first. along (joined known ctes) first from.joins) (plainly (nothing_drawn known) join.First from.first nothing_yet)
      (λ first p. along_good IsDrawn (λ j. Unit {0}) (joined known ctes) (λ f j q u. one_join f j q) first p from.joins (any from.joins))

  -- the conditions of all FROM items
  conditions_seen_in : (all : List (List Column)) (drawn : List Drawn) → AllByRecursion (SomeSees all) drawn → conditions_see all (map from_item drawn) ≡ true
  conditions_seen_in all [] ps = refl
  conditions_seen_in all (d ∷ ds) ps = and_both _ _ (ap (λ l. sees_some l (option_map expr_of d.on)) (sym (append-nil all)) ∙ ps.0 []) (conditions_seen_in all ds ps.1)

  pub conditions_seen : (f : Drawing) → IsDrawn f → conditions_see (tables f.drawn) (map from_item f.drawn) ≡ true
  conditions_seen f is = conditions_seen_in (tables f.drawn) f.drawn is.conditions

-- What a query means depends on what it names alone.
use Rattle.std.proofs.Common.{◌≡◌, ℕ, Bool, true, false, not, ◌&&◌, ◌||◌, cond, List, [], ◌∷◌, ◌++◌, map, Option, None, Some, Result, Ok, Err, refl, sym, ap, ◌∙◌, subst}
use Rattle.std.specs.List.{AllByRecursion, filter, flat_map, list_any}
use Rattle.std.specs.Option.{is_some, option_map}
use Rattle.std.specs.Ordering.{is_eq}
use Rattle.mesh_list.specs.Keyed.{found}
use Rattle.mesh_base_values.specs.Kinds.{time_column}
use Rattle.mesh_base_values.specs.Names.{name_cmp}
use Rattle.mesh_base_values.specs.declared.kinds.Kind.{Kind}
use Rattle.mesh_base_values.specs.declared.values.Column.{Column}
use Rattle.mesh_base_values.specs.declared.values.Name.{Name}
use Rattle.mesh_base_values.specs.declared.values.Seed.{Seed}
use Rattle.mesh_base_values.proofs.Equals.{name_is}
use Rattle.mesh_base.specs.Keys.{input_name}
use Rattle.mesh_base.specs.Outputs.{select_columns}
use Rattle.mesh_base.specs.declared.definitions.Decl.{Decl}
use Rattle.mesh_base.specs.declared.definitions.Defn.TheVariants as body
use Rattle.mesh_base.specs.declared.jobs.Input.{Input}
use Rattle.mesh_base.specs.declared.queries.Join.{Join}
use Rattle.mesh_base.specs.declared.queries.Join.TheVariants as join
use Rattle.mesh_base.specs.declared.queries.Query.{Query}
use Rattle.mesh_base.specs.declared.queries.Select.{Select}
use Rattle.mesh_base.specs.rules.Proper.{defn_names, is_among}
use Rattle.mesh_model_statement.specs.declared.model.model.ModelText.{ModelText}
use Rattle.mesh_query_grammar.specs.declared.surface.expressions.OrExpr.{OrExpr}
use Rattle.mesh_query_grammar.specs.declared.surface.queries.Surface.{Surface}
use Rattle.mesh_query_grammar.specs.declared.surface.queries.SurfaceCte.{SurfaceCte}
use Rattle.mesh_query_grammar.specs.declared.surface.queries.SurfaceFrom.{SurfaceFrom}
use Rattle.mesh_query_grammar.specs.declared.surface.queries.SurfaceJoin.{SurfaceJoin}
use Rattle.mesh_query_grammar.specs.declared.surface.queries.SurfaceJoin.TheVariants as written
use Rattle.mesh_query_grammar.specs.declared.surface.queries.SurfaceRel.{SurfaceRel}
use Rattle.mesh_query_grammar.specs.declared.surface.queries.SurfaceSelect.{SurfaceSelect}
use Rattle.mesh_query_grammar.specs.declared.surface.queries.SurfaceUnion.{SurfaceUnion}
use Rattle.mesh_query_tokens.specs.Gives.{◌>>=◌}
use Rattle.mesh_query_tokens.specs.Walk.{along, provided}
use Rattle.mesh_query_tokens.specs.declared.faults.ReadFault.{ReadFault}
use Rattle.mesh_resolve_types.specs.Faults.{duplicate}
use Rattle.mesh_resolve.specs.declared.drawn.Drawing.{Drawing}
use Rattle.mesh_resolve_selects.specs.declared.outputs.commons.Common.{Common}
use Rattle.mesh_resolve.specs.declared.known.Known.{Known}
use Rattle.mesh_resolve_selects.specs.outputs.Keys.{keys}
use Rattle.mesh_resolve_selects.specs.outputs.Outputs.{items}
use Rattle.mesh_resolve.specs.Owns.{Behind, as_declared, body_of, in_order, is_read, own, query_body, sources_read, timed, with_body}
use Rattle.mesh_resolve_selects.specs.outputs.Commons.{is_cte, selects_of}
use Rattle.mesh_resolve_selects.specs.outputs.Sides.{with_sides_alike}
use Rattle.mesh_resolve.specs.Queries.{cte, one_select, resolved, selects}
use Rattle.mesh_resolve.specs.Relations.{columns_named, condition, conditional, dotted, drawing, drawn_from, found_relation, joined, model_columns, nothing_drawn, or_else, or_unknown, relation, relation_by, seeing_relation, source_columns, unconditional}
use Rattle.mesh_resolve_selects.specs.selects.Standing.{is_grouped}
use Rattle.mesh_resolve.specs.Selects.{resolved_as, right_keys, select, some_condition, walked}
use Rattle.mesh_project.specs.nodes.Reads.{cte_reads, from_reads, join_reads, of_two_parts, query_reads, rel_reads, select_reads, text_reads, union_reads}
use Rattle.mesh_project.proofs.nodes.Agree.{names_agree}

module _ {X : Type 0} (P : X → Type 0) where
  all_left : (xs ys : List X) → AllByRecursion P (xs ++ ys) → AllByRecursion P xs
  all_left [] ys all = tt
  all_left (x ∷ xs) ys all = (all.0, all_left xs ys all.1)

  all_right : (xs ys : List X) → AllByRecursion P (xs ++ ys) → AllByRecursion P ys
  all_right [] ys all = all
  all_right (x ∷ xs) ys all = all_right xs ys all.1

-- two walks whose steps are the same wherever names mean the same
along_same : {S A : Type 0} (step other : S → A → Result S ReadFault) (names : A → List Name) (P : Name → Type 0) → ((s : S) (x : A) → AllByRecursion P (names x) → step s x ≡ other s x)
    → (xs : List A) (s : S) → AllByRecursion P (flat_map names xs) → along step s xs ≡ along other s xs
unfolding along
along_same step other names P same [] s all = refl
along_same {S} step other names P same (x ∷ xs) s all =
    ap (λ r. r >>= λ n. along step n xs) (same s x (all_left P (names x) (flat_map names xs) all))
    ∙ by_next (other s x) (λ n. along_same step other names P same xs n (all_right P (names x) (flat_map names xs) all))
  where
    by_next : (r : Result S ReadFault) → ((n : S) → along step n xs ≡ along other n xs) → (r >>= λ n. along step n xs) ≡ (r >>= λ n. along other n xs)
    by_next (Ok n) more = more n
    by_next (Err e) more = refl

bind_same : {A B : Type 0} (r : Result A ReadFault) (f g : A → Result B ReadFault) → ((x : A) → f x ≡ g x) → (r >>= f) ≡ (r >>= g)
bind_same (Ok x) f g same = same x
bind_same (Err e) f g same = refl

module _ (a b : Known) (macros : a.macros ≡ b.macros) where
  -- a name means the same by both
  abbrev pub Same : Name → Type 0
  Same name = columns_named a name ≡ columns_named b name

  module _ (ctes : List Common) where
    parts_same : (at : ℕ) (schema : Option (List ℕ)) (name : List ℕ) → AllByRecursion Same (of_two_parts schema name) → relation_by a ctes at schema name ≡ relation_by b ctes at schema name
    parts_same at None name all = refl
    parts_same at (Some schema) name all = let full : Name = record { schema = schema; model = name } in ap (λ o. or_unknown at (dotted schema name) (option_map (found_relation full) o)) all.0

    relation_same : (r : SurfaceRel) → AllByRecursion Same (rel_reads r) → relation a ctes r ≡ relation b ctes r
    unfolding relation
    relation_same r all = parts_same r.at r.schema r.name all

    plain_same : (f : Drawing) (j : Join) (r : SurfaceRel) → AllByRecursion Same (rel_reads r) → unconditional a ctes f j r ≡ unconditional b ctes f j r
    plain_same f j r all = ap (λ x. x >>= λ found. Ok (drawing f j r found None)) (relation_same r all)

    on_same : (f : Drawing) (j : Join) (r : SurfaceRel) (on : OrExpr) → AllByRecursion Same (rel_reads r) → conditional a ctes f j r on ≡ conditional b ctes f j r on
    on_same f j r on all = ap (λ x. x >>= λ found. condition (seeing_relation f.sight r found) on >>= λ t. Ok (drawing f j r found (Some t))) (relation_same r all)

    join_same : (f : Drawing) (j : SurfaceJoin) → AllByRecursion Same (join_reads j) → joined a ctes f j ≡ joined b ctes f j
    join_same f (written.Comma at r) all = plain_same f join.Cross r all
    join_same f (written.Cross at r) all = plain_same f join.Cross r all
    join_same f (written.Inner at r on) all = on_same f join.Inner r on all
    join_same f (written.Left at r on) all = on_same f join.Left r on all

    nothing_same : nothing_drawn a ≡ nothing_drawn b
    nothing_same = ap (λ m. nothing_drawn (record a { macros = m })) macros

    from_same : (from : Option SurfaceFrom) → AllByRecursion Same (from_reads from) → drawn_from a ctes from ≡ drawn_from b ctes from
    unfolding drawn_from
    from_same None all = ap (λ n. Ok n) nothing_same
    from_same (Some from) all =
        ap (λ n. unconditional a ctes n join.First from.first >>= λ first. along (joined a ctes) first from.joins) nothing_same
        ∙ ap (λ x. x >>= λ first. along (joined a ctes) first from.joins) (plain_same (nothing_drawn b) join.First from.first (all_left Same (rel_reads from.first) (flat_map join_reads from.joins) all))
        ∙ bind_same (unconditional b ctes (nothing_drawn b) join.First from.first) (λ first. along (joined a ctes) first from.joins) (λ first. along (joined b ctes) first from.joins)
        (λ first. along_same (joined a ctes) (joined b ctes) join_reads Same join_same from.joins first (all_right Same (rel_reads from.first) (flat_map join_reads from.joins) all))

    walk_same : (s : SurfaceSelect) → AllByRecursion Same (select_reads s) → walked a ctes s ≡ walked b ctes s
    unfolding walked
    walk_same s all = ap (λ x. x >>= λ from. some_condition from.sight s.filter >>= λ filter. items from.sight s.items >>= λ outputs. keys from.sight outputs s.keys >>= λ keys.
        some_condition from.sight s.having >>= λ having. Ok (record { from = from.drawn; filter = filter; outputs = outputs; keys = keys; having = having })) (from_same s.from all)

    select_same : (s : SurfaceSelect) → AllByRecursion Same (select_reads s) → select a ctes s ≡ select b ctes s
    unfolding select
    select_same s all = ap (λ x. x >>= λ w. right_keys w >>= λ keys. Ok (resolved_as s.distinct (is_grouped w) keys w)) (walk_same s all)

    one_same : (done : List Select) (s : SurfaceSelect) → AllByRecursion Same (select_reads s) → one_select a ctes done s ≡ one_select b ctes done s
    one_same done s all = ap (λ x. x >>= λ r. Ok (done ++ r ∷ [])) (select_same s all)

    union_same : (u : SurfaceUnion) → AllByRecursion Same (union_reads u) → selects a ctes u ≡ selects b ctes u
    unfolding selects
    union_same u all = along_same (one_select a ctes) (one_select b ctes) select_reads Same one_same u.selects [] all

  cte_same : (done : List Common) (c : SurfaceCte) → AllByRecursion Same (cte_reads c) → cte a done c ≡ cte b done c
  cte_same done c all =
      ap (λ x. x >>= λ body. provided (not (list_any (is_cte c.name) done)) (done ++ (record { name = c.name; selects = body }) ∷ []) (duplicate c.at c.name)) (union_same done c.body all)

  pub query_same : (q : Surface) → AllByRecursion Same (query_reads q) → resolved a q ≡ resolved b q
  unfolding resolved
  query_same q all =
      ap (λ x. x >>= λ ctes. selects a ctes q.body >>= λ body. with_sides_alike (map selects_of ctes) body) (along_same (cte a) (cte b) cte_reads Same cte_same q.ctes [] (all_left Same (flat_map cte_reads q.ctes) (union_reads q.body) all))
      ∙ bind_same (along (cte b) [] q.ctes) (λ ctes. selects a ctes q.body >>= λ body. with_sides_alike (map selects_of ctes) body) (λ ctes. selects b ctes q.body >>= λ body. with_sides_alike (map selects_of ctes) body)
      (λ ctes. ap (λ x. x >>= λ body. with_sides_alike (map selects_of ctes) body) (union_same ctes q.body (all_right Same (flat_map cte_reads q.ctes) (union_reads q.body) all)))

-- the sources that a query reads, where the models of its names are the same
module _ (a b : Known) (sources : a.sources ≡ b.sources) where
  abbrev pub Alike : Name → Type 0
  Alike name = found name_cmp input_name name a.models ≡ found name_cmp input_name name b.models

  of_any : (P : Name → Type 0) (names : List Name) → AllByRecursion P names → (name : Name) → is_among names name ≡ true → P name
  of_any P [] all name among = absurd (cc)
  of_any P (n ∷ ns) all name among = by_first (is_eq (name_cmp n name)) refl (λ h. of_any P ns all.1 name h) among
    where
      by_first : (t : Bool) → is_eq (name_cmp n name) ≡ t → (is_among ns name ≡ true → P name) → (t || is_among ns name) ≡ true → P name
      by_first true e more h = subst P (name_is n name e) all.0
      by_first false e more h = more h

  read_same : (names : List Name) → AllByRecursion Alike names → (d : Decl) → is_read a names d ≡ is_read b names d
  read_same names all d = by_test (is_among names d.name) (λ h. of_any Alike names all d.name h) refl
    where
      by_test : (t : Bool) → (is_among names d.name ≡ true → Alike d.name) → is_among names d.name ≡ t
          → (is_among names d.name && not (is_some (found name_cmp input_name d.name a.models))) ≡ (is_among names d.name && not (is_some (found name_cmp input_name d.name b.models)))
      by_test true same e = ap (λ o. is_among names d.name && not (is_some o)) (same e)
      by_test false same e = ap (λ (t : Bool). t && not (is_some (found name_cmp input_name d.name a.models))) e ∙ ap (λ (t : Bool). t && not (is_some (found name_cmp input_name d.name b.models))) (sym e)

  filter_same : (p q : Decl → Bool) → ((d : Decl) → p d ≡ q d) → (ds : List Decl) → filter p ds ≡ filter q ds
  filter_same p q same [] = refl
  filter_same p q same (d ∷ ds) = ap (λ (t : Bool). cond t (d ∷ filter p ds) (filter p ds)) (same d) ∙ ap (λ l. cond (q d) (d ∷ l) l) (filter_same p q same ds)

  pub sources_same : (query : Query) → AllByRecursion Alike (defn_names (body.Sql query)) → sources_read a query ≡ sources_read b query
  unfolding sources_read
  sources_same query all =
      ap in_order (filter_same (is_read a (defn_names (body.Sql query))) (is_read b (defn_names (body.Sql query))) (read_same (defn_names (body.Sql query)) all) a.sources
      ∙ ap (filter (is_read b (defn_names (body.Sql query)))) sources)

-- what is known is the same but for models that aren't named
module _ (a b : Known) (macros : a.macros ≡ b.macros) (sources : a.sources ≡ b.sources) where
  columns_same : (name : Name) → Alike a b sources name → columns_named a name ≡ columns_named b name
  columns_same name alike =
      ap (λ (o : Option Input). or_else (option_map (λ (m : Input). m.columns) o) (source_columns a.sources name)) alike
      ∙ ap (λ ss. or_else (model_columns b.models name) (source_columns ss name)) sources

  each_same : (names : List Name) → AllByRecursion (Alike a b sources) names → AllByRecursion (Same a b macros) names
  each_same [] all = tt
  each_same (n ∷ ns) all = (columns_same n all.0, each_same ns all.1)

  -- what stands behind a query that is resolved, with the sources that it reads
  abbrev looked_at : Kind → List Column → List Decl → Query → Result Behind ReadFault
  looked_at kind declared ss query = timed (time_column kind) (select_columns query.selects) >>= λ t. as_declared declared (select_columns query.selects) >>= λ s. Ok (body.Sql query, ss)

  body_same : (kind : Kind) (declared : List Column) (q : Surface) → AllByRecursion (Alike a b sources) (query_reads q) → query_body a kind declared q ≡ query_body b kind declared q
  unfolding query_body
  body_same kind declared q all =
      ap (λ r. r >>= λ query. looked_at kind declared (sources_read a query) query) (query_same a b macros q (each_same (query_reads q) all)) ∙ by_query (resolved b q) refl
    where
      by_query : (r : Result Query ReadFault) → resolved b q ≡ r → (r >>= λ query. looked_at kind declared (sources_read a query) query) ≡ (r >>= λ query. looked_at kind declared (sources_read b query) query)
      by_query (Ok query) e =
          ap (λ (ss : List Decl). looked_at kind declared ss query) (sources_same a b sources query (subst (AllByRecursion (Alike a b sources)) (sym (names_agree b q query e)) all))
      by_query (Err f) e = refl

  behind_same : (kind : Kind) (declared : List Column) (seed : Option Seed) (q : Option Surface) → AllByRecursion (Alike a b sources) (text_reads q) → body_of a kind declared seed q ≡ body_of b kind declared seed q
  behind_same kind declared (Some s) q all = refl
  behind_same kind declared None (Some q) all = body_same kind declared q all
  behind_same kind declared None None all = refl

  pub own_same : (m : ModelText) (seed : Option Seed) → AllByRecursion (Alike a b sources) (text_reads m.query) → own m seed a ≡ own m seed b
  unfolding own
  own_same m seed all = ap (λ r. r >>= λ x. Ok (with_body m x)) (behind_same m.kind m.columns seed m.query all)

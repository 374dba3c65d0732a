-- The own definition of a model is well formed.
use Rattle.std.proofs.Common.{◌≡◌, ℕ, ℤ, Bool, true, false, ◌&&◌, ◌||◌, not, List, [], ◌∷◌, Option, Some, None, Ok, refl, sym, ap, ◌∙◌}
use Rattle.std.specs.List.{AllByRecursion, list_all, list_any}
use Rattle.std.specs.Option.{is_some}
use Rattle.std.proofs.lemmas.Bool.{or_right as or_true, or_left as true_or, and_from as and_both}
use Rattle.mesh_list.proofs.Ascends.{and_left}
use Rattle.mesh_base_values.specs.Kinds.{is_incremental, time_column}
use Rattle.mesh_base_values.specs.Picked.{same_text}
use Rattle.mesh_base_values.specs.Types.{same_type}
use Rattle.mesh_base_values.specs.declared.kinds.Kind.{Kind}
use Rattle.mesh_base_values.specs.declared.kinds.Kind.TheVariants.{Full, View, Seed as SeedKind, Incremental}
use Rattle.mesh_base_values.specs.declared.values.ColType.TheVariants.{Bool as Truth}
use Rattle.mesh_base_values.specs.declared.values.Column.{Column}
use Rattle.mesh_base_values.specs.declared.values.Seed.{Seed}
use Rattle.mesh_base.specs.Outputs.{defn_columns, select_columns}
use Rattle.mesh_base.specs.declared.definitions.Defn.TheVariants as body
use Rattle.mesh_base.specs.declared.definitions.Own.{Own}
use Rattle.mesh_base.specs.declared.queries.Query.{Query}
use Rattle.mesh_base.specs.declared.queries.Select.{Select}
use Rattle.mesh_base.specs.declared.rules.relations.Parent.{Parent}
use Rattle.mesh_base.specs.rules.Proper.{are_its_parents, defn_names, has_its_time, is_among, is_body_of, is_body_seen, is_well_formed}
use Rattle.mesh_base.specs.rules.Relations.{read_relations}
use Rattle.mesh_base.specs.rules.Seen.{are_distinct, has_column}
use Rattle.mesh_model_statement.specs.declared.model.model.ModelText.{ModelText}
use Rattle.mesh_query_grammar.specs.declared.surface.queries.Surface.{Surface}
use Rattle.mesh_resolve_types.specs.Faults.{no_time_column, unwritten}
use Rattle.mesh_resolve.specs.declared.known.Known.{Known}
use Rattle.mesh_resolve.specs.Owns.{Behind, as_declared, body_of, is_seed, keeps_time, own, query_body, sources_read, timed, with_body}
use Rattle.mesh_resolve.specs.Queries.{resolved}
use Rattle.mesh_law_reading.specs.Each.{HasDistinctNames}
use Rattle.mesh_law_reading.specs.Formed.{AreParentsAmong, IsReadModel}
use Rattle.mesh_law_reading.proofs.Distinct.{distinct_names}
use Rattle.mesh_law_reading.proofs.Good.{Good, given, provided_good, refused, then_good}
use Rattle.mesh_law_reading.proofs.Insight.{resolved_seen}
use Rattle.mesh_law_reading.proofs.Origins.{names_known, parents_named, seen_of_read}

-- a column that keeps time is a column of its name
time_there : (time : List ℕ) (columns : List Column) → list_any (keeps_time time) columns ≡ true → has_column columns time ≡ true
time_there time [] e = e
time_there time (c ∷ cs) e = by_first (keeps_time time c) refl e (time_there time cs)
  where
    by_first : (b : Bool) → keeps_time time c ≡ b → (b || list_any (keeps_time time) cs) ≡ true → (list_any (keeps_time time) cs ≡ true → has_column cs time ≡ true) → has_column (c ∷ cs) time ≡ true
    by_first true is some more = true_or (same_text c.name time) (has_column cs time) (and_left (same_text c.name time) (not (same_type Truth c.kind)) is)
    by_first false is some more = or_true (same_text c.name time) (has_column cs time) (more some)

-- the columns of the first SELECT
first_distinct : (ss : List Select) → AllByRecursion HasDistinctNames ss → are_distinct (select_columns ss) ≡ true
first_distinct [] all = refl
first_distinct (s ∷ ss) all = all.0

module _ (m : ModelText) (seed : Option Seed) (known : Known) (is : IsReadModel m seed) where
  -- what is asked of a body, with the sources that it reads
  record IsRight (b : Behind) : Type 0 where
    of_kind : is_body_of m.kind b.0 ≡ true
    timely : has_its_time m.kind m.start (defn_columns b.0) ≡ true
    distinct : are_distinct (defn_columns b.0) ≡ true
    seen : (parents : List Parent) → AreParentsAmong known (defn_names b.0) parents → is_body_seen (read_relations b.1 parents) b.0 ≡ true
    parents : (parents : List Parent) → AreParentsAmong known (defn_names b.0) parents → are_its_parents parents (with_body m b) ≡ true

  -- rows
  rows_of_seed : (kind : Kind) (s : Seed) → is_seed kind ≡ true → is_body_of kind (body.Seed s.columns s.rows) ≡ true
  rows_of_seed Full s e = e
  rows_of_seed View s e = e
  rows_of_seed SeedKind s e = refl
  rows_of_seed (Incremental time lookback) s e = e

  seed_timeless : (kind : Kind) (start : Option ℤ) (columns : List Column) → is_seed kind ≡ true → has_its_time kind start columns ≡ true
  seed_timeless Full start columns e = refl
  seed_timeless View start columns e = refl
  seed_timeless SeedKind start columns e = refl
  seed_timeless (Incremental time lookback) start columns e = absurd (cc)

  no_parents : (parents : List Parent) → AllByRecursion (λ (p : Parent). is_among [] p.name ≡ true) parents → list_all (λ (p : Parent). is_among [] p.name && true) parents ≡ true
  no_parents [] all = refl
  no_parents (p ∷ ps) all = absurd (let clash : false ≡ true = all.0 in cc)

  seed_right : (s : Seed) → is_some seed ≡ true → are_distinct s.columns ≡ true → IsRight (body.Seed s.columns s.rows, [])
  seed_right s there apart = record {
    of_kind = rows_of_seed m.kind s (sym is.seeded ∙ there);
    timely = seed_timeless m.kind m.start s.columns (sym is.seeded ∙ there);
    distinct = apart;
    seen = λ parents are. refl;
    parents = λ parents are. and_both _ _ are.ascend (and_both _ _ (no_parents parents are.named) refl);
  }

  -- a query
  query_of : (kind : Kind) (query : Query) → not (is_seed kind) ≡ true → is_body_of kind (body.Sql query) ≡ true
  query_of Full query e = refl
  query_of View query e = refl
  query_of SeedKind query e = e
  query_of (Incremental time lookback) query e = refl

  timed_right : (kind : Kind) (columns : List Column) → (is_incremental kind ≡ true → is_some m.start ≡ true) → Good (λ u. has_its_time kind m.start columns ≡ true) (timed (time_column kind) columns)
  timed_right Full columns start = λ u e. refl
  timed_right View columns start = λ u e. refl
  timed_right SeedKind columns start = λ u e. refl
  timed_right (Incremental time lookback) columns start =
      provided_good (λ u. has_its_time (Incremental time lookback) m.start columns ≡ true) (list_any (keeps_time time) columns) tt (no_time_column time)
      (λ some. and_both (is_some m.start) (has_column columns time) (start refl) (time_there time columns some))

  query_right : (q : Surface) → not (is_seed m.kind) ≡ true → Good IsRight (query_body known m.kind m.columns q)
  unfolding query_body
  query_right q of_query =
      then_good (λ query. resolved known q ≡ Ok query) IsRight (resolved known q) _ (λ query e. e)
      (λ query e. then_good (λ u. has_its_time m.kind m.start (select_columns query.selects) ≡ true) IsRight (timed (time_column m.kind) (select_columns query.selects)) _ (timed_right m.kind (select_columns query.selects) is.start)
      (λ u timely. then_good (λ u. Unit {0}) IsRight (as_declared m.columns (select_columns query.selects)) (λ u. Ok (body.Sql query, sources_read known query)) (λ u e. tt)
      (λ u same. given IsRight (body.Sql query, sources_read known query) (record {
        of_kind = query_of m.kind query of_query;
        timely = timely;
        distinct = first_distinct query.selects (distinct_names known q query e).1;
        seen = λ parents are. seen_of_read known query parents are (resolved_seen known q query e);
        parents = λ parents are. and_both _ _ are.ascend (and_both _ _ (parents_named known query parents are (resolved_seen known q query e)) (names_known known query parents are (resolved_seen known q query e)));
      }))))

  body_right : (s : Option Seed) (q : Option Surface) → seed ≡ s → m.query ≡ q → Good IsRight (body_of known m.kind m.columns s q)
  body_right (Some s) q e f = given IsRight (body.Seed s.columns s.rows, []) (seed_right s (ap is_some e) (is.distinct s e))
  body_right None (Some q) e f = query_right q (sym is.written ∙ ap is_some f)
  body_right None None e f = refused IsRight (unwritten 0)

  formed : (b : Behind) → IsRight b → (parents : List Parent) → AreParentsAmong known (defn_names b.0) parents → is_well_formed parents (with_body m b) ≡ true
  formed b right parents are =
      and_both _ _ is.schema (and_both _ _ right.of_kind (and_both _ _ is.cron (and_both _ _ right.timely (and_both _ _ right.distinct (and_both _ _ (right.seen parents are) (right.parents parents are))))))

  own_right : Good (λ (o : Own). (parents : List Parent) → AreParentsAmong known (defn_names o.defn) parents → is_well_formed parents o ≡ true) (own m seed known)
  unfolding own
  own_right =
      then_good IsRight (λ (o : Own). (parents : List Parent) → AreParentsAmong known (defn_names o.defn) parents → is_well_formed parents o ≡ true) (body_of known m.kind m.columns seed m.query) (λ b. Ok (with_body m b))
      (body_right seed m.query refl refl)
      (λ b right. given (λ (o : Own). (parents : List Parent) → AreParentsAmong known (defn_names o.defn) parents → is_well_formed parents o ≡ true) (with_body m b) (formed b right))

pub well_formed : (m : ModelText) (seed : Option Seed) (known : Known) (definition : Own) (parents : List Parent)
    → IsReadModel m seed → own m seed known ≡ Ok definition → AreParentsAmong known (defn_names definition.defn) parents → is_well_formed parents definition ≡ true
well_formed m seed known definition parents is e are = own_right m seed known is definition e parents are

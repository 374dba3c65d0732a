-- The rows of a model fit its columns.
use Rattle.std.proofs.Common.{◌≡◌, Bool, true, false, cond, Option, Some, None, Ok, List, [], ◌∷◌, refl, subst}
use Rattle.std.specs.List.{All, AllByRecursion as Each, flat_map}
use Rattle.std.specs.Option.{ForSome}
use Rattle.std.proofs.lemmas.List.Elements.{All-from_recursion, recursion_from_All}
use Rattle.mesh_base_values.specs.declared.kinds.Kind.{Kind}
use Rattle.mesh_base_values.specs.declared.times.Bounds.{Bounds}
use Rattle.mesh_base_values.specs.declared.values.Column.{Column}
use Rattle.mesh_base_values.specs.declared.values.Seed.{Seed}
use Rattle.mesh_base_values.specs.Kinds.{is_incremental, time_column}
use Rattle.mesh_base.specs.declared.definitions.Defn.TheVariants as body
use Rattle.mesh_base.specs.declared.definitions.Own.{Own}
use Rattle.mesh_base.specs.declared.jobs.Input.{Input}
use Rattle.mesh_base.specs.Outputs.{columns_of, defn_columns, select_columns}
use Rattle.mesh_query_grammar.specs.declared.surface.queries.Surface.{Surface}
use Rattle.mesh_query_tokens.specs.Gives.{◌>>=◌}
use Rattle.mesh_model_statement.specs.declared.model.model.ModelText.{ModelText}
use Rattle.mesh_model_csv.specs.seeds.Fits.{fits}
use Rattle.mesh_spec_model.specs.Scratch.{defn_rows, is_of_unit, no_bounds, piece_over, rows_over, table_of}
use Rattle.mesh_resolve.specs.declared.known.Known.{Known}
use Rattle.mesh_resolve.specs.Owns.{Behind, as_declared, body_of, own, query_body, sources_read, timed, with_body}
use Rattle.mesh_resolve.specs.Queries.{resolved}
use Rattle.mesh_law_reading.specs.Typed.{Fills, Suits}
use Rattle.mesh_law_reading.proofs.TypingForms.{passed, same_ok}
use Rattle.mesh_law_reading.proofs.TypingLists.{each_filter, each_flat_map}
use Rattle.mesh_law_reading.proofs.TypingQueries.{rows_fit}

module _ (known : Known) (inputs : List Input) (suits : Suits known inputs) where
  abbrev BodyFits : Behind → Type 0
  BodyFits b = (u : Bounds) → Each (λ row. fits (defn_columns b.0) row ≡ true) (defn_rows b.0 inputs u)

  query_fits : (kind : Kind) (declared : List Column) (q : Surface) (b : Behind) → query_body known kind declared q ≡ Ok b → BodyFits b
  unfolding query_body
  query_fits kind declared q b e =
      let (query, found, e1) = passed (resolved known q)
      (λ query. timed (time_column kind) (select_columns query.selects) >>= λ timed. as_declared declared (select_columns query.selects) >>= λ same. Ok
      (body.Sql query, sources_read known query)) b e in
      let (t, _, e2) = passed (timed (time_column kind) (select_columns query.selects))
      (λ timed. as_declared declared (select_columns query.selects) >>= λ same. Ok (body.Sql query, sources_read known query)) b e1 in
      let (s, _, e3) = passed (as_declared declared (select_columns query.selects)) (λ same. Ok (body.Sql query, sources_read known query)) b e2 in
      subst BodyFits (same_ok (body.Sql query, sources_read known query) b e3)
      (λ u. recursion_from_All (λ row. fits (select_columns query.selects) row ≡ true) (defn_rows (body.Sql query) inputs u) (rows_fit known q query inputs u found suits))

  body_fits : (kind : Kind) (declared : List Column) (seed : Option Seed) (q : Option Surface) (b : Behind)
      → ForSome seed (λ (s : Seed). All (λ row. fits s.columns row ≡ true) s.rows) → body_of known kind declared seed q ≡ Ok b → BodyFits b
  body_fits kind declared (Some seed) q b h e =
      subst BodyFits (same_ok (body.Seed seed.columns seed.rows, []) b e) (λ u. recursion_from_All (λ row. fits seed.columns row ≡ true) seed.rows (h seed refl))
  body_fits kind declared None (Some q) b h e = query_fits kind declared q b e
  body_fits kind declared None None b h e = absurd (cc)

  OwnFits : Own → Type 0
  OwnFits o = (u : Bounds) → Each (λ row. fits (columns_of o) row ≡ true) (defn_rows o.defn inputs u)

  all_units : (us : List Bounds) → Each (λ (u : Bounds). Unit {0}) us
  all_units [] = tt
  all_units (u ∷ us) = (tt, all_units us)

  rows_over_fit : (o : Own) → OwnFits o → (units : List Bounds) → Each (λ row. fits (columns_of o) row ≡ true) (rows_over o inputs units)
  unfolding OwnFits
  rows_over_fit o h units = go (is_incremental o.kind)
    where
      go : (b : Bool) → Each (λ row. fits (columns_of o) row ≡ true) (cond b (flat_map (piece_over o inputs) units) (defn_rows o.defn inputs no_bounds))
      go true =
          each_flat_map (λ (u : Bounds). Unit {0}) (λ row. fits (columns_of o) row ≡ true) (piece_over o inputs)
          (λ u _. each_filter (λ row. fits (columns_of o) row ≡ true) (is_of_unit o u) (defn_rows o.defn inputs u) (h u)) units (all_units units)
      go false = h no_bounds

  own_fits : (m : ModelText) (seed : Option Seed) (o : Own) → ForSome seed (λ (s : Seed). All (λ row. fits s.columns row ≡ true) s.rows) → own m seed known ≡ Ok o → OwnFits o
  unfolding own OwnFits
  own_fits m seed o h e =
      let (b, found, made) = passed (body_of known m.kind m.columns seed m.query) (λ b. Ok (with_body m b)) o e in
      subst (λ (o : Own). (u : Bounds) → Each (λ row. fits (columns_of o) row ≡ true) (defn_rows o.defn inputs u)) (same_ok (with_body m b) o made)
      (body_fits m.kind m.columns seed m.query b h found)

-- the table of a model is as its columns say
pub model_fills : (m : ModelText) (seed : Option Seed) (known : Known) (o : Own) (inputs : List Input) (units : List Bounds) → own m seed known ≡ Ok o → Suits known inputs
    → ForSome seed (λ (s : Seed). All (λ row. fits s.columns row ≡ true) s.rows) → Fills (columns_of o) (table_of o (rows_over o inputs units))
model_fills m seed known o inputs units e suits h = (
  refl,
  All-from_recursion (λ row. fits (columns_of o) row ≡ true) (rows_over o inputs units)
      (rows_over_fit known inputs suits o (own_fits known inputs suits m seed o h e) units),
)

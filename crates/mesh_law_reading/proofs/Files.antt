-- What a definition has of its file, and its sources in their order.
use Rattle.std.proofs.Common.{◌≡◌, true, List, [], ◌∷◌, Option, Some, None, Ok, refl}
use Rattle.std.specs.List.{filter}
use Rattle.mesh_list.specs.Keyed.{ascends}
use Rattle.mesh_list.proofs.Ascends.{ascends-placed}
use Rattle.mesh_base_values.specs.NameOrder.{names_total}
use Rattle.mesh_base_values.specs.Names.{name_cmp}
use Rattle.mesh_base_values.specs.Kinds.{time_column}
use Rattle.mesh_base_values.specs.declared.values.Seed.{Seed}
use Rattle.mesh_base.specs.Outputs.{columns_of, defn_columns, select_columns}
use Rattle.mesh_base.specs.declared.definitions.Decl.{Decl}
use Rattle.mesh_base.specs.declared.definitions.Defn.TheVariants as body
use Rattle.mesh_base.specs.declared.definitions.Own.{Own}
use Rattle.mesh_base.specs.declared.queries.Query.{Query}
use Rattle.mesh_base.specs.rules.Proper.{defn_names}
use Rattle.mesh_model_statement.specs.declared.model.model.ModelText.{ModelText}
use Rattle.mesh_query_grammar.specs.declared.surface.queries.Surface.{Surface}
use Rattle.mesh_resolve_types.specs.Faults.{unwritten}
use Rattle.mesh_resolve.specs.Owns.{Behind, as_declared, body_of, in_order, is_read, own, query_body, sources_read, timed, with_body}
use Rattle.mesh_resolve.specs.Queries.{resolved}
use Rattle.mesh_resolve.specs.Relations.{decl_name}
use Rattle.mesh_resolve.specs.declared.known.Known.{Known}
use Rattle.mesh_law_reading.specs.Formed.{SaysAsItsFile}
use Rattle.mesh_law_reading.proofs.Good.{Good, given, refused, then_good}

ascending : (ds : List Decl) → ascends name_cmp decl_name (in_order ds) ≡ true
ascending [] = refl
ascending (d ∷ ds) = ascends-placed name_cmp names_total decl_name d (in_order ds) (ascending ds)

read_ascending : (known : Known) (query : Query) → ascends name_cmp decl_name (sources_read known query) ≡ true
unfolding sources_read
read_ascending known query = ascending (filter (is_read known (defn_names (body.Sql query))) known.sources)

module _ (m : ModelText) (known : Known) where
  -- the sources ascend, and a query has the columns that the file declares
  abbrev IsRight : Option Seed → Behind → Type 0
  IsRight seed b = (ascends name_cmp decl_name b.1 ≡ true) × (seed ≡ None → as_declared m.columns (defn_columns b.0) ≡ Ok tt)

  query_right : (seed : Option Seed) (q : Surface) → Good (IsRight seed) (query_body known m.kind m.columns q)
  unfolding query_body
  query_right seed q =
      then_good (λ query. Unit {0}) (IsRight seed) (resolved known q) _ (λ query e. tt)
      (λ query k. then_good (λ u. Unit {0}) (IsRight seed) (timed (time_column m.kind) (select_columns query.selects)) _ (λ u e. tt)
      (λ u k. then_good (λ u. as_declared m.columns (select_columns query.selects) ≡ Ok tt) (IsRight seed) (as_declared m.columns (select_columns query.selects)) (λ u. Ok (body.Sql query, sources_read known query)) (λ u e. e)
      (λ u same. given (IsRight seed) (body.Sql query, sources_read known query) (read_ascending known query, λ none. same))))

  body_right : (seed : Option Seed) (q : Option Surface) → Good (IsRight seed) (body_of known m.kind m.columns seed q)
  body_right (Some s) q = given (IsRight (Some s)) (body.Seed s.columns s.rows, []) (refl, λ none. absurd (cc))
  body_right None (Some q) = query_right None q
  body_right None None = refused (IsRight None) (unwritten 0)

  own_right : (seed : Option Seed) → Good (λ (o : Own). SaysAsItsFile m o × IsRight seed (o.defn, o.sources)) (own m seed known)
  unfolding own
  own_right seed =
      then_good (IsRight seed) (λ (o : Own). SaysAsItsFile m o × IsRight seed (o.defn, o.sources)) (body_of known m.kind m.columns seed m.query) (λ b. Ok (with_body m b)) (body_right seed m.query)
      (λ b right. given (λ (o : Own). SaysAsItsFile m o × IsRight seed (o.defn, o.sources)) (with_body m b) (record { name = refl; kind = refl; cron = refl; unit = refl; start = refl }, right))

pub as_file : (m : ModelText) (seed : Option Seed) (known : Known) (definition : Own) → own m seed known ≡ Ok definition → SaysAsItsFile m definition
as_file m seed known definition e = (own_right m known seed definition e).0

pub sources_ascend : (m : ModelText) (seed : Option Seed) (known : Known) (definition : Own) → own m seed known ≡ Ok definition → ascends name_cmp decl_name definition.sources ≡ true
sources_ascend m seed known definition e = (own_right m known seed definition e).1.0

pub columns_declared : (m : ModelText) (known : Known) (definition : Own) → own m None known ≡ Ok definition → as_declared m.columns (columns_of definition) ≡ Ok tt
columns_declared m known definition e = (own_right m known None definition e).1.1 refl

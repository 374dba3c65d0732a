-- What columns of a model are fed by: the columns and relations that their values hang on.
use Rattle.std.specs.Prelude.{ℕ, Bool, true, false, if◌then◌else◌, List, [], ◌∷◌, ◌++◌, map, filter}
use Rattle.std.specs.declared.option.Option.TheVariants.{None, Some}
use Rattle.mesh_base_values.specs.declared.values.Name.{Name}
use Rattle.mesh_base.specs.declared.definitions.Defn.{Defn}
use Rattle.mesh_base.specs.declared.definitions.Defn.TheVariants.{Seed, Sql}
use Rattle.mesh_base.specs.declared.definitions.Own.{Own}
use Rattle.mesh_base.specs.declared.definitions.Reading.{Reading}
use Rattle.mesh_base.specs.declared.queries.Select.{Select}
use Rattle.mesh_base.specs.rules.Proper.{defn_names}
use Rattle.mesh_spec_model.specs.Closures.{Closure, Closures, Model, Alone, With, own_of}
use Rattle.mesh_law_query.specs.Reads.{is_of, readings}
use Rattle.mesh_spec_changes.specs.reuse.Cores.{pruned_own}
use Rattle.mesh_trace.specs.declared.traces.Trace.{Trace}

abbrev pub is_some_cte : List (List Select) → Bool
is_some_cte [] = false
is_some_cte (c ∷ cs) = true

-- a definition with a CTE
abbrev pub has_cte : Defn → Bool
has_cte (Seed columns rows) = false
has_cte (Sql q) = is_some_cte q.ctes

-- A model with only the items of these columns and of its time column; its ON conditions, WHERE, keys and HAVING stay.
-- One with DISTINCT, UNION ALL or a CTE keeps all its items.
abbrev pub narrowed : List (List ℕ) → Own → Own
narrowed wanted own = if has_cte own.defn then own else pruned_own wanted own

-- the columns that a model names for these columns of its own
abbrev pub needs : Own → List (List ℕ) → List Reading
needs own wanted = readings (narrowed wanted own)

-- those of one relation
abbrev pub needed_of : Name → List Reading → List (List ℕ)
needed_of name needed = map (λ (r : Reading). r.column) (filter (is_of name) needed)

abbrev pub alone : Name → Trace
alone name = record { relation = name; column = None }

abbrev pub with_column : Reading → Trace
with_column r = record { relation = r.relation; column = Some r.column }

-- each relation that a model reads, and the columns that it needs of them
abbrev pub own_feeds : Own → List Reading → List Trace
own_feeds own needed = map alone (defn_names own.defn) ++ map with_column needed

-- What columns of a model are fed by: what it reads itself, and what feeds the columns that it needs of each parent.
abbrev mutual
  pub feeds : Closure → List (List ℕ) → List Trace
  feeds (Model own parents) wanted = own_feeds own (needs own wanted) ++ feeds_of parents (needs own wanted)

  pub feeds_of : Closures → List Reading → List Trace
  feeds_of Alone needed = []
  feeds_of (With c cs) needed = feeds c (needed_of (own_of c).name needed) ++ feeds_of cs needed

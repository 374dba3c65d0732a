-- Where showing an object stops: the first object of the walk that isn't there, that stores no query whose names are
-- all there, or that stands behind too many stored queries. A stored query is judged before its targets, which come
-- in order.
use Rattle.std.specs.Prelude.{ℕ, zero, suc, if◌then◌else◌, List, [], ◌∷◌, map, Some, None}
use Rattle.std.specs.declared.option.Option.{Option}
use Rattle.mesh_base_values.specs.declared.values.Name.{Name}
use Rattle.mesh_base_values.specs.declared.values.Pair.{Pair}
use Rattle.mesh_base.specs.declared.definitions.Defn.{Defn}
use Rattle.mesh_base.specs.declared.definitions.Defn.TheVariants.{Seed, Sql}
use Rattle.mesh_base.specs.declared.definitions.Own.{Own}
use Rattle.mesh_base.specs.declared.queries.Query.{Query}
use Rattle.mesh_house.specs.declared.objects.Body.{Body}
use Rattle.mesh_house.specs.declared.objects.Body.TheVariants.{Rows, Stored}
use Rattle.mesh_house.specs.declared.world.World.{World}
use Rattle.mesh_house.specs.World.{object_at, body_of}
use Rattle.mesh_spec_changes.specs.shown.Shown.{is_query_there, stored_relations}

-- the query of a stored definition, where all that it names is there
abbrev pub stored_query : Own → List Pair → Defn → Option Query
stored_query own targets (Seed columns rows) = None
stored_query own targets (Sql q) = if is_query_there (stored_relations own targets) q then Some q else None

-- the first that there is
abbrev pub first_of : List (Option Name) → Option Name
first_of [] = None
first_of (None ∷ os) = first_of os
first_of (Some x ∷ os) = Some x

-- behind a stored query: the object itself where there is no such query, else what is lost behind a target
abbrev pub lost_behind : (Name → Option Name) → Name → List Pair → Option Query → Option Name
lost_behind below name targets None = Some name
lost_behind below name targets (Some q) = first_of (map (λ (t : Pair). below t.second) targets)

abbrev pub lost_in : (Name → Option Name) → Name → Option Body → Option Name
lost_in below name None = Some name
lost_in below name (Some (Rows rows)) = None
lost_in below name (Some (Stored own targets)) = lost_behind below name targets (stored_query own targets own.defn)

-- where no stored query may stand
abbrev pub lost_among_tables : Name → Option Body → Option Name
lost_among_tables name None = Some name
lost_among_tables name (Some (Rows rows)) = None
lost_among_tables name (Some (Stored own targets)) = Some name

-- what is lost behind an object through at most so many stored queries, one behind the other
abbrev pub lost_through : ℕ → World → Name → Option Name
lost_through zero w name = lost_among_tables name (body_of (object_at w name))
lost_through (suc depth) w name = lost_in (lost_through depth w) name (body_of (object_at w name))

-- what is lost behind an object, if anything is
abbrev pub lost_object : World → Name → Option Name
lost_object w name = lost_through 4096 w name

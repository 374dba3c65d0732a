-- The object of a model, as it is looked for: its names are tried in their order.
use Rattle.std.specs.Prelude.{◌≡◌, ℕ, List}
use Rattle.std.specs.declared.option.Option.{Option}
use Rattle.std.specs.declared.option.Option.TheVariants.{None, Some}
use Rattle.mesh_base_values.specs.declared.values.Name.{Name}
use Rattle.mesh_base.specs.declared.plans.Category.{Category}
use Rattle.mesh_base.specs.declared.snapshots.Node.{Node}
use Rattle.mesh_base.specs.declared.snapshots.Ref.{Ref}
use Rattle.mesh_base.specs.declared.snapshots.Snapshot.{Snapshot}
use Rattle.mesh_spec_changes.specs.due.Versions.{table_name, version}
use Rattle.mesh_category.specs.declared.versions.objects.Object.{Object}
use Rattle.mesh_category.specs.declared.versions.objects.Object.TheVariants.{Named, Taken}
use Rattle.mesh_category.specs.versions.Clashes.{AreAllTaken, compared_in}

-- a name, where no snapshot has it, or else the fingerprint of one that does
abbrev pub choice : Option (List ℕ) → Name → Object
choice None name = Named name
choice (Some stored) name = Taken stored

-- this name, or where it is taken what comes next
abbrev pub or_next : Object → Object → Object
or_next (Named name) next = Named name
or_next (Taken stored) next = next

abbrev pub choice_at : (Name → Option (List ℕ)) → Name → List ℕ → ℕ → Object
choice_at holds m f k = choice (holds (table_name m f k)) (table_name m f k)

-- the first of a model's four names that isn't taken, or else what has the last
abbrev pub fresh_by : (Name → Option (List ℕ)) → Name → List ℕ → Object
fresh_by holds m f = or_next (choice_at holds m f 0) (or_next (choice_at holds m f 1) (or_next (choice_at holds m f 2) (choice_at holds m f 3)))

-- a name that is known, or else such a fresh one
abbrev pub or_fresh : Option Name → Object → Object
or_fresh None fresh = fresh
or_fresh (Some name) fresh = Named name

-- what was found is the model's object, or tells that all its names are taken
abbrev pub IsObject : List Snapshot → List Ref → Category → Node → Object → Type 0
IsObject all base category n (Named name) = version all (compared_in all base n.own.name) category n ≡ Some name
IsObject all base category n (Taken stored) = AreAllTaken all base category n stored

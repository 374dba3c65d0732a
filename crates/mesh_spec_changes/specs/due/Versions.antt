-- The name of the table or the stored query of a model.
use Rattle.std.specs.Prelude.{ℕ, ◌*◌, Bool, true, false, not, ◌||◌, List, [], ◌∷◌, ◌++◌, codes, take, drop, map, None}
use Rattle.std.specs.List.{list_all, find}
use Rattle.std.specs.Option.{option_map, option_or}
use Rattle.std.specs.declared.option.Option.{Option}
use Rattle.hex.specs.Hex.{encode_lower}
use Rattle.mesh_base_values.specs.Picked.{same_text}
use Rattle.mesh_base_values.specs.declared.kinds.Kind.{Kind}
use Rattle.mesh_base_values.specs.declared.kinds.Kind.TheVariants.{View}
use Rattle.mesh_base_values.specs.declared.values.Name.{Name}
use Rattle.mesh_base.specs.declared.plans.Category.{Category}
use Rattle.mesh_base.specs.declared.plans.Category.TheVariants.{IndirectNonBreaking}
use Rattle.mesh_base.specs.declared.snapshots.Node.{Node}
use Rattle.mesh_base.specs.declared.snapshots.Ref.{Ref}
use Rattle.mesh_base.specs.declared.snapshots.Snapshot.{Snapshot}
use Rattle.mesh_house_book.specs.WellFormed.{snapshot_at}
use Rattle.mesh_spec_changes.specs.due.Parts.{same_name}

-- sixteen of the sixty-four hexadecimal digits of a fingerprint
abbrev pub group : List ℕ → ℕ → List ℕ
group fingerprint k = take 16 (drop (16 * k) (encode_lower fingerprint))

-- a table's name by one of these groups: sqlmesh__SCHEMA.SCHEMA__MODEL__GROUP
abbrev pub table_name : Name → List ℕ → ℕ → Name
table_name m fingerprint k = record { schema = codes "sqlmesh__" ++ m.schema; model = m.schema ++ (codes "__" ++ (m.model ++ (codes "__" ++ group fingerprint k))) }

-- no snapshot of another fingerprint has this object
abbrev pub is_free : List Snapshot → List ℕ → Name → Bool
is_free all fingerprint name = list_all (λ (s : Snapshot). same_text s.fingerprint fingerprint || not (same_name s.object name)) all

-- the first free name of the four
abbrev pub fresh : List Snapshot → Name → List ℕ → Option Name
fresh all m fingerprint = find (is_free all fingerprint) (map (table_name m fingerprint) (0 ∷ 1 ∷ 2 ∷ 3 ∷ []))

-- a table stays where nothing but columns that the model doesn't read was added above it; a view has no table
abbrev pub stays : Category → Kind → Bool
stays IndirectNonBreaking View = false
stays IndirectNonBreaking other = true
stays category kind = false

-- the table of the compared snapshot, where it stays
abbrev pub kept_object : Bool → Option Snapshot → Option Name
kept_object false compared = None
kept_object true compared = option_map (λ (s : Snapshot). s.object) compared

-- what a model of a project is called in a book: its name with its fingerprint
abbrev pub node_ref : Node → Ref
node_ref n = record { name = n.own.name; fingerprint = n.fingerprint }

-- the recorded object of a known fingerprint, else that of the compared snapshot where it stays, else a fresh one; none
-- where all four names are taken
abbrev pub version : List Snapshot → Option Snapshot → Category → Node → Option Name
version all compared category n =
    option_or (option_map (λ (s : Snapshot). s.object) (snapshot_at all (node_ref n)))
    (option_or (kept_object (stays category n.own.kind) compared) (fresh all n.own.name n.fingerprint))

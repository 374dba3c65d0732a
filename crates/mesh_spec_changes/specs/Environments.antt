-- Environments, and the names of their views.
use Rattle.std.specs.Prelude.{◌≡◌, ◌==◌, ℕ, ℤ, Bool, false, ◌&&◌, ◌||◌, nat_le, if◌then◌else◌, List, [], ◌∷◌, ◌++◌, codes, length, Some, None}
use Rattle.std.specs.List.{list_all}
use Rattle.std.specs.declared.option.Option.{Option}
use Rattle.std.specs.Int.Signed.{le_z}
use Rattle.mesh_list.specs.Keyed.{found}
use Rattle.mesh_base_values.specs.Names.{text_cmp}
use Rattle.mesh_base_values.specs.Picked.{same_text}
use Rattle.mesh_base_values.specs.declared.values.Name.{Name}
use Rattle.mesh_base.specs.Keys.{env_name}
use Rattle.mesh_base.specs.declared.snapshots.Env.{Env}
use Rattle.mesh_house_book.specs.declared.book.Book.{Book}

-- production
abbrev pub prod : List ℕ
prod = codes "prod"

-- a lower-case letter
abbrev pub is_small : ℕ → Bool
is_small b = nat_le 97 b && nat_le b 122

-- such a letter, a digit or an underscore
abbrev pub is_env_byte : ℕ → Bool
is_env_byte b = is_small b || ((nat_le 48 b && nat_le b 57) || (b == 95))

-- an environment's name: a lower-case letter, and then such bytes, at most 64 in all
abbrev pub is_env_name : List ℕ → Bool
is_env_name [] = false
is_env_name (b ∷ bs) = is_small b && (list_all is_env_byte bs && nat_le (length (b ∷ bs)) 64)

-- the name of a model's view: production's is the model's own
abbrev pub view_in : List ℕ → Name → Name
view_in env m = if same_text env prod then m else record { schema = m.schema ++ (codes "__" ++ env); model = m.model }

-- what a book records of an environment
abbrev pub env_at : Book → List ℕ → Option Env
env_at b env = found text_cmp env_name env b.environments

-- a book has this environment
abbrev pub IsEnv : Book → Env → Type 0
IsEnv b e = env_at b e.name ≡ Some e

-- an environment may go at a moment
abbrev pub is_over : ℤ → Option ℤ → Bool
is_over t None = false
is_over t (Some expires) = le_z expires t

-- how long environments and snapshots stay: a week
abbrev pub lifetime : ℕ
lifetime = 604800

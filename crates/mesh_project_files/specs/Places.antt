-- Where the files of a project stand in a folder, and which of them stand for models.
use Rattle.std.specs.Prelude.{ℕ, Bool, ◌&&◌, ◌||◌, not, nat_eq, List, ◌∷◌, ◌++◌, codes, if◌then◌else◌}
use Rattle.std.specs.List.{ends_with}
use Rattle.mesh_io.specs.Files.{slash}
use Rattle.mesh_base_values.specs.Picked.{same_text}

-- a path below a folder
abbrev pub under : List ℕ → List ℕ → List ℕ
under dir path = dir ++ slash ∷ path

-- the folder itself
abbrev pub is_here : List ℕ → Bool
is_here dir = same_text dir (codes ".")

-- the path in the folder of a file of the project in DIR
abbrev pub in_dir : List ℕ → List ℕ → List ℕ
in_dir dir path = if is_here dir then path else under dir path

-- the path in the project of a path below `models`
abbrev pub below_models : List ℕ → List ℕ
below_models path = under (codes "models") path

-- a model's file
abbrev pub is_sql : List ℕ → Bool
is_sql path = ends_with nat_eq path (codes ".sql")

abbrev pub is_init : List ℕ → Bool
is_init path = same_text path (codes "__init__.py") || ends_with nat_eq path (codes "/__init__.py")

-- a model in Python, which is outside of what is built
abbrev pub is_python : List ℕ → Bool
is_python path = ends_with nat_eq path (codes ".py") && not (is_init path)

-- a model stands at the path
abbrev pub is_read : List ℕ → Bool
is_read path = is_sql path || is_python path

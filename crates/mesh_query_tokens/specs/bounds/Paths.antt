-- Where the file lies that a path in a model's file names: the path goes from the folder of that file.
use Rattle.std.specs.Prelude.{ℕ, Bool, true, ◌||◌, ◌==◌, List, [], ◌∷◌, ◌++◌, codes, if◌then◌else◌}
use Rattle.std.specs.List.{list_any}
use Rattle.std.specs.Str.{bytes_eq}
use Rattle.std.specs.declared.option.Option.{Option}
use Rattle.std.specs.declared.option.Option.TheVariants.{None, Some}
use Rattle.mesh_base_values.specs.Names.{begins_with}
use Rattle.mesh_query_tokens.specs.bounds.Found.{◌>>=◌}

abbrev pub has_slash : List ℕ → Bool
has_slash path = list_any (λ b. b == 47) path

-- what stands before the last slash, or nothing where there is none
abbrev pub folder_of : List ℕ → List ℕ
folder_of [] = []
folder_of (b ∷ bs) = if has_slash bs then b ∷ folder_of bs else []

-- a part of a path within a folder; the folder without a name is the project's
abbrev pub within : List ℕ → List ℕ → List ℕ
within [] part = part
within (b ∷ bs) part = (b ∷ bs) ++ 47 ∷ part

-- a part that leads nowhere: nothing, or a point
abbrev pub is_here : List ℕ → Bool
is_here [] = true
is_here (b ∷ bs) = bytes_eq (b ∷ bs) (codes ".")

abbrev pub is_up : List ℕ → Bool
is_up part = bytes_eq part (codes "..")

-- the folder above one; none is above the project's
abbrev pub above : List ℕ → Option (List ℕ)
above [] = None
above (b ∷ bs) = Some (folder_of (b ∷ bs))

-- the folder that a part of a path leads to from a folder
abbrev pub next_folder : List ℕ → List ℕ → Option (List ℕ)
next_folder folder part = if is_here part then Some folder else if is_up part then above folder else Some (within folder part)

-- the file that the last part of a path names in a folder
abbrev pub file_in : List ℕ → List ℕ → Option (List ℕ)
file_in folder part = if is_here part || is_up part then None else Some (within folder part)

-- a folder and the bytes since the last slash, behind one byte more
abbrev pub behind_byte : List ℕ → List ℕ → ℕ → Option (List ℕ × List ℕ)
behind_byte folder part b = if b == 47 then (next_folder folder part >>= λ next. Some (next, [])) else Some (folder, part ++ b ∷ [])

-- the file that the rest of a path leads to
unfoldable pub file_from : List ℕ → List ℕ → List ℕ → Option (List ℕ)
file_from folder part [] = file_in folder part
file_from folder part (b ∷ bs) = behind_byte folder part b >>= λ s. file_from s.0 s.1 bs

-- The file of the project that a path in a model's file leads to. There is none where the path begins with a slash,
-- leaves the project on its way, or doesn't end in a name.
abbrev pub file_at : List ℕ → List ℕ → Option (List ℕ)
file_at file path = if begins_with 47 path then None else file_from (folder_of file) [] path

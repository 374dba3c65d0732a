-- The files of a folder: paths with bytes. A path names a file by the names of its folders and its own, joined by `/`.
use Rattle.std.specs.Prelude.{◌≡◌, ℕ, Bool, true, ◌&&◌, ◌==◌, is_none, is_some, nat_eq, List, [], ◌∷◌, ◌++◌, length, drop, if◌then◌else◌, Some, None}
use Rattle.std.specs.List.{starts_with}
use Rattle.std.specs.Option.{option_map}
use Rattle.std.specs.Ordering.{is_eq}
use Rattle.std.specs.declared.option.Option.{Option}
use Rattle.mesh_list.specs.Keyed.{found, placed, without, ascends}
use Rattle.mesh_base_values.specs.Names.{text_cmp}
use Rattle.mesh_io.specs.declared.files.File.{File}

-- the key that a file is found by
abbrev pub path_of : File → List ℕ
path_of f = f.path

-- what a file holds
abbrev pub content_of : File → List ℕ
content_of f = f.bytes

-- the bytes of the file of that path
abbrev pub bytes_at : List ℕ → List File → Option (List ℕ)
bytes_at path files = option_map content_of (found text_cmp path_of path files)

-- the byte `/`
abbrev pub slash : ℕ
slash = 47

-- what stands after a slash, where there is one first
abbrev pub after_slash : List ℕ → Option (List ℕ)
after_slash [] = None
after_slash (b ∷ bs) = if b == slash then Some bs else None

-- what a path that begins with the folder and a slash has after them
abbrev pub below : List ℕ → List ℕ → Option (List ℕ)
below dir path = if starts_with nat_eq path dir then after_slash (drop (length dir) path) else None

-- a path is found by itself
abbrev pub same_path : List ℕ → List ℕ
same_path path = path

-- the paths with this one at its place, if there is one
abbrev pub with_path : Option (List ℕ) → List (List ℕ) → List (List ℕ)
with_path None paths = paths
with_path (Some path) paths = placed text_cmp same_path path paths

-- the paths below the folder, relative to it, in ascending order of their bytes
abbrev pub listing : List ℕ → List File → List (List ℕ)
listing dir [] = []
listing dir (f ∷ fs) = with_path (below dir f.path) (listing dir fs)

-- each path is above the one before it
abbrev pub are_ascending : List (List ℕ) → Bool
are_ascending paths = ascends text_cmp same_path paths

-- A path is listed exactly where a file stands at it below the folder.
abbrev pub ListsExactly : List ℕ → List File → List (List ℕ) → Type 0
ListsExactly dir files paths =
    (path : List ℕ) → is_some (found text_cmp same_path path paths) ≡ is_some (bytes_at (dir ++ slash ∷ path) files)

-- no two files have one path
abbrev pub are_distinct : List File → Bool
are_distinct [] = true
are_distinct (f ∷ fs) = is_none (found text_cmp path_of f.path fs) && are_distinct fs

-- the files with this one instead of the file of its path, or else at the end
abbrev pub rewritten : File → List File → List File
rewritten file [] = file ∷ []
rewritten file (f ∷ fs) = if is_eq (text_cmp f.path file.path) then file ∷ fs else f ∷ rewritten file fs

-- the files without the one of that path
abbrev pub deleted : List ℕ → List File → List File
deleted path files = without text_cmp path_of path files

-- The file's bytes are read at its path, and what was read before at any other.
abbrev pub ChangesBytes : File → List File → List File → Type 0
ChangesBytes file before now =
    (path : List ℕ) → bytes_at path now ≡ (if is_eq (text_cmp file.path path) then Some file.bytes else bytes_at path before)

-- Nothing is read at that path, and what was read before at any other.
abbrev pub LosesBytes : List ℕ → List File → List File → Type 0
LosesBytes path before now =
    (other : List ℕ) → bytes_at other now ≡ (if is_eq (text_cmp path other) then None else bytes_at other before)

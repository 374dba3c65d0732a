-- The words of queries: those that are no names, and those that name functions and types.
use Rattle.std.specs.Prelude.{ℕ, Bool, ◌||◌, List, [], ◌∷◌, codes, Option, Some, None, if◌then◌else◌}
use Rattle.std.specs.List.{list_any}
use Rattle.std.specs.Str.{bytes_eq}
use Rattle.mesh_base_values.specs.declared.values.ColType.{ColType}
use Rattle.mesh_base_values.specs.declared.values.ColType.TheVariants as column
use Rattle.mesh_query_grammar.specs.declared.surface.signs.Function.{Function}
use Rattle.mesh_query_grammar.specs.declared.surface.signs.Function.TheVariants as function

-- those from a to c
abbrev pub words_a_to_c : List (List ℕ)
words_a_to_c = codes "all" ∷ codes "and" ∷ codes "as" ∷ codes "between" ∷ codes "by" ∷ codes "case" ∷ codes "cast" ∷ codes "cross" ∷ []

-- those from d to g
abbrev pub words_d_to_g : List (List ℕ)
words_d_to_g = codes "distinct" ∷ codes "else" ∷ codes "end" ∷ codes "except" ∷ codes "exists" ∷ codes "false" ∷ codes "from" ∷ codes "full" ∷ codes "group" ∷ []

-- those from h to l
abbrev pub words_h_to_l : List (List ℕ)
words_h_to_l = codes "having" ∷ codes "in" ∷ codes "inner" ∷ codes "intersect" ∷ codes "is" ∷ codes "join" ∷ codes "left" ∷ codes "limit" ∷ []

-- those from n to r
abbrev pub words_n_to_r : List (List ℕ)
words_n_to_r = codes "natural" ∷ codes "not" ∷ codes "null" ∷ codes "offset" ∷ codes "on" ∷ codes "or" ∷ codes "order" ∷ codes "outer" ∷ codes "qualify" ∷ codes "right" ∷ []

-- those from s to w
abbrev pub words_s_to_w : List (List ℕ)
words_s_to_w = codes "select" ∷ codes "then" ∷ codes "true" ∷ codes "union" ∷ codes "using" ∷ codes "when" ∷ codes "where" ∷ codes "window" ∷ codes "with" ∷ []

-- a word is one of these
abbrev pub is_one_of : List (List ℕ) → List ℕ → Bool
is_one_of words word = list_any (bytes_eq word) words

-- a word that is no name in a query
unfoldable pub is_reserved : List ℕ → Bool
is_reserved word = is_one_of words_a_to_c word || is_one_of words_d_to_g word || is_one_of words_h_to_l word || is_one_of words_n_to_r word || is_one_of words_s_to_w word

-- the words of each type
abbrev pub words_of_int : List (List ℕ)
words_of_int = codes "int" ∷ codes "integer" ∷ codes "bigint" ∷ codes "smallint" ∷ codes "tinyint" ∷ []

abbrev pub words_of_text : List (List ℕ)
words_of_text = codes "text" ∷ codes "varchar" ∷ codes "string" ∷ codes "char" ∷ []

abbrev pub words_of_bool : List (List ℕ)
words_of_bool = codes "bool" ∷ codes "boolean" ∷ []

-- the type that a word names
abbrev pub type_of : List ℕ → Option ColType
type_of word =
    if is_one_of words_of_int word then Some column.Int else
    (if is_one_of words_of_text word then Some column.Text else
    (if bytes_eq word (codes "date") then Some column.Date else
    (if is_one_of words_of_bool word then Some column.Bool else None)))

-- the function of one row's values that a word names
abbrev pub row_function_of : List ℕ → Option Function
row_function_of word =
    if bytes_eq word (codes "abs") then Some function.Abs else
    (if bytes_eq word (codes "length") then Some function.Length else
    (if bytes_eq word (codes "upper") then Some function.Upper else
    (if bytes_eq word (codes "lower") then Some function.Lower else
    (if bytes_eq word (codes "nullif") then Some function.Nullif else
    (if bytes_eq word (codes "coalesce") then Some function.Coalesce else None)))))

-- the function of a group's values that a word names
abbrev pub group_function_of : List ℕ → Option Function
group_function_of word =
    if bytes_eq word (codes "count") then Some function.Count else
    (if bytes_eq word (codes "sum") then Some function.Sum else
    (if bytes_eq word (codes "min") then Some function.Min else
    (if bytes_eq word (codes "max") then Some function.Max else None)))

abbrev pub or_else : Option Function → Option Function → Option Function
or_else None other = other
or_else (Some f) other = Some f

-- the function that a word names
abbrev pub function_of : List ℕ → Option Function
function_of word = or_else (row_function_of word) (group_function_of word)

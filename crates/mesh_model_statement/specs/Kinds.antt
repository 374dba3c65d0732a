-- What the value of `kind` means: a word, and perhaps entries in parentheses.
use Rattle.std.specs.Prelude.{ℕ, zero, suc, Bool, true, false, ◌&&◌, ◌||◌, not, ◌==◌, List, [], ◌∷◌, ◌++◌, codes, take, drop, length, map, Result, Ok, Err, if◌then◌else◌}
use Rattle.std.specs.Char.{to_ascii_uppercase}
use Rattle.std.specs.List.{list_any}
use Rattle.std.specs.Str.{bytes_eq}
use Rattle.std.specs.declared.option.Option.{Option}
use Rattle.std.specs.declared.option.Option.TheVariants.{None, Some}
use Rattle.mesh_query_tokens.specs.Gives.{◌>>=◌}
use Rattle.mesh_query_tokens.specs.declared.faults.ReadFault.{ReadFault}
use Rattle.mesh_query_tokens.specs.declared.tokens.Token.{Token}
use Rattle.mesh_query_tokens.specs.declared.tokens.TokenKind.{TokenKind}
use Rattle.mesh_query_tokens.specs.declared.tokens.TokenKind.TheVariants.{Number}
use Rattle.mesh_model_statement.specs.declared.kinds.KindWord.{KindWord}
use Rattle.mesh_model_statement.specs.declared.kinds.KindWord.TheVariants as the_kind
use Rattle.mesh_model_statement.specs.declared.kinds.Entries.{Entries}
use Rattle.mesh_model_statement.specs.declared.kinds.KindText.{KindText}
use Rattle.mesh_base_values.specs.declared.kinds.Kind.{Kind}
use Rattle.mesh_base_values.specs.declared.kinds.Kind.TheVariants as base_kind
use Rattle.mesh_query_tokens.specs.bounds.Brackets.{or_fault, value_len}
use Rattle.mesh_query_tokens.specs.bounds.Numbers.{lookback_number}
use Rattle.mesh_query_tokens.specs.bounds.Paths.{file_at}
use Rattle.mesh_query_tokens.specs.bounds.Signs.{is_sign}
use Rattle.mesh_model_statement.specs.Faults.{bad, unknown, outside, provided, is_word}
use Rattle.mesh_model_statement.specs.Values.{word, text, behind}

abbrev pub words_left_out : List (List ℕ)
words_left_out = codes "incremental_by_unique_key" ∷ codes "incremental_by_partition" ∷ codes "scd_type_2" ∷ codes "embedded" ∷ codes "managed" ∷ codes "custom" ∷ []

abbrev pub is_left_out : List ℕ → Bool
is_left_out word = list_any (λ w. bytes_eq word w) words_left_out

abbrev pub kind_named : List ℕ → Option KindWord
kind_named word =
    if bytes_eq word (codes "full") then Some the_kind.Full
    else if bytes_eq word (codes "view") then Some the_kind.View
    else if bytes_eq word (codes "seed") then Some the_kind.Seed
    else if bytes_eq word (codes "incremental_by_time_range") then Some the_kind.Incremental
    else None

-- a kind that is left out has its word in upper case
abbrev pub kind_or_fault : ℕ → List ℕ → Result KindWord ReadFault
kind_or_fault at word = if is_left_out word then Err (outside at (map to_ascii_uppercase word)) else or_fault (bad at (codes "kind")) (kind_named word)

abbrev pub first_at : List Token → ℕ
first_at [] = 0
first_at (k ∷ ks) = k.start

abbrev pub path_text : List Token → Option (List ℕ)
path_text (k ∷ []) = text k
path_text _ = None

abbrev pub is_day_format : Option (List ℕ) → Bool
is_day_format None = false
is_day_format (Some format) = bytes_eq format (codes "%Y-%m-%d")

-- `c`, or `(c, '%Y-%m-%d')`
abbrev pub time_word : List Token → Option (List ℕ)
time_word (k ∷ []) = word k
time_word (a ∷ k ∷ c ∷ f ∷ b ∷ []) = if is_sign (codes "(") a && (is_sign (codes ",") c && (is_day_format (text f) && is_sign (codes ")") b)) then word k else None
time_word _ = None

abbrev pub is_number_kind : ℕ → TokenKind → Bool
is_number_kind n (Number m) = m == n
is_number_kind n _ = false

abbrev pub is_number : ℕ → List Token → Bool
is_number n (k ∷ []) = is_number_kind n k.kind
is_number n _ = false

abbrev pub is_false : List Token → Bool
is_false (k ∷ []) = is_word (codes "false") k
is_false _ = false

-- an entry that means nothing, with the one value that it may have
abbrev pub is_idle : List ℕ → List Token → Bool
is_idle name value =
    if bytes_eq name (codes "batch_size") then is_number 1 value
    else is_false value

abbrev pub words_idle : List (List ℕ)
words_idle = codes "batch_size" ∷ codes "forward_only" ∷ codes "materialized" ∷ []

abbrev pub is_one_of : List (List ℕ) → List ℕ → Bool
is_one_of words word = list_any (λ w. bytes_eq word w) words

-- the entries that a kind may have
abbrev pub is_entry : KindWord → List ℕ → Bool
is_entry the_kind.Seed name = bytes_eq name (codes "path") || is_one_of words_idle name
is_entry the_kind.Incremental name = bytes_eq name (codes "time_column") || (bytes_eq name (codes "lookback") || is_one_of words_idle name)
is_entry kind name = is_one_of words_idle name

-- the name of an entry, and what stands behind the entry
abbrev pub one_name : ReadFault → List Token → Result (List ℕ × List Token) ReadFault
one_name fault [] = Err fault
one_name fault (k ∷ ks) = do
  name ← or_fault fault (word k)
  n ← value_len true k.end [] ks
  rest ← or_fault fault (behind (drop n ks))
  Ok (name, rest)

-- the names of all entries; so many tokens are left at most
unfoldable pub names_from : ℕ → ReadFault → List Token → Result (List (List ℕ)) ReadFault
names_from most fault [] = Ok []
names_from zero fault (k ∷ ks) = Err fault
names_from (suc most) fault (k ∷ ks) = do
  r ← one_name fault (k ∷ ks)
  names ← names_from most fault r.1
  Ok (r.0 ∷ names)

-- the names of the entries in parentheses, if there are any
abbrev pub names_in : ReadFault → List Token → Result (List (List ℕ)) ReadFault
names_in fault [] = Ok []
names_in fault (p ∷ []) = Err fault
names_in fault (p ∷ q ∷ ks) = if is_sign (codes "(") p then names_from (length (q ∷ ks)) fault (q ∷ ks) else Err fault

-- a SEED needs an entry `path`, and an incremental kind `time_column`
abbrev pub has_needed : KindWord → List (List ℕ) → Bool
has_needed the_kind.Seed names = is_one_of names (codes "path")
has_needed the_kind.Incremental names = is_one_of names (codes "time_column")
has_needed kind names = true

-- the kind, where the entry that it needs is among those of these names
abbrev pub complete : ReadFault → KindWord → Result (List (List ℕ)) ReadFault → Result KindWord ReadFault
complete fault kind names = names >>= λ names. provided (has_needed kind names) kind fault

-- the kind, where what stands behind its word has the form of entries, and the one that the kind needs is among them
abbrev pub formed : ReadFault → KindWord → List Token → Result KindWord ReadFault
formed fault kind ks = complete fault kind (names_in fault ks)

abbrev pub noted : Entries → List ℕ → Entries
noted e name = record e { seen = e.seen ++ name ∷ [] }

-- the file of the project that a path in a model's file names
abbrev pub file_named : List ℕ → Option (List ℕ) → Option (List ℕ)
file_named file None = None
file_named file (Some path) = file_at file path

abbrev pub with_path : List ℕ → Entries → List ℕ → List Token → Result Entries ReadFault
with_path file e name value = or_fault (bad (first_at value) name) (file_named file (path_text value)) >>= λ path. Ok (record e { path = Some path; path_at = first_at value })

abbrev pub with_time : Entries → List ℕ → List Token → Result Entries ReadFault
with_time e name value = or_fault (bad (first_at value) name) (time_word value) >>= λ time. Ok (record e { time = Some time })

abbrev pub with_lookback : Entries → List ℕ → List Token → Result Entries ReadFault
with_lookback e name value = or_fault (bad (first_at value) name) (lookback_number value) >>= λ n. Ok (record e { lookback = n })

-- an entry's value; it is M20 where the entry means nothing and has another value
abbrev pub entry_value : List ℕ → Entries → ℕ → List ℕ → List Token → Result Entries ReadFault
entry_value file e at name value =
    if bytes_eq name (codes "path") then with_path file e name value
    else if bytes_eq name (codes "time_column") then with_time e name value
    else if bytes_eq name (codes "lookback") then with_lookback e name value
    else provided (is_idle name value) e (outside at name)

abbrev pub is_empty : List Token → Bool
is_empty [] = true
is_empty (k ∷ ks) = false

-- an entry of a kind, with its name at this place
abbrev pub entry : List ℕ → KindWord → Entries → ℕ → List ℕ → List Token → Result Entries ReadFault
entry file kind e at name value =
    if not (is_entry kind name) then Err (unknown at name)
    else if is_one_of e.seen name || is_empty value then Err (bad at name)
    else entry_value file (noted e name) at name value

-- an entry, behind the token that is its name, and what stands behind it
abbrev pub entry_behind : List ℕ → ReadFault → KindWord → Entries → Token → List ℕ → List Token → Result (Entries × List Token) ReadFault
entry_behind file fault kind e k name ks = do
  n ← value_len true k.end [] ks
  more ← entry file kind e k.start name (take n ks)
  rest ← or_fault fault (behind (drop n ks))
  Ok (more, rest)

-- one entry behind those that are known, and what stands behind it
abbrev pub one_entry : List ℕ → ReadFault → KindWord → Entries → List Token → Result (Entries × List Token) ReadFault
one_entry file fault kind e [] = Err fault
one_entry file fault kind e (k ∷ ks) = do
  name ← or_fault fault (word k)
  entry_behind file fault kind e k name ks

-- all entries; so many tokens are left at most
unfoldable pub entries_from : List ℕ → ℕ → ReadFault → KindWord → Entries → List Token → Result Entries ReadFault
entries_from file most fault kind e [] = Ok e
entries_from file zero fault kind e (k ∷ ks) = Err fault
entries_from file (suc most) fault kind e (k ∷ ks) = one_entry file fault kind e (k ∷ ks) >>= λ r. entries_from file most fault kind r.0 r.1

abbrev pub no_entries : Entries
no_entries = record { seen = []; path = None; path_at = 0; time = None; lookback = 0 }

-- the entries in parentheses, if there are any
abbrev pub entries_in : List ℕ → ReadFault → KindWord → List Token → Result Entries ReadFault
entries_in file fault kind [] = Ok no_entries
entries_in file fault kind (p ∷ []) = Err fault
entries_in file fault kind (p ∷ q ∷ ks) = if is_sign (codes "(") p then entries_from file (length (q ∷ ks)) fault kind no_entries (q ∷ ks) else Err fault

abbrev pub plain : Kind → KindText
plain kind = record { kind = kind; path = None; path_at = 0 }

abbrev pub seed : ReadFault → Option (List ℕ) → ℕ → Result KindText ReadFault
seed fault path at = or_fault fault path >>= λ path. Ok (record { kind = base_kind.Seed; path = Some path; path_at = at })

abbrev pub incremental : ReadFault → Option (List ℕ) → ℕ → Result KindText ReadFault
incremental fault time lookback = or_fault fault time >>= λ time. Ok (plain (base_kind.Incremental time lookback))

-- a SEED has a path, and an incremental kind a time column
abbrev pub whole : ReadFault → KindWord → Entries → Result KindText ReadFault
whole fault the_kind.Full e = Ok (plain base_kind.Full)
whole fault the_kind.View e = Ok (plain base_kind.View)
whole fault the_kind.Seed e = seed fault e.path e.path_at
whole fault the_kind.Incremental e = incremental fault e.time e.lookback

abbrev pub kind_word : List ℕ
kind_word = codes "kind"

-- the kind that a value means in a model's file, which begins at this place; its form is judged before its entries
abbrev pub kind_value : List ℕ → ℕ → List Token → Result KindText ReadFault
kind_value file at [] = Err (bad at (codes "kind"))
kind_value file at (k ∷ ks) = do
  word ← or_fault (bad at (codes "kind")) (word k)
  kind ← kind_or_fault at word
  kind ← formed (bad at (codes "kind")) kind ks
  entries ← entries_in file (bad at (codes "kind")) kind ks
  whole (bad at (codes "kind")) kind entries

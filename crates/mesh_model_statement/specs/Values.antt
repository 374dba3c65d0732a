-- What the tokens of a property's value mean. None where they mean nothing.
use Rattle.std.specs.Prelude.{ℕ, zero, suc, Bool, true, ◌&&◌, not, nat_le, List, [], ◌∷◌, ◌++◌, codes, length, ℤ, Result, Ok, Err, if◌then◌else◌}
use Rattle.std.specs.List.{list_any}
use Rattle.std.specs.Str.{bytes_eq}
use Rattle.std.specs.declared.option.Option.{Option}
use Rattle.std.specs.declared.option.Option.TheVariants.{None, Some}
use Rattle.mesh_base_values.specs.Crons.{CronSets}
use Rattle.mesh_base_values.specs.Names.{is_schema}
use Rattle.mesh_base_values.specs.declared.crons.CronFault.{CronFault}
use Rattle.mesh_base_values.specs.declared.values.Name.{Name}
use Rattle.mesh_base_values.specs.declared.values.Column.{Column}
use Rattle.mesh_base_values.specs.declared.times.Unit.{Unit as TimeUnit}
use Rattle.mesh_base_values.specs.declared.times.Unit.TheVariants.{Hour, Day}
use Rattle.mesh_time.specs.CronText.{cron_of}
use Rattle.mesh_time_days.specs.casts.Dates.{day_named}
use Rattle.mesh_query_tokens.specs.declared.faults.FaultKind.TheVariants.{BadCron, TooLarge}
use Rattle.mesh_query_tokens.specs.declared.faults.ReadFault.{ReadFault}
use Rattle.mesh_query_tokens.specs.declared.faults.ReadFault.TheVariants.{Fault}
use Rattle.mesh_query_tokens.specs.declared.tokens.Token.{Token}
use Rattle.mesh_query_tokens.specs.declared.tokens.TokenKind.{TokenKind}
use Rattle.mesh_query_tokens.specs.declared.tokens.TokenKind.TheVariants.{Ident, Text, Macro}
use Rattle.mesh_query_tokens.specs.bounds.Found.{◌>>=◌}
use Rattle.mesh_query_tokens.specs.bounds.Signs.{is_sign}
use Rattle.mesh_model_statement.specs.Faults.{bad, provided}
use Rattle.mesh_query_grammar.specs.Words.{type_of}

-- the word or text of a token
abbrev pub word_kind : TokenKind → Option (List ℕ)
word_kind (Ident word) = Some word
word_kind _ = None

abbrev pub word : Token → Option (List ℕ)
word k = word_kind k.kind

abbrev pub text_kind : TokenKind → Option (List ℕ)
text_kind (Text text) = Some text
text_kind _ = None

abbrev pub text : Token → Option (List ℕ)
text k = text_kind k.kind

-- `schema.model`
abbrev pub name_of : List Token → Option Name
name_of (s ∷ p ∷ m ∷ []) = do
  schema ← word s
  model ← word m
  if is_sign (codes ".") p && is_schema schema then Some (record { schema = schema; model = model }) else None
name_of _ = None

-- a text of a day
abbrev pub start_of : List Token → Option ℤ
start_of (k ∷ []) = text k >>= day_named
start_of _ = None

abbrev pub unit_named : List ℕ → Option TimeUnit
unit_named name = if bytes_eq name (codes "hour") then Some Hour else (if bytes_eq name (codes "day") then Some Day else None)

-- a word or a text
abbrev pub said_kind : TokenKind → Option (List ℕ)
said_kind (Ident said) = Some said
said_kind (Text said) = Some said
said_kind _ = None

abbrev pub unit_of : List Token → Option TimeUnit
unit_of (k ∷ []) = said_kind k.kind >>= unit_named
unit_of _ = None

-- a cron in quotes has faults of its own, and an alias without quotes has none
abbrev pub quoted : ℕ → Result CronSets CronFault → Result CronSets ReadFault
quoted at (Ok cron) = Ok cron
quoted at (Err fault) = Err (Fault at (BadCron fault))

abbrev pub alias : ReadFault → Result CronSets CronFault → Result CronSets ReadFault
alias fault (Ok cron) = Ok cron
alias fault (Err e) = Err fault

abbrev pub cron_kind : ℕ → TokenKind → Result CronSets ReadFault
cron_kind at (Text text) = quoted at (cron_of text)
cron_kind at (Macro name) = alias (bad at (codes "cron")) (cron_of (64 ∷ name))
cron_kind at _ = Err (bad at (codes "cron"))

abbrev pub cron_value : ℕ → List Token → Result CronSets ReadFault
cron_value at (k ∷ []) = cron_kind at k.kind
cron_value at _ = Err (bad at (codes "cron"))

abbrev pub column_of : Token → Token → Option Column
column_of n t = do
  name ← word n
  type ← word t
  kind ← type_of type
  Some (record { name = name; kind = kind })

-- what stands behind an item of a list: a comma and more, or the parenthesis that ends the list
abbrev pub behind : List Token → Option (List Token)
behind (p ∷ []) = if is_sign (codes ")") p then Some [] else None
behind (p ∷ q ∷ ks) = if is_sign (codes ",") p then Some (q ∷ ks) else None
behind [] = None

-- one column, and what stands behind it
abbrev pub one_column : List Token → Option (Column × List Token)
one_column (n ∷ t ∷ ks) = do
  column ← column_of n t
  rest ← behind ks
  Some (column, rest)
one_column _ = None

-- columns behind those that are known; so many tokens are left at most
unfoldable pub columns_from : ℕ → List Column → List Token → Option (List Column)
columns_from most front [] = Some front
columns_from zero front (k ∷ ks) = None
columns_from (suc most) front (k ∷ ks) = one_column (k ∷ ks) >>= λ r. columns_from most (front ++ r.0 ∷ []) r.1

abbrev pub is_among : List Column → List ℕ → Bool
is_among columns name = list_any (λ c. bytes_eq c.name name) columns

-- no two have one name
abbrev pub are_distinct : List Column → Bool
are_distinct [] = true
are_distinct (c ∷ cs) = not (is_among cs c.name) && are_distinct cs

abbrev pub most_columns : ℕ
most_columns = 1024

abbrev pub many_columns : ReadFault
many_columns = Fault 0 (TooLarge (codes "columns") most_columns)

abbrev pub sized : ℕ → Option (List Column) → Result (List Column) ReadFault
sized at None = Err (bad at (codes "columns"))
sized at (Some columns) =
    if not (nat_le (length columns) most_columns) then Err many_columns
    else provided (are_distinct columns) columns (bad at (codes "columns"))

-- `(name TYPE, ..)`
abbrev pub columns_open : List Token → Option (List Column)
columns_open (p ∷ q ∷ ks) = if is_sign (codes "(") p then columns_from (length (q ∷ ks)) [] (q ∷ ks) else None
columns_open _ = None

abbrev pub columns_value : ℕ → List Token → Result (List Column) ReadFault
columns_value at value = sized at (columns_open value)

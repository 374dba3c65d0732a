-- The properties of a MODEL statement, one after the other, up to the semicolon behind it.
use Rattle.std.specs.Prelude.{ℕ, zero, suc, Bool, true, false, ◌||◌, not, List, [], ◌∷◌, ◌++◌, codes, take, drop, length, Result, Ok, Err, if◌then◌else◌}
use Rattle.std.specs.Str.{bytes_eq}
use Rattle.std.specs.declared.option.Option.TheVariants.{None, Some}
use Rattle.mesh_query_tokens.specs.Gives.{◌>>=◌}
use Rattle.mesh_query_tokens.specs.declared.faults.ReadFault.{ReadFault}
use Rattle.mesh_query_tokens.specs.declared.tokens.Token.{Token}
use Rattle.mesh_model_statement.specs.declared.parts.Parts.{Parts}
use Rattle.mesh_query_tokens.specs.bounds.Brackets.{or_fault, value_len}
use Rattle.mesh_query_tokens.specs.bounds.Faults.{broken}
use Rattle.mesh_query_tokens.specs.bounds.Signs.{is_sign}
use Rattle.mesh_model_statement.specs.Faults.{bad, unknown, provided, is_word}
use Rattle.mesh_model_statement.specs.Values.{word, name_of, start_of, unit_of, cron_value, columns_value}
use Rattle.mesh_model_statement.specs.Kinds.{kind_value, first_at, is_one_of}

-- properties whose value is any tokens
abbrev pub words_free : List (List ℕ)
words_free = codes "owner" ∷ codes "description" ∷ codes "tags" ∷ codes "grain" ∷ codes "grains" ∷ codes "audits" ∷ codes "dialect" ∷ codes "references" ∷ codes "column_descriptions" ∷ []

abbrev pub words_read : List (List ℕ)
words_read = codes "name" ∷ codes "kind" ∷ codes "cron" ∷ codes "interval_unit" ∷ codes "start" ∷ codes "columns" ∷ []

abbrev pub is_free : List ℕ → Bool
is_free name = is_one_of words_free name

abbrev pub is_property : List ℕ → Bool
is_property name = is_one_of words_read name || is_free name

abbrev pub no_parts : Parts
no_parts = record { seen = []; name = None; kind = None; cron = None; unit = None; start = None; columns = []; audits = [] }

abbrev pub noted : Parts → List ℕ → Parts
noted p name = record p { seen = p.seen ++ name ∷ [] }

abbrev pub put_name : Parts → ℕ → List Token → Result Parts ReadFault
put_name p at value = or_fault (bad at (codes "name")) (name_of value) >>= λ name. Ok (record p { name = Some name })

abbrev pub put_kind : List ℕ → Parts → ℕ → List Token → Result Parts ReadFault
put_kind file p at value = kind_value file at value >>= λ kind. Ok (record p { kind = Some kind })

abbrev pub put_cron : Parts → ℕ → List Token → Result Parts ReadFault
put_cron p at value = cron_value at value >>= λ cron. Ok (record p { cron = Some cron })

abbrev pub put_unit : Parts → ℕ → List Token → Result Parts ReadFault
put_unit p at value = or_fault (bad at (codes "interval_unit")) (unit_of value) >>= λ unit. Ok (record p { unit = Some unit })

abbrev pub put_start : Parts → ℕ → List Token → Result Parts ReadFault
put_start p at value = or_fault (bad at (codes "start")) (start_of value) >>= λ start. Ok (record p { start = Some start })

abbrev pub put_columns : Parts → ℕ → List Token → Result Parts ReadFault
put_columns p at value = columns_value at value >>= λ columns. Ok (record p { columns = columns })

-- the tokens of the value of `audits`, as they stand in the file
abbrev pub put_audits : Parts → List Token → Parts
put_audits p value = record p { audits = value }

-- the parts with the value of a property in a model's file, which begins at this place
abbrev pub put : List ℕ → Parts → ℕ → List ℕ → List Token → Result Parts ReadFault
put file p at name value =
    if bytes_eq name (codes "name") then put_name p at value
    else if bytes_eq name (codes "kind") then put_kind file p at value
    else if bytes_eq name (codes "cron") then put_cron p at value
    else if bytes_eq name (codes "interval_unit") then put_unit p at value
    else if bytes_eq name (codes "start") then put_start p at value
    else if bytes_eq name (codes "columns") then put_columns p at value
    else if bytes_eq name (codes "audits") then Ok (put_audits p value)
    else Ok p

-- a property's name, which is known and was not there before
abbrev pub admitted : Parts → ℕ → List ℕ → Result Parts ReadFault
admitted p at name =
    if not (is_property name) then Err (unknown at name)
    else provided (not (is_one_of p.seen name)) (noted p name) (bad at name)

abbrev pub end_of : ℕ → List Token → ℕ
end_of before [] = before
end_of before (k ∷ ks) = end_of k.end ks

-- what has been read, the end of the last token taken, and the tokens that are left
pub record Read : Type 0 where
  pub parts : Parts
  pub before : ℕ
  pub rest : List Token

-- a value has a token at least
abbrev pub some_tokens : ℕ → ℕ → Result ℕ ReadFault
some_tokens before zero = Err (broken before)
some_tokens before (suc n) = Ok (suc n)

-- how many tokens a value has
unfoldable pub value_size : Bool → ℕ → List Token → Result ℕ ReadFault
value_size any before ks = value_len any before [] ks >>= λ n. some_tokens before n

-- the value of a property, behind its name, which ends here
abbrev pub valued : List ℕ → Parts → ℕ → List ℕ → List Token → Result Read ReadFault
valued file p before name ks = do
  n ← value_size (is_free name) before ks
  more ← put file p (first_at ks) name (take n ks)
  Ok (record { parts = more; before = end_of before (take n ks); rest = drop n ks })

abbrev pub property : List ℕ → Parts → ℕ → List Token → Result Read ReadFault
property file p before [] = Err (broken before)
property file p before (k ∷ ks) = do
  name ← or_fault (broken before) (word k)
  known ← admitted p k.start name
  valued file known k.end name ks

-- a sign that has to stand here: its end, and what stands behind it
abbrev pub stands : List ℕ → ℕ → List Token → Result (ℕ × List Token) ReadFault
stands sign before [] = Err (broken before)
stands sign before (k ∷ ks) = provided (is_sign sign k) (k.end, ks) (broken before)

abbrev pub expect : List ℕ → Parts → ℕ → List Token → Result Read ReadFault
expect sign p before ts = stands sign before ts >>= λ r. Ok (record { parts = p; before = r.0; rest = r.1 })

abbrev pub begins : List ℕ → List Token → Bool
begins sign [] = false
begins sign (k ∷ ks) = is_sign sign k

-- one more property, and whether it is the last: a comma stands behind it, or the parenthesis that closes them, or both
abbrev pub closes : Read → Result (Bool × Read) ReadFault
closes r = expect (codes ")") r.parts r.before r.rest >>= λ c. Ok (true, c)

abbrev pub goes_on : Read → Result (Bool × Read) ReadFault
goes_on r = do
  c ← expect (codes ",") r.parts r.before r.rest
  if begins (codes ")") c.rest then closes c else Ok (false, c)

abbrev pub one_property : List ℕ → Parts → ℕ → List Token → Result (Bool × Read) ReadFault
one_property file p before ts = do
  r ← property file p before ts
  if begins (codes ")") r.rest then closes r else goes_on r

-- the properties from here on; so many tokens are left at most
unfoldable pub properties : List ℕ → ℕ → Parts → ℕ → List Token → Result Read ReadFault
properties file zero p before ts = Err (broken before)
properties file (suc most) p before ts = one_property file p before ts >>= λ s. if s.0 then Ok s.1 else properties file most s.1.parts s.1.before s.1.rest

abbrev pub model_word : List Token → Result Read ReadFault
model_word [] = Err (broken 0)
model_word (k ∷ ks) = provided (is_word (codes "model") k) (record { parts = no_parts; before = k.end; rest = ks }) (broken 0)

-- MODEL ( properties ) ; in a model's file
abbrev pub statement : List ℕ → List Token → Result Read ReadFault
statement file ts = do
  m ← model_word ts
  o ← expect (codes "(") m.parts m.before m.rest
  r ← properties file (length o.rest) o.parts o.before o.rest
  expect (codes ";") r.parts r.before r.rest

-- The properties of an AUDIT statement, one after the other, up to the semicolon behind it.
use Rattle.std.specs.Prelude.{ℕ, zero, suc, Bool, true, false, not, List, [], ◌∷◌, ◌++◌, codes, take, drop, length, Result, Ok, Err, if◌then◌else◌}
use Rattle.std.specs.Str.{bytes_eq}
use Rattle.std.specs.declared.option.Option.{Option}
use Rattle.std.specs.declared.option.Option.TheVariants.{None, Some}
use Rattle.mesh_query_tokens.specs.Gives.{◌>>=◌}
use Rattle.mesh_query_tokens.specs.bounds.Brackets.{or_fault}
use Rattle.mesh_query_tokens.specs.bounds.Faults.{broken}
use Rattle.mesh_query_tokens.specs.declared.faults.ReadFault.{ReadFault}
use Rattle.mesh_query_tokens.specs.declared.tokens.Token.{Token}
use Rattle.mesh_model_statement.specs.Faults.{bad, unknown, outside, provided, is_word}
use Rattle.mesh_model_statement.specs.Kinds.{first_at, is_one_of}
use Rattle.mesh_model_statement.specs.Statement.{begins, end_of, stands, value_size}
use Rattle.mesh_model_statement.specs.Values.{word}
use Rattle.mesh_audit_files.specs.declared.text.heads.Head.{Head}

abbrev pub words : List (List ℕ)
words = codes "name" ∷ codes "dialect" ∷ codes "blocking" ∷ codes "skip" ∷ []

abbrev pub no_head : Head
no_head = record { seen = []; name = None }

abbrev pub noted : Head → List ℕ → Head
noted h name = record h { seen = h.seen ++ name ∷ [] }

-- a property's name, which is known and was not there before
abbrev pub admitted : Head → ℕ → List ℕ → Result Head ReadFault
admitted h at name =
    if not (is_one_of words name) then Err (unknown at name)
    else provided (not (is_one_of h.seen name)) (noted h name) (bad at name)

-- a value of one word
abbrev pub one_word : List Token → Option (List ℕ)
one_word (k ∷ []) = word k
one_word ks = None

-- the audit's name, which no file before has
abbrev pub put_name : List (List ℕ) → Head → ℕ → List Token → Result Head ReadFault
put_name taken h at value = do
  name ← or_fault (bad at (codes "name")) (one_word value)
  provided (not (is_one_of taken name)) (record h { name = Some name }) (bad at (codes "name"))

abbrev pub is_flag : List ℕ → List Token → Bool
is_flag flag (k ∷ []) = is_word flag k
is_flag flag ks = false

-- a property that may be said in the way that it is anyhow; the other way is outside of what is built
abbrev pub put_flag : List ℕ → List ℕ → Head → ℕ → ℕ → List ℕ → List Token → Result Head ReadFault
put_flag kept left_out h place at name value =
    if is_flag kept value then Ok h
    else if is_flag left_out value then Err (outside place name)
    else Err (bad at name)

-- the head with the value of a property, whose name and value begin at these places
abbrev pub put : List (List ℕ) → Head → ℕ → ℕ → List ℕ → List Token → Result Head ReadFault
put taken h place at name value =
    if bytes_eq name (codes "name") then put_name taken h at value
    else if bytes_eq name (codes "blocking") then put_flag (codes "true") (codes "false") h place at name value
    else if bytes_eq name (codes "skip") then put_flag (codes "false") (codes "true") h place at name value
    else Ok h

-- what has been read, the end of the last token taken, and the tokens that are left
pub record Headed : Type 0 where
  pub head : Head
  pub before : ℕ
  pub rest : List Token

-- only `dialect` may have any tokens
abbrev pub is_any : List ℕ → Bool
is_any name = bytes_eq name (codes "dialect")

-- the value of a property, behind its name, which begins and ends here
abbrev pub valued : List (List ℕ) → Head → ℕ → ℕ → List ℕ → List Token → Result Headed ReadFault
valued taken h place before name ks = do
  n ← value_size (is_any name) before ks
  more ← put taken h place (first_at ks) name (take n ks)
  Ok (record { head = more; before = end_of before (take n ks); rest = drop n ks })

abbrev pub property : List (List ℕ) → Head → ℕ → List Token → Result Headed ReadFault
property taken h before [] = Err (broken before)
property taken h before (k ∷ ks) = do
  name ← or_fault (broken before) (word k)
  known ← admitted h k.start name
  valued taken known k.start k.end name ks

abbrev pub expect : List ℕ → Head → ℕ → List Token → Result Headed ReadFault
expect sign h before ts = stands sign before ts >>= λ r. Ok (record { head = h; before = r.0; rest = r.1 })

-- one more property, and whether it is the last: a comma stands behind it, or the parenthesis that closes them, or both
abbrev pub closes : Headed → Result (Bool × Headed) ReadFault
closes r = expect (codes ")") r.head r.before r.rest >>= λ c. Ok (true, c)

abbrev pub goes_on : Headed → Result (Bool × Headed) ReadFault
goes_on r = do
  c ← expect (codes ",") r.head r.before r.rest
  if begins (codes ")") c.rest then closes c else Ok (false, c)

abbrev pub one_property : List (List ℕ) → Head → ℕ → List Token → Result (Bool × Headed) ReadFault
one_property taken h before ts = do
  r ← property taken h before ts
  if begins (codes ")") r.rest then closes r else goes_on r

-- the properties from here on; so many tokens are left at most
unfoldable pub properties : List (List ℕ) → ℕ → Head → ℕ → List Token → Result Headed ReadFault
properties taken zero h before ts = Err (broken before)
properties taken (suc most) h before ts = one_property taken h before ts >>= λ s. if s.0 then Ok s.1 else properties taken most s.1.head s.1.before s.1.rest

abbrev pub audit_word : List Token → Result Headed ReadFault
audit_word [] = Err (broken 0)
audit_word (k ∷ ks) = provided (is_word (codes "audit") k) (record { head = no_head; before = k.end; rest = ks }) (broken 0)

-- AUDIT ( properties ) ; where earlier files have taken these names
abbrev pub statement : List (List ℕ) → List Token → Result Headed ReadFault
statement taken ts = do
  m ← audit_word ts
  o ← expect (codes "(") m.head m.before m.rest
  r ← properties taken (length o.rest) o.head o.before o.rest
  expect (codes ";") r.head r.before r.rest

-- The words, numbers and texts that parts of a canonical text begin with: each function gives what stands at the
-- front of some bytes and what is left behind it, or nothing where the bytes begin with no such text.
use Rattle.std.specs.Prelude.{◌≡◌, ℕ, ℤ, pos, negsuc, ◌+◌, ◌-◌, ◌*◌, ◌==◌, nat_le, nat_lt, Bool, true, false, if◌then◌else◌, List, [], ◌∷◌, length, take, drop, codes, Option, Some, None, Result, Ok, Err}
use Rattle.std.specs.Char.{is_ascii_digit}
use Rattle.mesh_base_values.specs.declared.values.ColType.{ColType}
use Rattle.mesh_base_values.specs.declared.values.ColType.TheVariants as types
use Rattle.mesh_base_values.specs.declared.times.Unit.{Unit as TimeUnit}
use Rattle.mesh_base_values.specs.declared.times.Unit.TheVariants as units
use Rattle.mesh_base.specs.declared.expressions.Op.{Op}
use Rattle.mesh_base.specs.declared.expressions.Op.TheVariants as ops
use Rattle.mesh_base.specs.declared.expressions.Func.{Func}
use Rattle.mesh_base.specs.declared.expressions.Func.TheVariants as functions
use Rattle.mesh_base.specs.declared.expressions.AggKind.{AggKind}
use Rattle.mesh_base.specs.declared.expressions.AggKind.TheVariants as aggregates
use Rattle.mesh_base.specs.declared.expressions.Var.{Var}
use Rattle.mesh_base.specs.declared.expressions.Var.TheVariants as macros
use Rattle.mesh_base.specs.declared.queries.Join.{Join}
use Rattle.mesh_base.specs.declared.queries.Join.TheVariants as joins
use Rattle.mesh_canon_words.specs.declared.fault.CanonFault.{CanonFault}
use Rattle.mesh_canon_words.specs.declared.fault.CanonFault.TheVariants as faults
use Rattle.mesh_canon_words.specs.declared.heads.CellHead.{CellHead}
use Rattle.mesh_canon_words.specs.declared.heads.CellHead.TheVariants as cell_heads
use Rattle.mesh_canon_words.specs.declared.heads.Head.{Head}
use Rattle.mesh_canon_words.specs.declared.heads.Head.TheVariants as heads

-- one step of reading, and then the next
infixl 10 ◌>>=◌
abbrev pub ◌>>=◌ : {A B : Type 0} → Option A → (A → Option B) → Option B
None >>= next = None
(Some x) >>= next = next x

-- a refusal is one of the bytes, unless memory ran out
abbrev pub Refuses : {Y : Type 0} → CanonFault → Option Y → Type 0
Refuses faults.NotCanonical read = read ≡ None
Refuses faults.Memory read = Unit {0}

-- what was returned, seen by a view, is what reading gives, unless memory ran out
abbrev pub Gives : {X Y : Type 0} → (X → Y) → Result X CanonFault → Option Y → Type 0
Gives view (Ok x) read = read ≡ Some (view x)
Gives view (Err e) read = Refuses e read

-- what was found, seen by a view, is what reading gives
abbrev pub Finds : {X Y : Type 0} → (X → Y) → Option X → Option Y → Type 0
Finds view (Some x) read = read ≡ Some (view x)
Finds view None read = read ≡ None

-- what stands behind a word
unfoldable pub after : List ℕ → List ℕ → Option (List ℕ)
after [] bytes = Some bytes
after (w ∷ word) [] = None
after (w ∷ word) (b ∷ bytes) = if w == b then after word bytes else None

-- what is read, where a sign stands behind it
unfoldable pub then_at : {A : Type 0} → List ℕ → (List ℕ → Option (A × List ℕ)) → List ℕ → Option (A × List ℕ)
then_at sign read bytes = do
  x ← read bytes
  rest ← after sign x.1
  Some (x.0, rest)

-- a value and what is left, where its word was there, and else another choice
abbrev pub behind : {A : Type 0} → A → Option (List ℕ) → Option (A × List ℕ) → Option (A × List ℕ)
behind x None other = other
behind x (Some rest) other = Some (x, rest)

-- the value of the first word of a table that the bytes begin with
abbrev pub word_at : {A : Type 0} → List (List ℕ × A) → List ℕ → Option (A × List ℕ)
word_at [] bytes = None
word_at (entry ∷ table) bytes = behind entry.1 (after entry.0 bytes) (word_at table bytes)

-- the number of at most `most` that digits say, behind digits that say n
unfoldable pub digits_at : ℕ → ℕ → List ℕ → Option (ℕ × List ℕ)
digits_at most n [] = Some (n, [])
digits_at most n (b ∷ bytes) =
    if is_ascii_digit b
    then (if nat_le (n * 10 + (b - 48)) most then digits_at most (n * 10 + (b - 48)) bytes else None)
    else Some (n, b ∷ bytes)

-- a number of at most `most`: one digit, or more that don't begin with 0
unfoldable pub number_at : ℕ → List ℕ → Option (ℕ × List ℕ)
number_at most [] = None
number_at most (b ∷ bytes) =
    if b == 48 then Some (0, bytes)
    else (if is_ascii_digit b then digits_at most 0 (b ∷ bytes) else None)

-- the number n below zero, where it is below zero
abbrev pub below_zero : ℕ × List ℕ → Option (ℤ × List ℕ)
below_zero x = if x.0 == 0 then None else Some (negsuc (x.0 - 1), x.1)

-- the number from -most - 1 to -1 of these digits
abbrev pub below_at : ℕ → List ℕ → Option (ℤ × List ℕ)
below_at most bytes = number_at (most + 1) bytes >>= below_zero

-- the number behind a minus sign, where the sign came, and else a number without one
abbrev pub minus_or : ℕ → Option (List ℕ) → Option (ℤ × List ℕ) → Option (ℤ × List ℕ)
minus_or most None other = other
minus_or most (Some rest) other = below_at most rest

-- a number from -most - 1 to most
unfoldable pub signed_at : ℕ → List ℕ → Option (ℤ × List ℕ)
signed_at most bytes = minus_or most (after (codes "-") bytes) (number_at most bytes >>= λ x. Some (pos x.0, x.1))

-- a text with its length
unfoldable pub text_at : List ℕ → Option (List ℕ × List ℕ)
text_at bytes = do
  n ← number_at (length bytes) bytes
  rest ← after (codes ":") n.1
  if nat_lt (length rest) n.0 then None else Some (take n.0 rest, drop n.0 rest)

-- the first of two choices that is there
abbrev pub or_else : {A B : Type 0} → (B → A) → Option (B × List ℕ) → Option (A × List ℕ) → Option (A × List ℕ)
or_else f None other = other
or_else f (Some x) other = Some (f x.0, x.1)

-- how a cell with a value behind its word begins
unfoldable pub valued_head_at : List ℕ → Option (CellHead × List ℕ)
valued_head_at = word_at (
    (codes "(int ", cell_heads.Int)
    ∷ (codes "(text ", cell_heads.Text)
    ∷ (codes "(date ", cell_heads.Date)
    ∷ [])

-- how a cell that is a word begins
unfoldable pub bare_head_at : List ℕ → Option (CellHead × List ℕ)
bare_head_at = word_at (
    (codes "null", cell_heads.Null)
    ∷ (codes "true", cell_heads.True)
    ∷ (codes "false", cell_heads.False)
    ∷ [])

-- how a cell begins
unfoldable pub cell_head_at : List ℕ → Option (CellHead × List ℕ)
cell_head_at bytes = or_else (λ head. head) (valued_head_at bytes) (bare_head_at bytes)

-- how a column, a macro, NEG and NOT begin
unfoldable pub plain_head_at : List ℕ → Option (Head × List ℕ)
plain_head_at = word_at (
    (codes "(col ", heads.Col)
    ∷ (codes "(var ", heads.Macro)
    ∷ (codes "(neg ", heads.Neg)
    ∷ (codes "(not ", heads.Not)
    ∷ [])

-- how a test and a cast begin
unfoldable pub test_head_at : List ℕ → Option (Head × List ℕ)
test_head_at = word_at (
    (codes "(isnull ", heads.IsNull)
    ∷ (codes "(between ", heads.Between)
    ∷ (codes "(in ", heads.OneOf)
    ∷ (codes "(cast ", heads.Cast)
    ∷ [])

-- how a call, a CASE and an aggregate begin
unfoldable pub call_head_at : List ℕ → Option (Head × List ℕ)
call_head_at = word_at (
    (codes "(call ", heads.Call)
    ∷ (codes "(case ", heads.Case)
    ∷ (codes "(count", heads.CountAll)
    ∷ (codes "(agg ", heads.Agg)
    ∷ [])

-- how a node begins that is neither a literal nor an operator
unfoldable pub node_head_at : List ℕ → Option (Head × List ℕ)
node_head_at bytes =
    or_else (λ head. head) (plain_head_at bytes) (or_else (λ head. head) (test_head_at bytes) (call_head_at bytes))

-- how an operator of numbers begins
unfoldable pub number_op_at : List ℕ → Option (Op × List ℕ)
number_op_at = word_at (
    (codes "(add ", ops.Add)
    ∷ (codes "(sub ", ops.Sub)
    ∷ (codes "(mul ", ops.Mul)
    ∷ (codes "(div ", ops.Div)
    ∷ (codes "(rem ", ops.Rem)
    ∷ [])

-- how an operator of texts, and one that asks whether two are equal, begins
unfoldable pub equal_op_at : List ℕ → Option (Op × List ℕ)
equal_op_at = word_at (
    (codes "(cat ", ops.Cat)
    ∷ (codes "(eq ", ops.Eq)
    ∷ (codes "(ne ", ops.Ne)
    ∷ [])

-- how an operator begins that asks which of two comes first
unfoldable pub order_op_at : List ℕ → Option (Op × List ℕ)
order_op_at = word_at (
    (codes "(lt ", ops.Lt)
    ∷ (codes "(le ", ops.Le)
    ∷ (codes "(gt ", ops.Gt)
    ∷ (codes "(ge ", ops.Ge)
    ∷ [])

-- how an operator of truth values begins
unfoldable pub truth_op_at : List ℕ → Option (Op × List ℕ)
truth_op_at = word_at (
    (codes "(and ", ops.And)
    ∷ (codes "(or ", ops.Or)
    ∷ [])

-- how an operator begins that compares
unfoldable pub compare_op_at : List ℕ → Option (Op × List ℕ)
compare_op_at bytes = or_else (λ op. op) (equal_op_at bytes) (order_op_at bytes)

-- how an operator begins
unfoldable pub op_head_at : List ℕ → Option (Op × List ℕ)
op_head_at bytes =
    or_else (λ op. op) (number_op_at bytes) (or_else (λ op. op) (compare_op_at bytes) (truth_op_at bytes))

-- how a node of an expression begins
unfoldable pub head_at : List ℕ → Option (Head × List ℕ)
head_at bytes =
    or_else heads.Literal (cell_head_at bytes) (or_else heads.Binary (op_head_at bytes) (node_head_at bytes))

-- the word of a type
unfoldable pub type_at : List ℕ → Option (ColType × List ℕ)
type_at = word_at (
    (codes "int", types.Int)
    ∷ (codes "text", types.Text)
    ∷ (codes "date", types.Date)
    ∷ (codes "bool", types.Bool)
    ∷ [])

-- the word of a function of one value and a space
unfoldable pub one_func_at : List ℕ → Option (Func × List ℕ)
one_func_at = word_at (
    (codes "abs ", functions.Abs)
    ∷ (codes "length ", functions.Length)
    ∷ (codes "upper ", functions.Upper)
    ∷ (codes "lower ", functions.Lower)
    ∷ [])

-- the word of a function of several values and a space
unfoldable pub many_func_at : List ℕ → Option (Func × List ℕ)
many_func_at = word_at (
    (codes "nullif ", functions.Nullif)
    ∷ (codes "coalesce ", functions.Coalesce)
    ∷ [])

-- the word of a function and a space
unfoldable pub func_at : List ℕ → Option (Func × List ℕ)
func_at bytes = or_else (λ func. func) (one_func_at bytes) (many_func_at bytes)

-- the word of an aggregate and a space
unfoldable pub agg_at : List ℕ → Option (AggKind × List ℕ)
agg_at = word_at (
    (codes "count ", aggregates.Count)
    ∷ (codes "countd ", aggregates.Countd)
    ∷ (codes "sum ", aggregates.Sum)
    ∷ (codes "min ", aggregates.Min)
    ∷ (codes "max ", aggregates.Max)
    ∷ [])

-- the word of a macro for the start
unfoldable pub start_var_at : List ℕ → Option (Var × List ℕ)
start_var_at = word_at (
    (codes "start_date", macros.StartDate)
    ∷ (codes "start_ds", macros.StartDs)
    ∷ (codes "start_epoch", macros.StartEpoch)
    ∷ [])

-- the word of a macro for the end
unfoldable pub end_var_at : List ℕ → Option (Var × List ℕ)
end_var_at = word_at (
    (codes "end_date", macros.EndDate)
    ∷ (codes "end_ds", macros.EndDs)
    ∷ (codes "end_epoch", macros.EndEpoch)
    ∷ [])

-- the word of a macro
unfoldable pub macro_at : List ℕ → Option (Var × List ℕ)
macro_at bytes = or_else (λ var. var) (start_var_at bytes) (end_var_at bytes)

-- the word of a join and a space
unfoldable pub join_at : List ℕ → Option (Join × List ℕ)
join_at = word_at (
    (codes "first ", joins.First)
    ∷ (codes "inner ", joins.Inner)
    ∷ (codes "left ", joins.Left)
    ∷ (codes "cross ", joins.Cross)
    ∷ [])

-- the word of a unit and a space
unfoldable pub unit_at : List ℕ → Option (TimeUnit × List ℕ)
unit_at = word_at (
    (codes "hour ", units.Hour)
    ∷ (codes "day ", units.Day)
    ∷ [])

-- whether a SELECT is distinct, and a space
unfoldable pub distinct_at : List ℕ → Option (Bool × List ℕ)
distinct_at = word_at (
    (codes "distinct ", true)
    ∷ (codes "all ", false)
    ∷ [])

-- whether a SELECT is grouped, and a space
unfoldable pub grouped_at : List ℕ → Option (Bool × List ℕ)
grouped_at = word_at (
    (codes "grouped ", true)
    ∷ (codes "plain ", false)
    ∷ [])

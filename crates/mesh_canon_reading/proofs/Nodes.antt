-- Each kind of node that was written is read again, where its parts are.
use Rattle.std.proofs.Common.{◌≡◌, ℕ, suc, ◌-◌, ◌^◌, ◌<◌, true, List, [], ◌∷◌, ◌++◌, Option, Some, None, refl, ap, ◌∙◌, append_assoc, arith}
use Rattle.std.specs.Prelude.{codes}
use Rattle.std.specs.Fmt.{decimal}
use Rattle.mesh_base_values.specs.declared.values.Cell.{Cell}
use Rattle.mesh_base_values.specs.declared.values.ColType.{ColType}
use Rattle.mesh_base.specs.declared.expressions.Op.{Op}
use Rattle.mesh_base.specs.declared.expressions.Op.TheVariants as ops
use Rattle.mesh_base.specs.declared.expressions.Func.{Func}
use Rattle.mesh_base.specs.declared.expressions.Func.TheVariants as functions
use Rattle.mesh_base.specs.declared.expressions.AggKind.{AggKind}
use Rattle.mesh_base.specs.declared.expressions.AggKind.TheVariants as aggregates
use Rattle.mesh_base.specs.declared.expressions.Var.{Var}
use Rattle.mesh_base.specs.declared.expressions.Var.TheVariants as macros
use Rattle.mesh_base.specs.declared.expressions.Expr.{Expr}
use Rattle.mesh_base.specs.declared.expressions.Expr.TheVariants as exprs
use Rattle.mesh_base.specs.declared.expressions.When.{When}
use Rattle.mesh_canon_words.specs.declared.heads.CellHead.{CellHead}
use Rattle.mesh_canon_words.specs.declared.heads.Head.{Head}
use Rattle.mesh_canon_words.specs.declared.heads.Head.TheVariants as heads
use Rattle.mesh_canon_text.specs.Text.{◌·◌, agg_word, cell_text, func_word, macro_word, op_word, text_of, type_word}
use Rattle.mesh_canon_reading.specs.Fits.{cell_fits, text_fits}
use Rattle.mesh_canon_words.specs.Words.{◌>>=◌, after, agg_at, bare_head_at, call_head_at, cell_head_at, compare_op_at, end_var_at, equal_op_at, func_at, head_at, macro_at, many_func_at, node_head_at, number_op_at, one_func_at, op_head_at, or_else, order_op_at, plain_head_at, start_var_at, test_head_at, then_at, truth_op_at, valued_head_at}
use Rattle.mesh_canon_reading.specs.Reading.{agg_parts_at, between_at, binary_at, call_at, case_at, cast_at, cell_at, cell_parts_at, col_at, count_at, expr_at, list_at, literal_at, one_of_at, parts_at, variable_at, when_at}
use Rattle.mesh_canon_reading.proofs.Numbers.{number_again, text_again}
use Rattle.mesh_canon_reading.proofs.Values.{cell_again, type_again}

-- a text is read as an expression, whatever follows
abbrev pub Again : ℕ → List ℕ → Expr → Type 0
Again m t e = (rest : List ℕ) → expr_at m (t ++ rest) ≡ Some (e, rest)

abbrev pub AgainAll : ℕ → List ℕ → List Expr → Type 0
AgainAll m t es = (rest : List ℕ) → list_at (expr_at m) (t ++ rest) ≡ Some (es, rest)

abbrev pub AgainWhen : ℕ → List ℕ → When → Type 0
AgainWhen m t w = (rest : List ℕ) → when_at (expr_at m) (t ++ rest) ≡ Some (w, rest)

node_from : (m : ℕ) (head : Head) (bytes inner : List ℕ) (found : Option (Expr × List ℕ)) → head_at bytes ≡ Some (head, inner) → parts_at (expr_at m) head inner ≡ found → expr_at (suc m) bytes ≡ found
unfolding expr_at
node_from m head bytes inner found e f = rw e f

literal_by : (m : ℕ) (o : Option (CellHead × List ℕ)) (other : Option (Head × List ℕ)) (c : Cell) (rest : List ℕ) → (o >>= λ h. cell_parts_at h.0 h.1) ≡ Some (c, rest) → (or_else heads.Literal o other >>= λ h. parts_at (expr_at m) h.0 h.1) ≡ Some (exprs.Literal c, rest)
unfolding parts_at literal_at
literal_by m None other c rest e = absurd cc
literal_by m (Some h) other c rest e = rw e refl

pub literal_again : (m : ℕ) (c : Cell) → cell_fits c ≡ true → Again (suc m) (cell_text c) (exprs.Literal c)
unfolding expr_at head_at cell_at
literal_again m c fits rest =
    let bytes : List ℕ = cell_text c ++ rest in
    literal_by m (cell_head_at bytes) (or_else heads.Binary (op_head_at bytes) (node_head_at bytes)) c rest (cell_again c rest fits)

col_head : (bytes : List ℕ) → head_at (codes "(col " ++ bytes) ≡ Some (heads.Col, bytes)
unfolding head_at cell_head_at valued_head_at bare_head_at op_head_at number_op_at compare_op_at equal_op_at order_op_at truth_op_at node_head_at plain_head_at test_head_at call_head_at after
col_head bytes = refl

col_parts : (m item : ℕ) (name rest : List ℕ) → item < 2 ^ 32 → text_fits name ≡ true → parts_at (expr_at m) heads.Col ((decimal item ++ (32 ∷ (text_of name ++ (41 ∷ [])))) ++ rest) ≡ Some (exprs.Col item name, rest)
unfolding parts_at col_at then_at after
col_parts m item name rest small fits =
    let e : (decimal item ++ (32 ∷ (text_of name ++ (41 ∷ [])))) ++ rest ≡ decimal item ++ (32 ∷ (text_of name ++ (41 ∷ rest))) = simp append_assoc in
    rw (e, number_again (2 ^ 32 - 1) item (32 ∷ (text_of name ++ (41 ∷ rest))) (omega arith) (omega arith) refl, text_again name (41 ∷ rest) fits) refl

pub col_again : (m item : ℕ) (name : List ℕ) → item < 2 ^ 32 → text_fits name ≡ true → Again (suc m) (codes "(col " · decimal item · codes " " · text_of name · codes ")") (exprs.Col item name)
col_again m item name small fits rest = node_from m heads.Col _ _ _ (col_head ((decimal item ++ (32 ∷ (text_of name ++ (41 ∷ [])))) ++ rest)) (col_parts m item name rest small fits)

macro_head : (bytes : List ℕ) → head_at (codes "(var " ++ bytes) ≡ Some (heads.Macro, bytes)
unfolding head_at cell_head_at valued_head_at bare_head_at op_head_at number_op_at compare_op_at equal_op_at order_op_at truth_op_at node_head_at plain_head_at test_head_at call_head_at after
macro_head bytes = refl

macro_parts : (m : ℕ) (var : Var) (rest : List ℕ) → parts_at (expr_at m) heads.Macro ((macro_word var ++ (41 ∷ [])) ++ rest) ≡ Some (exprs.Macro var, rest)
unfolding parts_at variable_at macro_at start_var_at end_var_at after
macro_parts m macros.StartDate rest = refl
macro_parts m macros.EndDate rest = refl
macro_parts m macros.StartDs rest = refl
macro_parts m macros.EndDs rest = refl
macro_parts m macros.StartEpoch rest = refl
macro_parts m macros.EndEpoch rest = refl

pub macro_again : (m : ℕ) (var : Var) → Again (suc m) (codes "(var " · macro_word var · codes ")") (exprs.Macro var)
macro_again m var rest = node_from m heads.Macro _ _ _ (macro_head ((macro_word var ++ (41 ∷ [])) ++ rest)) (macro_parts m var rest)

count_head : (bytes : List ℕ) → head_at (codes "(count" ++ bytes) ≡ Some (heads.CountAll, bytes)
unfolding head_at cell_head_at valued_head_at bare_head_at op_head_at number_op_at compare_op_at equal_op_at order_op_at truth_op_at node_head_at plain_head_at test_head_at call_head_at after
count_head bytes = refl

count_parts : (m : ℕ) (rest : List ℕ) → parts_at (expr_at m) heads.CountAll (41 ∷ rest) ≡ Some (exprs.CountAll, rest)
unfolding parts_at count_at after
count_parts m rest = refl

pub count_again : (m : ℕ) → Again (suc m) (codes "(count)") exprs.CountAll
count_again m rest = node_from m heads.CountAll _ _ _ (count_head (41 ∷ rest)) (count_parts m rest)

binary_head : (op : Op) (bytes : List ℕ) → head_at (40 ∷ (op_word op ++ (32 ∷ bytes))) ≡ Some (heads.Binary op, bytes)
unfolding head_at cell_head_at valued_head_at bare_head_at op_head_at number_op_at compare_op_at equal_op_at order_op_at truth_op_at after
binary_head ops.Add bytes = refl
binary_head ops.Sub bytes = refl
binary_head ops.Mul bytes = refl
binary_head ops.Div bytes = refl
binary_head ops.Rem bytes = refl
binary_head ops.Cat bytes = refl
binary_head ops.Eq bytes = refl
binary_head ops.Ne bytes = refl
binary_head ops.Lt bytes = refl
binary_head ops.Le bytes = refl
binary_head ops.Gt bytes = refl
binary_head ops.Ge bytes = refl
binary_head ops.And bytes = refl
binary_head ops.Or bytes = refl

binary_parts : (m : ℕ) (op : Op) (left right : Expr) (l r rest : List ℕ) → Again m l left → Again m r right → parts_at (expr_at m) (heads.Binary op) (l ++ (32 ∷ (r ++ (41 ∷ rest)))) ≡ Some (exprs.Binary op left right, rest)
unfolding parts_at binary_at then_at after
binary_parts m op left right l r rest h k = rw (h (32 ∷ (r ++ (41 ∷ rest))), k (41 ∷ rest)) refl

pub binary_again : (m : ℕ) (op : Op) (left right : Expr) (l r : List ℕ) → Again m l left → Again m r right → Again (suc m) (codes "(" · op_word op · codes " " · l · codes " " · r · codes ")") (exprs.Binary op left right)
binary_again m op left right l r h k rest =
    let e : (op_word op ++ (32 ∷ (l ++ (32 ∷ (r ++ (41 ∷ [])))))) ++ rest ≡ op_word op ++ (32 ∷ (l ++ (32 ∷ (r ++ (41 ∷ rest))))) = simp append_assoc in
    ap (λ x. expr_at (suc m) (40 ∷ x)) e
    ∙ node_from m (heads.Binary op) _ _ _ (binary_head op (l ++ (32 ∷ (r ++ (41 ∷ rest))))) (binary_parts m op left right l r rest h k)

neg_head : (bytes : List ℕ) → head_at (codes "(neg " ++ bytes) ≡ Some (heads.Neg, bytes)
unfolding head_at cell_head_at valued_head_at bare_head_at op_head_at number_op_at compare_op_at equal_op_at order_op_at truth_op_at node_head_at plain_head_at test_head_at call_head_at after
neg_head bytes = refl

neg_parts : (m : ℕ) (value : Expr) (v rest : List ℕ) → Again m v value → parts_at (expr_at m) heads.Neg ((v ++ (41 ∷ [])) ++ rest) ≡ Some (exprs.Neg value, rest)
unfolding parts_at then_at after
neg_parts m value v rest h = rw (append_assoc v (41 ∷ []) rest, h (41 ∷ rest)) refl

pub neg_again : (m : ℕ) (value : Expr) (v : List ℕ) → Again m v value → Again (suc m) (codes "(neg " · v · codes ")") (exprs.Neg value)
neg_again m value v h rest = node_from m heads.Neg _ _ _ (neg_head ((v ++ (41 ∷ [])) ++ rest)) (neg_parts m value v rest h)

not_head : (bytes : List ℕ) → head_at (codes "(not " ++ bytes) ≡ Some (heads.Not, bytes)
unfolding head_at cell_head_at valued_head_at bare_head_at op_head_at number_op_at compare_op_at equal_op_at order_op_at truth_op_at node_head_at plain_head_at test_head_at call_head_at after
not_head bytes = refl

not_parts : (m : ℕ) (value : Expr) (v rest : List ℕ) → Again m v value → parts_at (expr_at m) heads.Not ((v ++ (41 ∷ [])) ++ rest) ≡ Some (exprs.Not value, rest)
unfolding parts_at then_at after
not_parts m value v rest h = rw (append_assoc v (41 ∷ []) rest, h (41 ∷ rest)) refl

pub not_again : (m : ℕ) (value : Expr) (v : List ℕ) → Again m v value → Again (suc m) (codes "(not " · v · codes ")") (exprs.Not value)
not_again m value v h rest = node_from m heads.Not _ _ _ (not_head ((v ++ (41 ∷ [])) ++ rest)) (not_parts m value v rest h)

isnull_head : (bytes : List ℕ) → head_at (codes "(isnull " ++ bytes) ≡ Some (heads.IsNull, bytes)
unfolding head_at cell_head_at valued_head_at bare_head_at op_head_at number_op_at compare_op_at equal_op_at order_op_at truth_op_at node_head_at plain_head_at test_head_at call_head_at after
isnull_head bytes = refl

isnull_parts : (m : ℕ) (value : Expr) (v rest : List ℕ) → Again m v value → parts_at (expr_at m) heads.IsNull ((v ++ (41 ∷ [])) ++ rest) ≡ Some (exprs.IsNull value, rest)
unfolding parts_at then_at after
isnull_parts m value v rest h = rw (append_assoc v (41 ∷ []) rest, h (41 ∷ rest)) refl

pub isnull_again : (m : ℕ) (value : Expr) (v : List ℕ) → Again m v value → Again (suc m) (codes "(isnull " · v · codes ")") (exprs.IsNull value)
isnull_again m value v h rest = node_from m heads.IsNull _ _ _ (isnull_head ((v ++ (41 ∷ [])) ++ rest)) (isnull_parts m value v rest h)

between_head : (bytes : List ℕ) → head_at (codes "(between " ++ bytes) ≡ Some (heads.Between, bytes)
unfolding head_at cell_head_at valued_head_at bare_head_at op_head_at number_op_at compare_op_at equal_op_at order_op_at truth_op_at node_head_at plain_head_at test_head_at call_head_at after
between_head bytes = refl

between_parts : (m : ℕ) (value low high : Expr) (v l h rest : List ℕ) → Again m v value → Again m l low → Again m h high → parts_at (expr_at m) heads.Between ((v ++ (32 ∷ (l ++ (32 ∷ (h ++ (41 ∷ [])))))) ++ rest) ≡ Some (exprs.Between value low high, rest)
unfolding parts_at between_at then_at after
between_parts m value low high v l h rest a b c =
    let e : (v ++ (32 ∷ (l ++ (32 ∷ (h ++ (41 ∷ [])))))) ++ rest ≡ v ++ (32 ∷ (l ++ (32 ∷ (h ++ (41 ∷ rest))))) = simp append_assoc in
    rw (e, a (32 ∷ (l ++ (32 ∷ (h ++ (41 ∷ rest))))), b (32 ∷ (h ++ (41 ∷ rest))), c (41 ∷ rest)) refl

pub between_again : (m : ℕ) (value low high : Expr) (v l h : List ℕ) → Again m v value → Again m l low → Again m h high → Again (suc m) (codes "(between " · v · codes " " · l · codes " " · h · codes ")") (exprs.Between value low high)
between_again m value low high v l h a b c rest =
    node_from m heads.Between _ _ _ (between_head ((v ++ (32 ∷ (l ++ (32 ∷ (h ++ (41 ∷ [])))))) ++ rest)) (between_parts m value low high v l h rest a b c)

in_head : (bytes : List ℕ) → head_at (codes "(in " ++ bytes) ≡ Some (heads.OneOf, bytes)
unfolding head_at cell_head_at valued_head_at bare_head_at op_head_at number_op_at compare_op_at equal_op_at order_op_at truth_op_at node_head_at plain_head_at test_head_at call_head_at after
in_head bytes = refl

in_parts : (m : ℕ) (value : Expr) (of : List Expr) (v o rest : List ℕ) → Again m v value → AgainAll m o of → parts_at (expr_at m) heads.OneOf ((v ++ (32 ∷ (o ++ (41 ∷ [])))) ++ rest) ≡ Some (exprs.OneOf value of, rest)
unfolding parts_at one_of_at then_at after
in_parts m value of v o rest a b =
    let e : (v ++ (32 ∷ (o ++ (41 ∷ [])))) ++ rest ≡ v ++ (32 ∷ (o ++ (41 ∷ rest))) = simp append_assoc in
    rw (e, a (32 ∷ (o ++ (41 ∷ rest))), b (41 ∷ rest)) refl

pub in_again : (m : ℕ) (value : Expr) (of : List Expr) (v o : List ℕ) → Again m v value → AgainAll m o of → Again (suc m) (codes "(in " · v · codes " " · o · codes ")") (exprs.OneOf value of)
in_again m value of v o a b rest = node_from m heads.OneOf _ _ _ (in_head ((v ++ (32 ∷ (o ++ (41 ∷ [])))) ++ rest)) (in_parts m value of v o rest a b)

cast_head : (bytes : List ℕ) → head_at (codes "(cast " ++ bytes) ≡ Some (heads.Cast, bytes)
unfolding head_at cell_head_at valued_head_at bare_head_at op_head_at number_op_at compare_op_at equal_op_at order_op_at truth_op_at node_head_at plain_head_at test_head_at call_head_at after
cast_head bytes = refl

cast_parts : (m : ℕ) (to : ColType) (value : Expr) (v rest : List ℕ) → Again m v value → parts_at (expr_at m) heads.Cast ((type_word to ++ (32 ∷ (v ++ (41 ∷ [])))) ++ rest) ≡ Some (exprs.Cast to value, rest)
unfolding parts_at cast_at then_at after
cast_parts m to value v rest a =
    let e : (type_word to ++ (32 ∷ (v ++ (41 ∷ [])))) ++ rest ≡ type_word to ++ (32 ∷ (v ++ (41 ∷ rest))) = simp append_assoc in
    rw (e, type_again to (32 ∷ (v ++ (41 ∷ rest))), a (41 ∷ rest)) refl

pub cast_again : (m : ℕ) (to : ColType) (value : Expr) (v : List ℕ) → Again m v value → Again (suc m) (codes "(cast " · type_word to · codes " " · v · codes ")") (exprs.Cast to value)
cast_again m to value v a rest = node_from m heads.Cast _ _ _ (cast_head ((type_word to ++ (32 ∷ (v ++ (41 ∷ [])))) ++ rest)) (cast_parts m to value v rest a)

call_head : (bytes : List ℕ) → head_at (codes "(call " ++ bytes) ≡ Some (heads.Call, bytes)
unfolding head_at cell_head_at valued_head_at bare_head_at op_head_at number_op_at compare_op_at equal_op_at order_op_at truth_op_at node_head_at plain_head_at test_head_at call_head_at after
call_head bytes = refl

func_again : (func : Func) (rest : List ℕ) → func_at (func_word func ++ (32 ∷ rest)) ≡ Some (func, rest)
unfolding func_at one_func_at many_func_at after
func_again functions.Abs rest = refl
func_again functions.Length rest = refl
func_again functions.Upper rest = refl
func_again functions.Lower rest = refl
func_again functions.Nullif rest = refl
func_again functions.Coalesce rest = refl

call_parts : (m : ℕ) (func : Func) (args : List Expr) (a rest : List ℕ) → AgainAll m a args → parts_at (expr_at m) heads.Call ((func_word func ++ (32 ∷ (a ++ (41 ∷ [])))) ++ rest) ≡ Some (exprs.Call func args, rest)
unfolding parts_at call_at after
call_parts m func args a rest h =
    let e : (func_word func ++ (32 ∷ (a ++ (41 ∷ [])))) ++ rest ≡ func_word func ++ (32 ∷ (a ++ (41 ∷ rest))) = simp append_assoc in
    rw (e, func_again func (a ++ (41 ∷ rest)), h (41 ∷ rest)) refl

pub call_again : (m : ℕ) (func : Func) (args : List Expr) (a : List ℕ) → AgainAll m a args → Again (suc m) (codes "(call " · func_word func · codes " " · a · codes ")") (exprs.Call func args)
call_again m func args a h rest = node_from m heads.Call _ _ _ (call_head ((func_word func ++ (32 ∷ (a ++ (41 ∷ [])))) ++ rest)) (call_parts m func args a rest h)

case_head : (bytes : List ℕ) → head_at (codes "(case " ++ bytes) ≡ Some (heads.Case, bytes)
unfolding head_at cell_head_at valued_head_at bare_head_at op_head_at number_op_at compare_op_at equal_op_at order_op_at truth_op_at node_head_at plain_head_at test_head_at call_head_at after
case_head bytes = refl

case_parts : (m : ℕ) (whens : List When) (otherwise : Expr) (w o rest : List ℕ) → ((more : List ℕ) → list_at (when_at (expr_at m)) (w ++ more) ≡ Some (whens, more)) → Again m o otherwise → parts_at (expr_at m) heads.Case ((w ++ (32 ∷ (o ++ (41 ∷ [])))) ++ rest) ≡ Some (exprs.Case whens otherwise, rest)
unfolding parts_at case_at then_at after
case_parts m whens otherwise w o rest a b =
    let e : (w ++ (32 ∷ (o ++ (41 ∷ [])))) ++ rest ≡ w ++ (32 ∷ (o ++ (41 ∷ rest))) = simp append_assoc in
    rw (e, a (32 ∷ (o ++ (41 ∷ rest))), b (41 ∷ rest)) refl

pub case_again : (m : ℕ) (whens : List When) (otherwise : Expr) (w o : List ℕ) → ((more : List ℕ) → list_at (when_at (expr_at m)) (w ++ more) ≡ Some (whens, more)) → Again m o otherwise → Again (suc m) (codes "(case " · w · codes " " · o · codes ")") (exprs.Case whens otherwise)
case_again m whens otherwise w o a b rest = node_from m heads.Case _ _ _ (case_head ((w ++ (32 ∷ (o ++ (41 ∷ [])))) ++ rest)) (case_parts m whens otherwise w o rest a b)

agg_head : (bytes : List ℕ) → head_at (codes "(agg " ++ bytes) ≡ Some (heads.Agg, bytes)
unfolding head_at cell_head_at valued_head_at bare_head_at op_head_at number_op_at compare_op_at equal_op_at order_op_at truth_op_at node_head_at plain_head_at test_head_at call_head_at after
agg_head bytes = refl

kind_again : (kind : AggKind) (rest : List ℕ) → agg_at (agg_word kind ++ (32 ∷ rest)) ≡ Some (kind, rest)
unfolding agg_at after
kind_again aggregates.Count rest = refl
kind_again aggregates.Countd rest = refl
kind_again aggregates.Sum rest = refl
kind_again aggregates.Min rest = refl
kind_again aggregates.Max rest = refl

agg_parts : (m : ℕ) (kind : AggKind) (value : Expr) (v rest : List ℕ) → Again m v value → parts_at (expr_at m) heads.Agg ((agg_word kind ++ (32 ∷ (v ++ (41 ∷ [])))) ++ rest) ≡ Some (exprs.Agg kind value, rest)
unfolding parts_at agg_parts_at then_at after
agg_parts m kind value v rest a =
    let e : (agg_word kind ++ (32 ∷ (v ++ (41 ∷ [])))) ++ rest ≡ agg_word kind ++ (32 ∷ (v ++ (41 ∷ rest))) = simp append_assoc in
    rw (e, kind_again kind (v ++ (41 ∷ rest)), a (41 ∷ rest)) refl

pub agg_again : (m : ℕ) (kind : AggKind) (value : Expr) (v : List ℕ) → Again m v value → Again (suc m) (codes "(agg " · agg_word kind · codes " " · v · codes ")") (exprs.Agg kind value)
agg_again m kind value v a rest = node_from m heads.Agg _ _ _ (agg_head ((agg_word kind ++ (32 ∷ (v ++ (41 ∷ [])))) ++ rest)) (agg_parts m kind value v rest a)

pub when_again : (m : ℕ) (test value : Expr) (t v : List ℕ) → Again m t test → Again m v value → AgainWhen m (codes "(when " · t · codes " " · v · codes ")") (record { test = test; value = value })
unfolding when_at then_at after
when_again m test value t v a b rest =
    let e : (t ++ (32 ∷ (v ++ (41 ∷ [])))) ++ rest ≡ t ++ (32 ∷ (v ++ (41 ∷ rest))) = simp append_assoc in
    rw (e, a (32 ∷ (v ++ (41 ∷ rest))), b (41 ∷ rest)) refl

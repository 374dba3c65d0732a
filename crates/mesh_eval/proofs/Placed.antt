-- Rows of values that are known to be where expressions are bound.
use Rattle.std.proofs.Common.{◌≡◌, List, [], ◌∷◌, map, IfOk, if◌then◌else◌, refl, sym, ap, subst, ◌∙◌}
use Rattle.std.specs.declared.option.Option.{Option}
use Rattle.std.specs.declared.option.Option.TheVariants.{None, Some}
use Rattle.std.specs.declared.result.Result.{Result}
use Rattle.mesh_list.specs.declared.memory.Memory.{Memory}
use Rattle.mesh_base_values.specs.declared.times.Bounds.{Bounds}
use Rattle.mesh_base_values.specs.declared.values.Column.{Column}
use Rattle.mesh_base.specs.declared.expressions.Expr.{Expr}
use Rattle.mesh_base.specs.declared.queries.Item.{Item}
use Rattle.mesh_base.specs.declared.queries.Select.{Select}
use Rattle.mesh_spec_query.specs.Cells.{is_true}
use Rattle.mesh_spec_query.specs.Ev.{Ev}
use Rattle.mesh_spec_query.specs.Sel.{Joined, item_row, key_list, row_scope}
use Rattle.mesh_eval_expressions.specs.declared.bound.forms.Bound.{Bound}
use Rattle.mesh_eval_expressions.specs.bound.Meaning.{Given, AreBound, given_scope, row_alone}
use Rattle.mesh_eval.specs.Placed.{values_at, bound_holds, given_group, AreItems, IsCondition, IsOutput}

pub key_rows : {A : Type 0} (u : Bounds) (columns : List (List Column)) (all own : List Expr) (bound there : List Bound) (f : A → Joined) (rows : List A)
    → own ≡ all → there ≡ bound → AreBound u columns [] own bound
    → map (λ row. values_at there (f row)) rows ≡ map (λ row. key_list u columns all (f row)) rows
key_rows u columns all own bound there f rows e g h =
    ap (λ p. map (λ row. values_at p (f row)) rows) g ∙ (λ i. map (λ row. h (row_alone (f row)) i) rows) ∙ ap (λ k. map (λ row. key_list u columns k (f row)) rows) e

pub item_rows : (u : Bounds) (columns : List (List Column)) (items own : List Item) (bound there : List Bound) (rows : List Joined)
    → own ≡ items → there ≡ bound → AreItems u columns [] own bound
    → map (values_at there) rows ≡ map (λ row. item_row items (row_scope u columns row)) rows
item_rows u columns items own bound there rows e g h =
    ap (λ p. map (values_at p) rows) g ∙ (λ i. map (λ row. h (row_alone row) i) rows) ∙ ap (λ k. map (λ row. item_row k (row_scope u columns row)) rows) e

pub condition-none : (u : Bounds) (columns : List (List Column)) (keys : List Expr) (condition : Option Expr) → condition ≡ None → IsCondition u columns keys condition None
condition-none u columns keys condition is = subst (λ (o : Option Expr). IsCondition u columns keys o None) (sym is) (λ g. refl)

pub condition-some : (u : Bounds) (columns : List (List Column)) (keys : List Expr) (condition : Option Expr) (e : Expr) (r : Result (Option Bound) Memory) → condition ≡ Some e
    → IfOk r (λ made. (g : Given) → bound_holds made g ≡ is_true (Ev e (given_scope u columns keys g))) → IfOk r (IsCondition u columns keys condition)
condition-some u columns keys condition e r is h = subst (λ (o : Option Expr). IfOk r (IsCondition u columns keys o)) (sym is) h

-- a HAVING and items give the rows of a SELECT's groups
pub output-is : (u : Bounds) (columns : List (List Column)) (q : Select) (keys : List Expr) (own : List Item) (having : Option Bound) (items : List Bound) → keys ≡ q.keys → own ≡ q.items
    → IsCondition u columns keys q.having having → AreItems u columns keys own items → IsOutput u columns q (record { having = having; items = items })
output-is u columns q keys own having items e f h k = λ g.
    let h′ : IsCondition u columns q.keys q.having having = subst (λ ks. IsCondition u columns ks q.having having) e h in
    let k′ : AreItems u columns q.keys q.items items = subst (λ own. AreItems u columns q.keys own items) f (subst (λ ks. AreItems u columns ks own items) e k) in
    λ i. if (h′ (given_group g) i) then (k′ (given_group g) i ∷ []) else []

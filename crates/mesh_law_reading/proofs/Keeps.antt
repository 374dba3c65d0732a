-- What every form of an expression keeps of its operands holds of every expression that the walk gives.
use Rattle.std.proofs.Common.{◌≡◌, ℕ, ℤ, Bool, List, Some, None, Ok}
use Rattle.std.specs.List.{AllByRecursion}
use Rattle.std.specs.Option.{ForSome}
use Rattle.std.specs.declared.option.Option.{Option}
use Rattle.mesh_base_values.specs.declared.values.ColType.{ColType}
use Rattle.mesh_base_values.specs.declared.values.ColType.TheVariants.{Text as TextType, Date as DateType, Bool as Truth}
use Rattle.mesh_base_values.specs.declared.values.Cell.TheVariants as cell
use Rattle.mesh_base.specs.declared.expressions.Expr as expr
use Rattle.mesh_query_grammar.specs.declared.surface.signs.AddSign.{AddSign}
use Rattle.mesh_query_grammar.specs.declared.surface.signs.Cmp.{Cmp}
use Rattle.mesh_query_grammar.specs.declared.surface.signs.Function.{Function}
use Rattle.mesh_query_grammar.specs.declared.surface.signs.MulSign.{MulSign}
use Rattle.mesh_resolve_types.specs.declared.typed.Typed.{Typed}
use Rattle.mesh_resolve_types.specs.Forms.{leaf, either, both, joined, multiplied, added, negated, denied, null_test, turned, compare_op, compared, between, one_of, cast, called, starred, distinct, cased}
use Rattle.mesh_resolve_scope.specs.sight.InSight.{Sight}
use Rattle.mesh_resolve_scope.specs.sight.Sight.{column, macro_typed}
use Rattle.mesh_resolve_scope.specs.Expressions.{number}

-- each form gives what has the property, where its operands have it
pub record Keeps (sight : Sight) (Q : Typed → Type 0) : Type 0 where
  pub number : (at value : ℕ) (t : Typed) → number at value ≡ Ok t → Q t
  pub text : (at : ℕ) (text : List ℕ) → Q (leaf at (Some TextType) (expr.Literal (cell.Text text)))
  pub date : (at : ℕ) (day : ℤ) → Q (leaf at (Some DateType) (expr.Literal (cell.Date day)))
  pub truth : (at : ℕ) (value : Bool) → Q (leaf at (Some Truth) (expr.Literal (cell.Bool value)))
  pub null : (at : ℕ) → Q (leaf at None (expr.Literal cell.Null))
  pub macro : (at : ℕ) (word : List ℕ) (t : Typed) → macro_typed sight at word ≡ Ok t → Q t
  pub column : (at : ℕ) (item : Option (List ℕ)) (name : List ℕ) (t : Typed) → column sight at item name ≡ Ok t → Q t
  pub either : (at : ℕ) (l r t : Typed) → Q l → Q r → either at l r ≡ Ok t → Q t
  pub both : (at : ℕ) (l r t : Typed) → Q l → Q r → both at l r ≡ Ok t → Q t
  pub joined : (at : ℕ) (l r t : Typed) → Q l → Q r → joined at l r ≡ Ok t → Q t
  pub multiplied : (s : MulSign) (at : ℕ) (l r t : Typed) → Q l → Q r → multiplied s at l r ≡ Ok t → Q t
  pub added : (s : AddSign) (at : ℕ) (l r t : Typed) → Q l → Q r → added s at l r ≡ Ok t → Q t
  pub negated : (at : ℕ) (x t : Typed) → Q x → negated at x ≡ Ok t → Q t
  pub denied : (at : ℕ) (x t : Typed) → Q x → denied at x ≡ Ok t → Q t
  pub tested : (not_null : Bool) (at : ℕ) (x : Typed) → Q x → Q (turned not_null (null_test at x))
  pub compared : (cmp : Cmp) (at : ℕ) (l r t : Typed) → Q l → Q r → compared (compare_op cmp) at l r ≡ Ok t → Q t
  pub between : (not_within : Bool) (at : ℕ) (x low high t : Typed) → Q x → Q low → Q high → between at x low high ≡ Ok t → Q (turned not_within t)
  pub one_of : (none_of : Bool) (at : ℕ) (x : Typed) (of : List Typed) (t : Typed) → Q x → AllByRecursion Q of → one_of at x of ≡ Ok t → Q (turned none_of t)
  pub cast : (at : ℕ) (to : ColType) (x t : Typed) → Q x → cast at to x ≡ Ok t → Q t
  pub called : (at : ℕ) (f : Function) (of : List Typed) (t : Typed) → AllByRecursion Q of → called at f of ≡ Ok t → Q t
  pub starred : (at : ℕ) (f : Function) (t : Typed) → starred at f ≡ Ok t → Q t
  pub distinct : (at : ℕ) (f : Function) (x t : Typed) → Q x → distinct at f x ≡ Ok t → Q t
  pub cased : (at : ℕ) (operand : Option Typed) (arms : List (Typed × Typed)) (otherwise : Option Typed) (t : Typed)
      → ForSome operand Q → AllByRecursion (λ (a : Typed × Typed). Q a.0 × Q a.1) arms → ForSome otherwise Q → cased at operand arms otherwise ≡ Ok t → Q t

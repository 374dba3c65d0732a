-- Sources that a model can't tell apart, and what a query reads, worked out by hand.
use Rattle.std.proofs.Common.{◌≡◌, ℕ, pos, false, List, [], ◌∷◌, refl, ap, sym, ◌∙◌, subst}
use Rattle.std.specs.Prelude.{codes}
use Rattle.std.specs.List.{All}
use Rattle.std.specs.declared.option.Option.TheVariants.{None}
use Rattle.std.proofs.lemmas.List.Elements.{All-nil, All-cons}
use Rattle.mesh_base_values.specs.Bag.{IsSameBag}
use Rattle.mesh_base_values.specs.declared.values.Cell.{Cell}
use Rattle.mesh_base_values.specs.declared.values.Cell.TheVariants as cell
use Rattle.mesh_base_values.specs.declared.values.ColType.TheVariants as type
use Rattle.mesh_base_values.specs.declared.values.Column.{Column}
use Rattle.mesh_base_values.specs.declared.values.Name.{Name}
use Rattle.mesh_base.specs.declared.definitions.Decl.{Decl}
use Rattle.mesh_base.specs.declared.definitions.Defn.TheVariants.{Sql}
use Rattle.mesh_base.specs.declared.definitions.Own.{Own}
use Rattle.mesh_base.specs.declared.expressions.Expr.{Expr, roll-Expr, fold-roll-Expr}
use Rattle.mesh_base.specs.declared.expressions.Expr as expr
use Rattle.mesh_base.specs.declared.expressions.Expr.TheOpen.{Col}
use Rattle.mesh_base.specs.declared.queries.Join.TheVariants as join
use Rattle.mesh_base.specs.declared.queries.Query.{Query}
use Rattle.mesh_base.specs.declared.queries.Rel.TheVariants as rel
use Rattle.mesh_base.specs.declared.jobs.Input.{Input}
use Rattle.mesh_spec_query.specs.Named.{Place, columns, columns_here, columns_when}
use Rattle.mesh_spec_model.specs.Closures.{Closure, Model, Alone, own_of}
use Rattle.mesh_spec_model.specs.Horizons.{Clock}
use Rattle.mesh_spec_model.specs.Scratch.{from_scratch}
use Rattle.mesh_spec_model.specs.Sources.{declared}
use Rattle.mesh_law_query.specs.Loads.{HasSameSources, HaveSameSources}
use Rattle.mesh_law_query.specs.Reads.{defn_reads, reads}
use Rattle.mesh_law_query.proofs.Perm.{swap}
use Rattle.mesh_law_query.proofs.Bags.{counts_same}
use Rattle.mesh_law_query.proofs.Models.{model_bag}

abbrev orders_name : Name
orders_name = record { schema = codes "raw"; model = codes "orders" }

abbrev id : Column
id = record { name = codes "id"; kind = type.Int }

abbrev qty : Column
qty = record { name = codes "qty"; kind = type.Int }

abbrev note : Column
note = record { name = codes "note"; kind = type.Text }

-- a model declares `id` and `qty` of raw.orders
abbrev orders : Decl
orders = record { name = orders_name; columns = id ∷ qty ∷ []; time = None }

abbrev as_declared : List Input
as_declared = record { name = orders_name; columns = id ∷ qty ∷ []; rows = (cell.Int (pos 1) ∷ cell.Int (pos 5) ∷ []) ∷ (cell.Int (pos 2) ∷ cell.Null ∷ []) ∷ [] } ∷ []

-- the columns in another order with one more among them, and the rows in another order
abbrev permuted : List Input
permuted =
    record {
      name = orders_name;
      columns = qty ∷ note ∷ id ∷ [];
      rows = (cell.Null ∷ cell.Text (codes "x") ∷ cell.Int (pos 2) ∷ []) ∷ (cell.Int (pos 5) ∷ cell.Null ∷ cell.Int (pos 1) ∷ []) ∷ [];
    } ∷ []

abbrev first : List Cell
first = cell.Int (pos 1) ∷ cell.Int (pos 5) ∷ []

abbrev second : List Cell
second = cell.Int (pos 2) ∷ cell.Null ∷ []

orders_are_one_bag : IsSameBag (declared as_declared orders).rows (declared permuted orders).rows
orders_are_one_bag = counts_same {xs = first ∷ second ∷ []} {ys = second ∷ first ∷ []} (swap {x = first} {y = second} {xs = []})

one_source : (own : Own) → own.sources ≡ orders ∷ [] → HasSameSources as_declared permuted own
one_source own e =
    let P : Decl → Type 0 = λ d. IsSameBag (declared as_declared d).rows (declared permuted d).rows in
    subst (All P) (sym e) (All-cons P orders [] orders_are_one_bag (All-nil P))

-- whatever a model makes of them
columns_may_be_permuted : (own : Own) → own.sources ≡ orders ∷ [] → (clock : Clock) → IsSameBag (from_scratch as_declared clock (Model own Alone)) (from_scratch permuted clock (Model own Alone))
columns_may_be_permuted own e clock =
    let P : Closure → Type 0 = λ s. HasSameSources as_declared permuted (own_of s) in
    let same : HaveSameSources as_declared permuted (Model own Alone) = All-cons P (Model own Alone) [] (one_source own e) (All-nil P) in
    model_bag as_declared permuted (Model own Alone) same clock

abbrev p : Name
p = record { schema = codes "a"; model = codes "p" }

abbrev q : Name
q = record { schema = codes "a"; model = codes "q" }

x_of_p : Expr
x_of_p = expr.Col 0 (codes "x")

y_of_q : Expr
y_of_q = expr.Col 1 (codes "y")

-- SELECT p.x, q.y FROM a.p AS p, a.q AS q
abbrev of_both : Query
of_both = record {
  ctes = [];
  selects = record {
    distinct = false;
    grouped = false;
    items = record { name = codes "x"; kind = type.Int; expr = x_of_p } ∷ record { name = codes "y"; kind = type.Int; expr = y_of_q } ∷ [];
    from = record { join = join.First; rel = rel.Named p; on = None } ∷ record { join = join.Cross; rel = rel.Named q; on = None } ∷ [];
    filter = None;
    keys = [];
    having = None;
  } ∷ [];
}

a_column_names_itself : (item : ℕ) (name : List ℕ) → columns (expr.Col item name) ≡ (item, name) ∷ []
unfolding roll-Expr denote.Hole.Carrier.roll
a_column_names_itself item name = fold-roll-Expr (List Place) (List Place) columns_here columns_when (Col item name)

x_names : columns x_of_p ≡ (0, codes "x") ∷ []
unfolding x_of_p
x_names = a_column_names_itself 0 (codes "x")

y_names : columns y_of_q ≡ (1, codes "y") ∷ []
unfolding y_of_q
y_names = a_column_names_itself 1 (codes "y")

-- it reads `x` alone of p, and `y` alone of q
of_p_it_reads_x : (own : Own) → own.defn ≡ Sql of_both → reads own p ≡ codes "x" ∷ []
of_p_it_reads_x own e = ap (λ d. defn_reads d p) e ∙ simp (x_names, y_names) refl

of_q_it_reads_y : (own : Own) → own.defn ≡ Sql of_both → reads own q ≡ codes "y" ∷ []
of_q_it_reads_y own e = ap (λ d. defn_reads d q) e ∙ simp (x_names, y_names) refl

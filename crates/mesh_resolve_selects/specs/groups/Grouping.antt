-- The rule on groups: in a grouped SELECT a column outside an aggregate stands in a part that equals a key; aggregates
-- stand in items and HAVING alone, and not in one another.
use Rattle.std.specs.Prelude.{ℕ, Bool, true, false, ◌||◌, not, List, [], ◌∷◌, ◌++◌, map, nat_le, Some, None, if◌then◌else◌}
use Rattle.std.specs.List.{list_any, flat_map}
use Rattle.std.specs.declared.option.Option.{Option}
use Rattle.mesh_base.specs.declared.expressions.Expr.{Expr, fold-Expr, para-Expr, map-Expr, roll-Expr, out-Expr}
use Rattle.mesh_base.specs.declared.expressions.Expr.TheOpen.{Expr-F, When-F, Literal, Col, Macro, Binary, Neg, Not, IsNull, Between, OneOf, Cast, Call, Case, CountAll, Agg}
use Rattle.mesh_base.specs.declared.expressions.When.{When, fold-When, para-When}
use Rattle.mesh_base.specs.contracts.expressions.ExprPartialEq.TheImpl.{eq-value}

-- an expression has an aggregate: one node, with the answer for each part
abbrev pub aggregate_here : Expr-F Bool Bool → Bool
aggregate_here (Literal c) = false
aggregate_here (Col item name) = false
aggregate_here (Macro var) = false
aggregate_here (Binary op left right) = left || right
aggregate_here (Neg value) = value
aggregate_here (Not value) = value
aggregate_here (IsNull value) = value
aggregate_here (Between value low high) = value || (low || high)
aggregate_here (OneOf value of) = value || list_any (λ b. b) of
aggregate_here (Cast to value) = value
aggregate_here (Call func args) = list_any (λ b. b) args
aggregate_here (Case whens otherwise) = list_any (λ b. b) whens || otherwise
aggregate_here CountAll = true
aggregate_here (Agg kind value) = true

abbrev pub when_aggregate : When-F Bool Bool → Bool
when_aggregate w = w.test || w.value

abbrev pub has_aggregate : Expr → Bool
has_aggregate = fold-Expr Bool Bool aggregate_here when_aggregate

abbrev pub aggregate_when : When → Bool
aggregate_when = fold-When Bool Bool aggregate_here when_aggregate

-- For each column and aggregate, in the order of the walk, whether it breaks the rule. An expression's marks are the
-- places of these.
abbrev pub Breaches : Type 0
Breaches = List Bool

abbrev pub all_together : List Breaches → Breaches
all_together = flat_map (λ (b : Breaches). b)

-- where no aggregate may stand: in ON, in WHERE, in a key, and in another aggregate
abbrev pub barred_here : Expr-F Breaches Breaches → Breaches
barred_here (Literal c) = []
barred_here (Col item name) = false ∷ []
barred_here (Macro var) = []
barred_here (Binary op left right) = left ++ right
barred_here (Neg value) = value
barred_here (Not value) = value
barred_here (IsNull value) = value
barred_here (Between value low high) = value ++ (low ++ high)
barred_here (OneOf value of) = value ++ all_together of
barred_here (Cast to value) = value
barred_here (Call func args) = all_together args
barred_here (Case whens otherwise) = all_together whens ++ otherwise
barred_here CountAll = true ∷ []
barred_here (Agg kind value) = value ++ true ∷ []

abbrev pub when_barred : When-F Breaches Breaches → Breaches
when_barred w = w.test ++ w.value

abbrev pub barred : Expr → Breaches
barred = fold-Expr Breaches Breaches barred_here when_barred

abbrev pub barred_when : When → Breaches
barred_when = fold-When Breaches Breaches barred_here when_barred

-- In an item and in HAVING. Where columns are free they may stand by themselves: in a SELECT that isn't grouped, and
-- in a part that equals a key.
abbrev pub Placed : Type 0
Placed = Bool → Breaches

abbrev pub is_key : List Expr → Expr → Bool
is_key keys e = list_any (λ key. eq-value.it key e) keys

abbrev pub Part : Type 0
Part = Expr × Placed

abbrev pub ArmPart : Type 0
ArmPart = When × Placed

abbrev pub part_placed : Bool → Part → Breaches
part_placed free p = p.1 free

abbrev pub arm_placed : Bool → ArmPart → Breaches
arm_placed free w = w.1 free

abbrev pub placed_node : Expr-F Part ArmPart → Placed
placed_node (Literal c) free = []
placed_node (Col item name) free = not free ∷ []
placed_node (Macro var) free = []
placed_node (Binary op left right) free = left.1 free ++ right.1 free
placed_node (Neg value) free = value.1 free
placed_node (Not value) free = value.1 free
placed_node (IsNull value) free = value.1 free
placed_node (Between value low high) free = value.1 free ++ (low.1 free ++ high.1 free)
placed_node (OneOf value of) free = value.1 free ++ flat_map (part_placed free) of
placed_node (Cast to value) free = value.1 free
placed_node (Call func args) free = flat_map (part_placed free) args
placed_node (Case whens otherwise) free = flat_map (arm_placed free) whens ++ otherwise.1 free
placed_node CountAll free = false ∷ []
placed_node (Agg kind value) free = barred value.0 ++ false ∷ []

-- the node itself
abbrev pub node_of : Expr-F Part ArmPart → Expr-F Expr When
node_of (Literal c) = Literal c
node_of (Col item name) = Col item name
node_of (Macro var) = Macro var
node_of (Binary op left right) = Binary op left.0 right.0
node_of (Neg value) = Neg value.0
node_of (Not value) = Not value.0
node_of (IsNull value) = IsNull value.0
node_of (Between value low high) = Between value.0 low.0 high.0
node_of (OneOf value of) = OneOf value.0 (map (λ (p : Part). p.0) of)
node_of (Cast to value) = Cast to value.0
node_of (Call func args) = Call func (map (λ (p : Part). p.0) args)
node_of (Case whens otherwise) = Case (map (λ (w : ArmPart). w.0) whens) otherwise.0
node_of CountAll = CountAll
node_of (Agg kind value) = Agg kind value.0

abbrev pub placed_here : List Expr → Expr-F Part ArmPart → Placed
placed_here keys node free = placed_node node (free || is_key keys (roll-Expr (node_of node)))

abbrev pub when_placed : When-F Part ArmPart → Placed
when_placed w free = w.test.1 free ++ w.value.1 free

abbrev pub placed : List Expr → Expr → Placed
placed keys = para-Expr Placed Placed (placed_here keys) when_placed

abbrev pub placed_when : List Expr → When → Placed
placed_when keys = para-When Placed Placed (placed_here keys) when_placed

-- a node, where each part comes with its breaches
abbrev pub with_placed : List Expr → Expr-F Expr When → Expr-F Part ArmPart
with_placed keys = map-Expr Expr When Part ArmPart (λ e. (e, placed keys e)) (λ w. (w, placed_when keys w))

-- the parts of an expression, whether it equals a key or not
abbrev pub placed_parts : List Expr → Expr → Placed
placed_parts keys e free = placed_node (with_placed keys (out-Expr e)) free

abbrev pub placed_all : List Expr → List Expr → Placed
placed_all keys es free = flat_map (part_placed free) (map (λ e. (e, placed keys e)) es)

abbrev pub placed_whens : List Expr → List When → Placed
placed_whens keys whens free = flat_map (arm_placed free) (map (λ w. (w, placed_when keys w)) whens)

-- the places of those that break the rule
abbrev pub breaking : List ℕ → Breaches → List ℕ
breaking (m ∷ ms) (true ∷ bs) = m ∷ breaking ms bs
breaking (m ∷ ms) (false ∷ bs) = breaking ms bs
breaking _ _ = []

-- the place that stands first in the text
abbrev pub earlier : ℕ → Option ℕ → Option ℕ
earlier m None = Some m
earlier m (Some n) = if nat_le m n then Some m else Some n

abbrev pub earliest : List ℕ → Option ℕ
earliest [] = None
earliest (m ∷ ms) = earlier m (earliest ms)

-- ON, WHERE and keys have no aggregate: where the first one stands
unfoldable pub misplaced : List ℕ → Expr → Option ℕ
misplaced marks e = earliest (breaking marks (barred e))

-- an item or HAVING keeps the rule: where it is broken first
unfoldable pub ungrouped : Bool → List Expr → List ℕ → Expr → Option ℕ
ungrouped grouped keys marks e = earliest (breaking marks (placed keys e (not grouped)))

-- The rules of the grammar, and what may be left of one when its beginning has been read. What is left holds what was
-- read: the place of the first token, and the parts.
use Rattle.std.specs.Prelude.{ℕ, List, Option, Bool}
use Rattle.mesh_base_values.specs.declared.values.ColType.{ColType}
use Rattle.mesh_query_grammar.specs.declared.surface.signs.Function.{Function}
use Rattle.mesh_query_grammar.specs.declared.surface.expressions.OrExpr.{OrExpr}
use Rattle.mesh_query_grammar.specs.declared.surface.expressions.AndExpr.{AndExpr}
use Rattle.mesh_query_grammar.specs.declared.surface.expressions.NotExpr.{NotExpr}
use Rattle.mesh_query_grammar.specs.declared.surface.expressions.Pred.{Pred}
use Rattle.mesh_query_grammar.specs.declared.surface.expressions.Test.{Test}
use Rattle.mesh_query_grammar.specs.declared.surface.expressions.CatExpr.{CatExpr}
use Rattle.mesh_query_grammar.specs.declared.surface.expressions.AddExpr.{AddExpr}
use Rattle.mesh_query_grammar.specs.declared.surface.expressions.AddStep.{AddStep}
use Rattle.mesh_query_grammar.specs.declared.surface.expressions.MulExpr.{MulExpr}
use Rattle.mesh_query_grammar.specs.declared.surface.expressions.MulStep.{MulStep}
use Rattle.mesh_query_grammar.specs.declared.surface.expressions.Unary.{Unary}
use Rattle.mesh_query_grammar.specs.declared.surface.expressions.Post.{Post}
use Rattle.mesh_query_grammar.specs.declared.surface.expressions.Primary.{Primary}
use Rattle.mesh_query_grammar.specs.declared.surface.expressions.Arm.{Arm}
use Rattle.mesh_query_grammar.specs.declared.surface.expressions.Args.{Args}
use Rattle.mesh_query_grammar.specs.declared.surface.queries.Surface.{Surface}
use Rattle.mesh_query_grammar.specs.declared.surface.queries.SurfaceCte.{SurfaceCte}
use Rattle.mesh_query_grammar.specs.declared.surface.queries.SurfaceUnion.{SurfaceUnion}
use Rattle.mesh_query_grammar.specs.declared.surface.queries.SurfaceSelect.{SurfaceSelect}
use Rattle.mesh_query_grammar.specs.declared.surface.queries.SurfaceItem.{SurfaceItem}
use Rattle.mesh_query_grammar.specs.declared.surface.queries.SurfaceFrom.{SurfaceFrom}
use Rattle.mesh_query_grammar.specs.declared.surface.queries.SurfaceJoin.{SurfaceJoin}
use Rattle.mesh_query_grammar.specs.declared.surface.queries.SurfaceRel.{SurfaceRel}

pub data Rule : Type 0 where
  expr : Rule
  more_ors : ℕ → List AndExpr → Rule
  conjunction : Rule
  more_ands : ℕ → List NotExpr → Rule
  negation : Rule
  pred : Rule
  tested : Rule
  -- BETWEEN or IN, without the NOT before it
  ranged : Bool → Rule
  cat : Rule
  more_cats : ℕ → List AddExpr → Rule
  sum : Rule
  more_sums : ℕ → MulExpr → List AddStep → Rule
  product : Rule
  more_products : ℕ → Unary → List MulStep → Rule
  signed : Rule
  post : Rule
  more_casts : ℕ → Primary → List ColType → Rule
  value : Rule
  -- what stands behind a name
  named : ℕ → List ℕ → Rule
  group : Rule
  case : Rule
  cast : Rule
  operand : Rule
  arms : Rule
  more_arms : List Arm → Rule
  arm : Rule
  otherwise : Rule
  arguments : Function → Rule
  exprs : Rule
  more_exprs : List OrExpr → Rule
  item : Rule
  items : Rule
  more_items : List SurfaceItem → Rule
  alias : Rule
  qualified : Rule
  relation : Rule
  relations : Rule
  more_joins : ℕ → SurfaceRel → List SurfaceJoin → Rule
  join : Rule
  -- a relation and the condition behind ON
  joined : Rule
  source : Rule
  condition : List ℕ → Rule
  keys : Rule
  select : Rule
  -- what stands behind SELECT or SELECT DISTINCT
  selected : ℕ → Bool → Rule
  union : Rule
  more_selects : ℕ → List SurfaceSelect → Rule
  cte : Rule
  cte_list : Rule
  more_ctes : List SurfaceCte → Rule
  ctes : Rule
  query : Rule

-- what a rule spells
abbrev pub Tree : Rule → Type 0
Tree expr = OrExpr
Tree (more_ors at xs) = OrExpr
Tree conjunction = AndExpr
Tree (more_ands at xs) = AndExpr
Tree negation = NotExpr
Tree pred = Pred
Tree tested = Test
Tree (ranged g) = Test
Tree cat = CatExpr
Tree (more_cats at xs) = CatExpr
Tree sum = AddExpr
Tree (more_sums at x xs) = AddExpr
Tree product = MulExpr
Tree (more_products at x xs) = MulExpr
Tree signed = Unary
Tree post = Post
Tree (more_casts at v ks) = Post
Tree value = Primary
Tree (named at name) = Primary
Tree group = Primary
Tree case = Primary
Tree cast = Primary
Tree operand = Option OrExpr
Tree arms = List Arm
Tree (more_arms xs) = List Arm
Tree arm = Arm
Tree otherwise = Option OrExpr
Tree (arguments f) = Args
Tree exprs = List OrExpr
Tree (more_exprs xs) = List OrExpr
Tree item = SurfaceItem
Tree items = List SurfaceItem
Tree (more_items xs) = List SurfaceItem
Tree alias = Option (List ℕ)
Tree qualified = Option (List ℕ) × List ℕ
Tree relation = SurfaceRel
Tree relations = SurfaceFrom
Tree (more_joins at r xs) = SurfaceFrom
Tree join = SurfaceJoin
Tree joined = SurfaceRel × OrExpr
Tree source = Option SurfaceFrom
Tree (condition w) = Option OrExpr
Tree keys = List OrExpr
Tree select = SurfaceSelect
Tree (selected at d) = SurfaceSelect
Tree union = SurfaceUnion
Tree (more_selects at xs) = SurfaceUnion
Tree cte = SurfaceCte
Tree cte_list = List SurfaceCte
Tree (more_ctes xs) = List SurfaceCte
Tree ctes = List SurfaceCte
Tree query = Surface

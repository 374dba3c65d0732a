-- Twins in a small project, worked out by hand, and models that are none.
use Rattle.std.proofs.Common.{◌≡◌, ℕ, pos, Bool, true, false, List, [], ◌∷◌, map, length, inl, inr, refl, ap, sym, ◌∙◌, arith}
use Rattle.std.specs.Prelude.{codes}
use Rattle.std.specs.declared.option.Option.TheVariants.{None, Some}
use Rattle.std.proofs.lemmas.List.Elements.{All-cons}
use Rattle.mesh_base_values.specs.Crons.{CronSets, count_below, has, has_date, has_day, is_cron, is_set, some_below}
use Rattle.mesh_base_values.specs.declared.kinds.Kind.TheVariants as kind
use Rattle.mesh_base_values.specs.declared.times.Unit.TheVariants as unit
use Rattle.mesh_base_values.specs.declared.values.Cell.TheVariants as cell
use Rattle.mesh_base_values.specs.declared.values.ColType.TheVariants as type
use Rattle.mesh_base_values.specs.declared.values.Column.{Column}
use Rattle.mesh_base_values.specs.declared.values.Name.{Name}
use Rattle.mesh_base.specs.Outputs.{columns_of}
use Rattle.mesh_base.specs.declared.definitions.Defn.{Defn}
use Rattle.mesh_base.specs.declared.definitions.Defn.TheVariants as defn
use Rattle.mesh_base.specs.declared.definitions.Own.{Own}
use Rattle.mesh_base.specs.declared.expressions.Expr.{Expr, roll-Expr, fold-roll-Expr}
use Rattle.mesh_base.specs.declared.expressions.Expr as expr
use Rattle.mesh_base.specs.declared.expressions.Expr.TheOpen.{Col}
use Rattle.mesh_base.specs.declared.plans.Category.TheVariants.{IndirectNonBreaking}
use Rattle.mesh_base.specs.declared.queries.Item.{Item}
use Rattle.mesh_base.specs.declared.queries.Join.TheVariants as join
use Rattle.mesh_base.specs.declared.queries.Rel.TheVariants as rel
use Rattle.mesh_base.specs.declared.queries.Select.{Select}
use Rattle.mesh_base.specs.declared.rules.relations.Parent.{Parent}
use Rattle.mesh_base.specs.rules.Proper.{is_well_formed}
use Rattle.mesh_base.specs.rules.Relations.{parent_relation}
use Rattle.mesh_base.specs.rules.Seen.{column_at, is_select_seen, select_sees, sees, sees_here, when_sees}
use Rattle.mesh_spec_query.specs.Named.{Place, columns, columns_here, columns_when}
use Rattle.mesh_spec_model.specs.Closures.{Closure, Closures, Model, Alone, With, ancestors, each_of, own_of}
use Rattle.mesh_law_query.specs.Found.{model_relation}
use Rattle.mesh_law_query.specs.Reads.{reads}
use Rattle.mesh_law_query.proofs.Lists.{Each}
use Rattle.mesh_spec_changes.specs.reuse.Categories.{HasCategory, Stated}
use Rattle.mesh_spec_changes.specs.reuse.Cores.{pruned, IsTwin}
use Rattle.mesh_spec_changes.specs.reuse.Compatible.{IsAdditive, IsCompatible, keep, no_more, skip}
use Rattle.mesh_law_reuse.specs.Well.{IsWell, AreWell}
use Rattle.mesh_law_reuse.proofs.Fit.{well_twins}
use Rattle.mesh_law_reuse.proofs.Projects.{well_ancestors}
use Rattle.mesh_law_reuse.proofs.Staying.{staying_twins}

abbrev pub every_day : CronSets
every_day = record { minute = 1; hour = 1; dom = 0xffff_fffe; month = 0x1ffe; dow = 0x7f; dom_star = true; dow_star = true }

abbrev pub named : List ℕ → Name
named model = record { schema = codes "a"; model = model }

pub column_x : Expr
column_x = expr.Col 0 (codes "x")

pub column_y : Expr
column_y = expr.Col 0 (codes "y")

a_column_names_itself : (item : ℕ) (name : List ℕ) → columns (expr.Col item name) ≡ (item, name) ∷ []
unfolding roll-Expr denote.Hole.Carrier.roll
a_column_names_itself item name = fold-roll-Expr (List Place) (List Place) columns_here columns_when (Col item name)

x_names : columns column_x ≡ (0, codes "x") ∷ []
unfolding column_x
x_names = a_column_names_itself 0 (codes "x")

y_names : columns column_y ≡ (0, codes "y") ∷ []
unfolding column_y
y_names = a_column_names_itself 0 (codes "y")

abbrev x : Item
x = record { name = codes "x"; kind = type.Int; expr = column_x }

abbrev y : Item
y = record { name = codes "y"; kind = type.Int; expr = column_y }

-- SELECT these items FROM one model
abbrev picks : List ℕ → List Item → Select
picks from items = record { distinct = false; grouped = false; items = items; from = record { join = join.First; rel = rel.Named (named from); on = None } ∷ []; filter = None; keys = []; having = None }

abbrev full : List ℕ → List ℕ → List Item → Own
full model from items = record { name = named model; kind = kind.Full; cron = every_day; unit = unit.Day; start = None; sources = []; defn = defn.Sql (record { ctes = []; selects = picks from items ∷ [] }) }

-- a seed of one row
abbrev pub rows : Closure
rows =
    Model (record {
      name = named (codes "t");
      kind = kind.Seed;
      cron = every_day;
      unit = unit.Day;
      start = None;
      sources = [];
      defn = defn.Seed (record { name = codes "x"; kind = type.Int } ∷ record { name = codes "y"; kind = type.Int } ∷ []) ((cell.Int (pos 1) ∷ cell.Int (pos 2) ∷ []) ∷ []);
    }) Alone

abbrev pub over : Own → Closure → Closure
over own parent = Model own (With parent Alone)

-- a model shows x of it, and later y beside it
abbrev pub narrow : Closure
narrow = over (full (codes "p") (codes "t") (x ∷ [])) rows

abbrev pub wide : Closure
wide = over (full (codes "p") (codes "t") (x ∷ y ∷ [])) rows

adds_y : (model from : List ℕ) → IsAdditive (full model from (x ∷ [])) (full model from (x ∷ y ∷ []))
adds_y model from = record { ctes = []; select = picks from (x ∷ []); items = x ∷ y ∷ []; plain = refl; was = refl; more = keep (skip no_more); is = refl }

pub wide_adds : IsCompatible narrow wide
wide_adds = (inr (adds_y (codes "p") (codes "t")), (refl, (inl refl, tt), tt))

-- how many items a closure's first parent shows
abbrev pub items_of : List Select → ℕ
items_of [] = 0
items_of (s ∷ ss) = length s.items

abbrev pub defn_items : Defn → ℕ
defn_items (defn.Seed cs all) = 0
defn_items (defn.Sql q) = items_of q.selects

abbrev pub parents_items : Closures → ℕ
parents_items Alone = 0
parents_items (With c cs) = defn_items (own_of c).defn

abbrev pub above : Closure → ℕ
above (Model own parents) = parents_items parents

-- what reads x of the first and of the second is no one closure, and yet twins
abbrev pub reader : Own
reader = full (codes "g") (codes "p") (x ∷ [])

it_reads_x : reads reader (named (codes "p")) ≡ codes "x" ∷ []
it_reads_x = simp (x_names) refl

readers_of_x_differ : ¬ (over reader narrow ≡ over reader wide)
readers_of_x_differ e = let n : 1 ≡ 2 = ap above e in absurd (omega (arith, n))

pub readers_of_x_are_twins : IsTwin (over reader narrow) (over reader wide)
readers_of_x_are_twins =
    ap (λ names. Model reader (With (pruned names narrow) Alone)) it_reads_x
    ∙ sym (ap (λ names. Model reader (With (pruned names wide) Alone)) it_reads_x)

-- What reads y was not well formed over the first. So compatible models with one definition aren't always twins.
abbrev early : Own
early = full (codes "g") (codes "p") (y ∷ [])

it_reads_y : reads early (named (codes "p")) ≡ codes "y" ∷ []
it_reads_y = simp (y_names) refl

readers_of_y_are_compatible : IsCompatible (over early narrow) (over early wide)
readers_of_y_are_compatible = (inl refl, (refl, wide_adds, tt))

readers_of_y_are_no_twins : ¬ IsTwin (over early narrow) (over early wide)
readers_of_y_are_no_twins e =
    let none : 0 ≡ 1 =
    ap (λ names. above (Model early (With (pruned names narrow) Alone))) (sym it_reads_y)
    ∙ ap above e
    ∙ ap (λ names. above (Model early (With (pruned names wide) Alone))) it_reads_y in
    absurd (omega (arith, none))

-- a model as another one reads it
abbrev pub as_read : Closure → Parent
as_read c = record { rank = 0; name = (own_of c).name; columns = columns_of (own_of c) }

as_they_are_read : (cs : Closures) → map model_relation (each_of cs) ≡ map parent_relation (map as_read (each_of cs))
as_they_are_read Alone = refl
as_they_are_read (With c cs) = ap (λ rs. model_relation c ∷ rs) (as_they_are_read cs)

-- a model is well formed with all that it stands on, where it is with its parents, by computation, and each of them
-- is so
pub well_over : (own : Own) (parents : Closures) → is_well_formed (map as_read (each_of parents)) own ≡ true → Each AreWell (each_of parents) → AreWell (Model own parents)
well_over own parents rules rest =
    let first : IsWell (Model own parents) = (map as_read (each_of parents), rules, as_they_are_read parents) in
    All-cons IsWell (Model own parents) (ancestors parents) first (well_ancestors parents rest)

-- the schedule is one
pub it_is_read : is_cron every_day ≡ true
unfolding is_cron is_set some_below has count_below has_date has_day
it_is_read = refl

-- a column is there where a table has it
pub a_column_is_seen : (tables : List (List Column)) (item : ℕ) (name : List ℕ) → sees tables (expr.Col item name) ≡ column_at tables item name
unfolding roll-Expr denote.Hole.Carrier.roll
a_column_is_seen tables item name = fold-roll-Expr Bool Bool (sees_here tables) when_sees (Col item name)

pub x_is_seen : (tables : List (List Column)) → sees tables column_x ≡ column_at tables 0 (codes "x")
unfolding column_x
x_is_seen tables = a_column_is_seen tables 0 (codes "x")

pub y_is_seen : (tables : List (List Column)) → sees tables column_y ≡ column_at tables 0 (codes "y")
unfolding column_y
y_is_seen tables = a_column_is_seen tables 0 (codes "y")

-- the seed is well formed
pub rows_are_well : AreWell rows
rows_are_well = well_over (own_of rows) Alone (simp (it_is_read) refl) tt

-- so is the model that shows x of it, with the seed
pub narrow_is_well : AreWell narrow
unfolding is_select_seen select_sees
narrow_is_well = well_over (own_of narrow) (With rows Alone) (simp (it_is_read, x_is_seen) refl) (rows_are_well, tt)

-- and the one that shows y beside it
pub wide_is_well : AreWell wide
unfolding is_select_seen select_sees
wide_is_well = well_over (own_of wide) (With rows Alone) (simp (it_is_read, x_is_seen, y_is_seen) refl) (rows_are_well, tt)

-- and what reads x of the first, with both above it
pub reader_of_narrow_is_well : AreWell (over reader narrow)
unfolding is_select_seen select_sees
reader_of_narrow_is_well = well_over reader (With narrow Alone) (simp (it_is_read, x_is_seen) refl) (narrow_is_well, tt)

-- and what reads x of the second
pub reader_of_wide_is_well : AreWell (over reader wide)
unfolding is_select_seen select_sees
reader_of_wide_is_well = well_over reader (With wide Alone) (simp (it_is_read, x_is_seen) refl) (wide_is_well, tt)

-- nothing but y was added above what reads x
pub readers_of_x_are_compatible : IsCompatible (over reader narrow) (over reader wide)
readers_of_x_are_compatible = (inl refl, (refl, wide_adds, tt))

-- so the law of additions says too that the two are twins
pub twins_by_additions : IsTwin (over reader narrow) (over reader wide)
twins_by_additions = well_twins (over reader narrow) (over reader wide) readers_of_x_are_compatible refl reader_of_narrow_is_well reader_of_wide_is_well

abbrev pub at : List ℕ → Closure → Stated
at fingerprint c = record { fingerprint = fingerprint; closure = c }

-- under two fingerprints they have the category of what keeps its table
pub it_is_indirect : (f g : List ℕ) → ¬ (f ≡ g) → HasCategory (Some (at f (over reader narrow))) (at g (over reader wide)) IndirectNonBreaking
it_is_indirect f g differ = (λ e. absurd (differ e), λ d. (refl, readers_of_x_are_compatible))

-- so the law of tables that stay says it as well
pub twins_by_their_table : (f g : List ℕ) → ¬ (f ≡ g) → IsTwin (over reader narrow) (over reader wide)
twins_by_their_table f g differ = staying_twins (at f (over reader narrow)) (at g (over reader wide)) IndirectNonBreaking kind.Full (it_is_indirect f g differ) refl reader_of_narrow_is_well reader_of_wide_is_well

-- what reads y of the second is well formed
pub early_of_wide_is_well : AreWell (over early wide)
unfolding is_select_seen select_sees
early_of_wide_is_well = well_over early (With wide Alone) (simp (it_is_read, y_is_seen) refl) (wide_is_well, tt)

-- over the first it isn't, and that is the one premise of the law of additions that it lacks
pub early_of_narrow_is_not : ¬ AreWell (over early narrow)
early_of_narrow_is_not p = readers_of_y_are_no_twins (well_twins (over early narrow) (over early wide) readers_of_y_are_compatible refl p early_of_wide_is_well)

-- a model that shows all columns of the first, and of the second, so that it gains y too
abbrev all_of_narrow : Closure
all_of_narrow = over (full (codes "c") (codes "p") (x ∷ [])) narrow

abbrev all_of_wide : Closure
all_of_wide = over (full (codes "c") (codes "p") (x ∷ y ∷ [])) wide

-- it is well formed, before and after
pub all_are_well : AreWell all_of_narrow × AreWell all_of_wide
unfolding is_select_seen select_sees
all_are_well = (
  well_over (own_of all_of_narrow) (With narrow Alone) (simp (it_is_read, x_is_seen) refl) (narrow_is_well, tt),
  well_over (own_of all_of_wide) (With wide Alone) (simp (it_is_read, x_is_seen, y_is_seen) refl) (wide_is_well, tt),
)

-- what reads x of that
abbrev below : Own
below = full (codes "g") (codes "c") (x ∷ [])

-- it is well formed, before and after
pub below_all_they_are_well : AreWell (over below all_of_narrow) × AreWell (over below all_of_wide)
unfolding is_select_seen select_sees
below_all_they_are_well = (
  well_over below (With all_of_narrow Alone) (simp (it_is_read, x_is_seen) refl) (all_are_well.0, tt),
  well_over below (With all_of_wide Alone) (simp (it_is_read, x_is_seen) refl) (all_are_well.1, tt),
)

-- it is no one closure
pub below_all_they_differ : ¬ (over below all_of_narrow ≡ over below all_of_wide)
below_all_they_differ e = let n : 1 ≡ 2 = ap above e in absurd (omega (arith, n))

-- it has the category of what keeps its table, since y alone was added to both models above it
pub below_all_they_are_indirect : (f g : List ℕ) → ¬ (f ≡ g) → HasCategory (Some (at f (over below all_of_narrow))) (at g (over below all_of_wide)) IndirectNonBreaking
below_all_they_are_indirect f g differ = (λ e. absurd (differ e), λ d. (refl, (inl refl, (refl, (inr (adds_y (codes "c") (codes "p")), (refl, wide_adds, tt)), tt))))

-- so it is a twin, by the law of tables that stay
pub below_all_they_are_twins : (f g : List ℕ) → ¬ (f ≡ g) → IsTwin (over below all_of_narrow) (over below all_of_wide)
below_all_they_are_twins f g differ = staying_twins (at f (over below all_of_narrow)) (at g (over below all_of_wide)) IndirectNonBreaking kind.Full (below_all_they_are_indirect f g differ) refl below_all_they_are_well.0 below_all_they_are_well.1

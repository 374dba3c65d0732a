-- A small book, its closures and the project of its list, worked out by hand.
use Rattle.std.proofs.Common.{◌≡◌, ℕ, pos, true, false, List, [], ◌∷◌, map, refl}
use Rattle.std.specs.Prelude.{codes}
use Rattle.std.specs.declared.option.Option.TheVariants.{None, Some}
use Rattle.mesh_base_values.specs.declared.values.Cell.TheVariants as cell
use Rattle.mesh_base_values.specs.declared.values.ColType.TheVariants as type
use Rattle.mesh_base_values.specs.declared.values.Name.{Name}
use Rattle.mesh_base_values.specs.declared.times.Unit.TheVariants as unit
use Rattle.mesh_base_values.specs.declared.kinds.Kind.TheVariants as kind
use Rattle.mesh_base_values.specs.Crons.{CronSets, count_below, has, has_date, has_day, is_cron, is_set, some_below}
use Rattle.mesh_base.specs.declared.definitions.Defn.TheVariants as defn
use Rattle.mesh_base.specs.declared.definitions.Own.{Own}
use Rattle.mesh_base.specs.declared.queries.FromItem.{FromItem}
use Rattle.mesh_base.specs.declared.queries.Rel.TheVariants as rel
use Rattle.mesh_base.specs.declared.queries.Join.{Join}
use Rattle.mesh_base.specs.declared.queries.Join.TheVariants as join
use Rattle.mesh_base.specs.declared.snapshots.Node.{Node}
use Rattle.mesh_base.specs.declared.snapshots.Ref.{Ref}
use Rattle.mesh_base.specs.declared.snapshots.Snapshot.{Snapshot}
use Rattle.mesh_base.specs.rules.Seen.{is_select_seen, select_sees}
use Rattle.mesh_house_book.specs.declared.book.Book.{Book}
use Rattle.mesh_house_book.specs.WellFormed.{is_well_formed_book}
use Rattle.mesh_spec_model.specs.Closures.{Closure, Model, Alone, With, closures}
use Rattle.mesh_spec_changes.specs.listed.Closing.{closure_at}
use Rattle.mesh_spec_changes.specs.listed.Listed.{entries, is_list_fit, listed}

abbrev name : List ℕ → Name
name model = record { schema = codes "s"; model = model }

abbrev daily : CronSets
daily = record { minute = 1; hour = 1; dom = 0xffff_fffe; month = 0x1ffe; dow = 0x7f; dom_star = true; dow_star = true }

abbrev item : Join → List ℕ → FromItem
item by model = record { join = by; rel = rel.Named (name model); on = None }

-- SELECT without items FROM these
abbrev over : List ℕ → List FromItem → Own
over model from = record {
  name = name model;
  kind = kind.View;
  cron = daily;
  unit = unit.Day;
  start = None;
  sources = [];
  defn = defn.Sql (record { ctes = []; selects = record { distinct = false; grouped = false; items = []; from = from; filter = None; keys = []; having = None } ∷ [] });
}

abbrev seed : ℕ → Own
seed n = record {
  name = name (codes "z");
  kind = kind.Seed;
  cron = daily;
  unit = unit.Day;
  start = None;
  sources = [];
  defn = defn.Seed (record { name = codes "id"; kind = type.Int } ∷ []) ((cell.Int (pos n) ∷ []) ∷ []);
}

-- s.b stands on the seed s.z, and s.a on both
abbrev upper : Own
upper = over (codes "b") (item join.First (codes "z") ∷ [])

abbrev top : Own
top = over (codes "a") (item join.First (codes "z") ∷ item join.Cross (codes "b") ∷ [])

abbrev ref : List ℕ → ℕ → Ref
ref model n = record { name = name model; fingerprint = n ∷ [] }

abbrev snapshot : ℕ → Own → List Ref → ℕ → Snapshot
snapshot n own parents rank = record { name = own.name; fingerprint = n ∷ []; own = own; parents = parents; rank = rank; object = record { schema = codes "s__o"; model = n ∷ [] }; expires = pos 0 }

abbrev top_snapshot : Snapshot
top_snapshot = snapshot 1 top (ref (codes "b") 2 ∷ ref (codes "z") 4 ∷ []) 2

abbrev upper_snapshot : Snapshot
upper_snapshot = snapshot 2 upper (ref (codes "z") 4 ∷ []) 1

-- the seed stood with another row before, and no environment has it so
abbrev old_seed_snapshot : Snapshot
old_seed_snapshot = snapshot 3 (seed 5) [] 0

abbrev seed_snapshot : Snapshot
seed_snapshot = snapshot 4 (seed 6) [] 0

abbrev list : List Ref
list = ref (codes "a") 1 ∷ ref (codes "b") 2 ∷ ref (codes "z") 4 ∷ []

abbrev book : Book
book = record {
  version = 2;
  moment = pos 0;
  snapshots = top_snapshot ∷ upper_snapshot ∷ old_seed_snapshot ∷ seed_snapshot ∷ [];
  versions = [];
  environments = record { name = codes "e"; pending = false; list = list; previous = []; expires = None } ∷ [];
}

it_is_well_formed : is_well_formed_book book ≡ true
unfolding is_cron is_set some_below has count_below has_date has_day is_select_seen select_sees
it_is_well_formed = refl

its_list_is_fit : is_list_fit book.snapshots list ≡ true
its_list_is_fit = refl

-- a list without the seed has not the parents of its entries
without_a_parent : is_list_fit book.snapshots (ref (codes "a") 1 ∷ ref (codes "b") 2 ∷ []) ≡ false
without_a_parent = refl

by_rank_and_name : entries book.snapshots list ≡ seed_snapshot ∷ upper_snapshot ∷ top_snapshot ∷ []
by_rank_and_name = refl

abbrev node : ℕ → Own → List ℕ → ℕ → Node
node n own parents rank = record { own = own; parents = parents; rank = rank; fingerprint = n ∷ [] }

-- the places of the parents of s.a stand by their names: s.b at 1, and s.z at 0
its_nodes : listed book.snapshots list ≡ node 4 (seed 6) [] 0 ∷ node 2 upper (0 ∷ []) 1 ∷ node 1 top (1 ∷ 0 ∷ []) 2 ∷ []
its_nodes = refl

abbrev of_seed : Closure
of_seed = Model (seed 6) Alone

abbrev of_upper : Closure
of_upper = Model upper (With of_seed Alone)

abbrev of_top : Closure
of_top = Model top (With of_upper (With of_seed Alone))

its_closures : closures (listed book.snapshots list) ≡ of_seed ∷ of_upper ∷ of_top ∷ []
its_closures = refl

in_the_book : map (closure_at book.snapshots) list ≡ Some of_top ∷ Some of_upper ∷ Some of_seed ∷ []
in_the_book = refl

-- nothing stands under a fingerprint that the book doesn't know
unknown : closure_at book.snapshots (ref (codes "z") 7) ≡ None
unknown = refl

-- For which queries tables serve that were read.
use Rattle.std.proofs.Common.{◌≡◌, Bool, true, false, List, [], ◌∷◌, map, Some, refl, sym, ap, ◌∙◌}
use Rattle.std.specs.Prelude.{if◌then◌else◌}
use Rattle.std.specs.List.{filter}
use Rattle.mesh_base_values.specs.declared.values.Name.{Name}
use Rattle.mesh_base.specs.declared.jobs.Input.{Input}
use Rattle.mesh_base.specs.declared.queries.Query.{Query}
use Rattle.mesh_house.specs.declared.world.World.{World}
use Rattle.mesh_spec_changes.specs.shown.Shown.{each_there}
use Rattle.mesh_layer.specs.Lost.{first_of}
use Rattle.mesh_audit.specs.declared.tables.Model.{Model}
use Rattle.mesh_audit.specs.declared.tables.Pool.{Pool}
use Rattle.mesh_audit.specs.Audited.{Placed, asked, asked_tables, is_asked, lost_model, shown_table}
use Rattle.mesh_audit.specs.Pools.{Serves, lost_shown, mark, marks, plain, shown_model}

-- queries with the same marks name the same models
pub same_asked : (q r : Query) (all : List Placed) → marks q all ≡ marks r all → asked all q ≡ asked all r
same_asked q r [] h = refl
same_asked q r (m ∷ ms) h =
    at (is_asked q m) refl (is_asked r m) refl (let first : mark q m ≡ mark r m = cc h in first) (same_asked q r ms (let rest : marks q ms ≡ marks r ms = cc h in rest))
  where
    at : (b : Bool) → is_asked q m ≡ b → (c : Bool) → is_asked r m ≡ c → mark q m ≡ mark r m → asked ms q ≡ asked ms r → asked (m ∷ ms) q ≡ asked (m ∷ ms) r
    at true e true f k rest = rw (e, f) (ap (λ l. m ∷ l) rest)
    at false e false f k rest = rw (e, f) rest
    at true e false f k rest = absurd (let clash : 1 ≡ 0 = (rw (e, f) at k) in cc)
    at false e true f k rest = absurd (let clash : 0 ≡ 1 = (rw (e, f) at k) in cc)

-- tables of one query serve all that name the same models
pub serves : (w : World) (all : List Placed) (q : Query) (pool : Pool) → pool.marks ≡ marks q all → asked_tables w all q ≡ Some pool.tables → Serves w all pool
serves w all q pool is tables r same = ap (λ l. each_there (map (shown_table w) l)) (same_asked r q all (same ∙ is)) ∙ tables

-- before any is read, the tables are those of no model
pub serves_none : (w : World) (all : List Placed) → Serves w all (record { marks = []; tables = [] })
serves_none w [] r same = refl
serves_none w (m ∷ ms) r same = absurd (let clash : mark r m ∷ marks r ms ≡ [] = same in cc)

-- models as the code has them are the models of the plan
shown_all : (w : World) (ks : List Model) → map (shown_model w) ks ≡ map (shown_table w) (map plain ks)
shown_all w [] = refl
shown_all w (k ∷ ks) = ap (λ l. shown_model w k ∷ l) (shown_all w ks)

lost_all : (w : World) (ks : List Model) → map (lost_shown w) ks ≡ map (lost_model w) (map plain ks)
lost_all w [] = refl
lost_all w (k ∷ ks) = ap (λ l. lost_shown w k ∷ l) (lost_all w ks)

pub tables_are : (w : World) (ks : List Model) (ms : List Placed) (ts : List Input) → map plain ks ≡ ms → each_there (map (shown_model w) ks) ≡ Some ts → each_there (map (shown_table w) ms) ≡ Some ts
tables_are w ks ms ts is there = sym (ap each_there (shown_all w ks ∙ ap (map (shown_table w)) is)) ∙ there

pub lost_is : (w : World) (ks : List Model) (ms : List Placed) (o : Name) → map plain ks ≡ ms → first_of (map (lost_shown w) ks) ≡ Some o → first_of (map (lost_model w) ms) ≡ Some o
lost_is w ks ms o is lost = sym (ap first_of (lost_all w ks ∙ ap (map (lost_model w)) is)) ∙ lost

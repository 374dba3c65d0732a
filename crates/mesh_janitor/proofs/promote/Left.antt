-- The models that a plan leaves out are those that its list leaves out.
use Rattle.std.proofs.Common.{◌≡◌, Bool, true, false, cond, not, List, [], ◌∷◌, ◌++◌, map, Some, refl, ap, ◌∙◌}
use Rattle.std.specs.Prelude.{◌||◌, ℕ}
use Rattle.std.specs.List.{filter}
use Rattle.std.specs.Option.{is_none}
use Rattle.std.specs.Ordering.{is_eq}
use Rattle.std.specs.declared.option.Option.{Option}
use Rattle.mesh_list.specs.Keyed.{found}
use Rattle.mesh_list.proofs.Found.{found-placed}
use Rattle.mesh_base_values.specs.Names.{name_cmp}
use Rattle.mesh_base_values.specs.NameOrder.{names_exact}
use Rattle.mesh_base_values.specs.declared.values.Name.{Name}
use Rattle.mesh_base.specs.Keys.{ref_name}
use Rattle.mesh_base.specs.declared.snapshots.Ref.{Ref}
use Rattle.mesh_house_book.specs.Changes.{previous_of}
use Rattle.mesh_house_book.specs.declared.book.Book.{Book}
use Rattle.mesh_house.specs.declared.world.Change.TheVariants.{SetPending, Finalize}
use Rattle.mesh_spec_changes.specs.due.Plans.{Planned}
use Rattle.mesh_spec_changes.specs.Changes.{Plan, drops, expiry, gone, is_listed, name_itself, names_by_order, objects_by_name, planned_ref, points, promotes, refs_by_name}
use Rattle.mesh_spec_changes.specs.Environments.{env_at}
use Rattle.mesh_janitor.specs.promote.Promotion.{is_absent, left_out, paired, promotion}

by_test : (b : Bool) (r : Ref) (o : Option Name) (p : Option Ref) → is_none o ≡ is_none p → is_none (cond b (Some r.name) o) ≡ is_none (cond b (Some r) p)
by_test true r o p h = refl
by_test false r o p h = h

-- a name is looked up among the names as among the references
by_name : (list : List Ref) (n : Name) → is_none (found name_cmp name_itself n (map ref_name list)) ≡ is_none (found name_cmp ref_name n list)
by_name [] n = refl
by_name (r ∷ rs) n = by_test (is_eq (name_cmp r.name n)) r (found name_cmp name_itself n (map ref_name rs)) (found name_cmp ref_name n rs) (by_name rs n)

or_not : (b : Bool) (r : Ref) (o : Option Ref) (listed : Bool) → is_none o ≡ not listed → is_none (cond b (Some r) o) ≡ not (b || listed)
or_not true r o listed h = refl
or_not false r o listed h = h

listed_named : (all : List Planned) (n : Name) → is_none (found name_cmp ref_name n (refs_by_name all)) ≡ not (is_listed all n)
listed_named [] n = refl
listed_named (p ∷ ps) n =
    ap is_none (found-placed name_cmp names_exact ref_name (planned_ref p) n (refs_by_name ps))
    ∙ or_not (is_eq (name_cmp p.node.own.name n)) (planned_ref p) (found name_cmp ref_name n (refs_by_name ps)) (is_listed ps n) (listed_named ps n)

absent_is : (all : List Planned) (n : Name) → is_absent (map ref_name (refs_by_name all)) n ≡ not (is_listed all n)
absent_is all n = by_name (refs_by_name all) n ∙ listed_named all n

left_is_gone : (b : Book) (env : List ℕ) (all : List Planned) → left_out b env (refs_by_name all) ≡ gone b env all
left_is_gone b env all = ap (λ (p : Name → Bool). filter p (names_by_order (map ref_name (previous_of (env_at b env))))) (λ i n. absent_is all n i)

pub promotes_its_models : (b : Book) (plan : Plan) (objects : List Name) → paired (refs_by_name plan.models) objects ≡ objects_by_name plan.models → promotion b plan.env (refs_by_name plan.models) objects plan.moment ≡ promotes b plan
promotes_its_models b plan objects pairs = λ i.
    SetPending plan.env (refs_by_name plan.models) (expiry plan.env plan.moment)
    ∷ (map (points plan.env) (pairs i) ++ (map (drops plan.env) (left_is_gone b plan.env plan.models i) ++ Finalize plan.env ∷ []))

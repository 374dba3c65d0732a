-- The models among the names in a query, ascending by name, are the parents that a definition asks for.
use Rattle.std.proofs.Common.{◌≡◌, Bool, true, false, ◌||◌, cond, List, [], ◌∷◌, map, Option, Some, None, refl, sym, ap, ◌∙◌}
use Rattle.std.specs.List.{AllByRecursion, filter}
use Rattle.std.specs.Option.{is_some, option_map}
use Rattle.std.specs.Ordering.{is_eq}
use Rattle.std.specs.declared.cmp.Ordering.{Ordering}
use Rattle.std.specs.declared.cmp.Ordering.TheVariants.{Less, Equal, Greater}
use Rattle.mesh_list.specs.Keyed.{ascends, found, placed, put_by}
use Rattle.mesh_list.proofs.Ascends.{ascends-placed}
use Rattle.mesh_list.proofs.Each.{each_found}
use Rattle.mesh_list.proofs.Found.{found-placed}
use Rattle.mesh_base_values.specs.NameOrder.{names_exact, names_total}
use Rattle.mesh_base_values.specs.Names.{name_cmp}
use Rattle.mesh_base_values.specs.declared.values.Name.{Name}
use Rattle.mesh_base.specs.declared.rules.relations.Parent.{Parent}
use Rattle.mesh_base.specs.rules.Proper.{is_among}
use Rattle.mesh_base.specs.rules.Relations.{is_parent, parent_name, parent_relation, relation_columns}
use Rattle.mesh_resolve.specs.declared.known.Known.{Known}
use Rattle.mesh_law_reading.specs.Formed.{AreParentsAmong, by_name, parents_among}
use Rattle.mesh_law_reading.specs.Sight.{model_relation}
use Rattle.mesh_law_reading.proofs.Origins.{passed}

module _ (P : Parent → Type 0) (y : Parent) (here : P y) where
  each_placed : (xs : List Parent) → AllByRecursion P xs → AllByRecursion P (placed name_cmp parent_name y xs)
  each_placed [] all = (here, tt)
  each_placed (x ∷ xs) all = by_order (name_cmp x.name y.name) (each_placed xs all.1)
    where
      by_order : (o : Ordering) → AllByRecursion P (placed name_cmp parent_name y xs) → AllByRecursion P (put_by o x y xs (placed name_cmp parent_name y xs))
      by_order Less more = (all.0, more)
      by_order Equal more = (here, all.1)
      by_order Greater more = (here, all)

module _ (names : List Name) where
  abbrev named : Parent → Bool
  named p = is_among names p.name

  ascending : (ps : List Parent) → ascends name_cmp parent_name (by_name ps) ≡ true
  ascending [] = refl
  ascending (p ∷ ps) = ascends-placed name_cmp names_total parent_name p (by_name ps) (ascending ps)

  each_by_name : (P : Parent → Type 0) (ps : List Parent) → AllByRecursion P ps → AllByRecursion P (by_name ps)
  each_by_name P [] all = tt
  each_by_name P (p ∷ ps) all = each_placed P p all.0 (by_name ps) (each_by_name P ps all.1)

  each_named : (ps : List Parent) → AllByRecursion (λ (p : Parent). is_among names p.name ≡ true) (filter named ps)
  each_named [] = tt
  each_named (p ∷ ps) = by_test (named p) refl (each_named ps)
    where
      by_test : (b : Bool) → named p ≡ b → AllByRecursion (λ (p : Parent). is_among names p.name ≡ true) (filter named ps) → AllByRecursion (λ (p : Parent). is_among names p.name ≡ true) (cond b (p ∷ filter named ps) (filter named ps))
      by_test true e more = (e, more)
      by_test false e more = more

  found_by_name : (name : Name) (ps : List Parent) → found name_cmp parent_name name (by_name ps) ≡ found name_cmp parent_name name ps
  found_by_name name [] = refl
  found_by_name name (p ∷ ps) = found-placed name_cmp names_exact parent_name p name (by_name ps) ∙ ap (cond (is_eq (name_cmp p.name name)) (Some p)) (found_by_name name ps)

  -- what is found among them is what is found among all
  found_among : (models : List Parent) (name : Name) → is_among names name ≡ true → found name_cmp parent_name name (parents_among names models) ≡ found name_cmp parent_name name models
  found_among models name among =
      found_by_name name (filter named models) ∙ passed parent_name name named true (λ p e. ap (λ (n : Name). is_among names n) e ∙ among) models

  columns_found : (ps : List Parent) (name : Name) → relation_columns (map parent_relation ps) name ≡ option_map (λ (p : Parent). p.columns) (found name_cmp parent_name name ps)
  columns_found [] name = refl
  columns_found (p ∷ ps) name = by_first (is_eq (name_cmp p.name name)) (columns_found ps name)
    where
      by_first : (b : Bool) → relation_columns (map parent_relation ps) name ≡ option_map (λ (p : Parent). p.columns) (found name_cmp parent_name name ps)
          → cond b (Some p.columns) (relation_columns (map parent_relation ps) name) ≡ option_map (λ (p : Parent). p.columns) (cond b (Some p) (found name_cmp parent_name name ps))
      by_first true e = refl
      by_first false e = e

  parent_found : (ps : List Parent) (name : Name) → is_parent ps name ≡ is_some (found name_cmp parent_name name ps)
  parent_found [] name = refl
  parent_found (p ∷ ps) name = by_first (is_eq (name_cmp p.name name)) (parent_found ps name)
    where
      by_first : (b : Bool) → is_parent ps name ≡ is_some (found name_cmp parent_name name ps) → (b || is_parent ps name) ≡ is_some (cond b (Some p) (found name_cmp parent_name name ps))
      by_first true e = refl
      by_first false e = e

  some_columns : (o : Option Parent) → is_some (option_map (λ (p : Parent). p.columns) o) ≡ true → is_some o ≡ true
  some_columns None e = e
  some_columns (Some p) e = refl

  module _ (known : Known) (models : List Parent) (same : map model_relation known.models ≡ map parent_relation models) where
    of_model : (name : Name) → relation_columns (map model_relation known.models) name ≡ option_map (λ (p : Parent). p.columns) (found name_cmp parent_name name models)
    of_model name = ap (λ l. relation_columns l name) same ∙ columns_found models name

    each_model : (ps : List Parent) → AllByRecursion (λ (p : Parent). is_among names p.name ≡ true) ps → AllByRecursion (λ (p : Parent). found name_cmp parent_name p.name (parents_among names models) ≡ Some p) ps
        → AllByRecursion (λ (p : Parent). relation_columns (map model_relation known.models) p.name ≡ Some p.columns) ps
    each_model [] among all = tt
    each_model (p ∷ ps) among all =
        (of_model p.name ∙ ap (option_map (λ (p : Parent). p.columns)) (sym (found_among models p.name among.0) ∙ all.0), each_model ps among.1 all.1)

    parents_are : AreParentsAmong known names (parents_among names models)
    parents_are =
        let among = each_by_name (λ (p : Parent). is_among names p.name ≡ true) (filter named models) (each_named models) in
        record {
          ascend = ascending (filter named models);
          named = among;
          models = each_model (parents_among names models) among (each_found name_cmp names_total parent_name (parents_among names models) (ascending (filter named models)));
          each = λ name is there. parent_found (parents_among names models) name ∙ ap is_some (found_among models name is) ∙ some_columns (found name_cmp parent_name name models) (sym (ap is_some (of_model name)) ∙ there);
        }

pub named_parents : (names : List Name) (known : Known) (models : List Parent) → map model_relation known.models ≡ map parent_relation models → AreParentsAmong known names (parents_among names models)
named_parents = parents_are

-- Names that stand once: what a set of names answers.
use Rattle.std.proofs.Common.{◌≡◌, ℕ, zero, suc, ◌<◌, Bool, true, false, cond, List, [], ◌∷◌, map, length, Result, Ok, Err, refl, sym, ap, subst, ◌∙◌, arith}
use Rattle.std.proofs.lemmas.Cmp.{tied_itself}
use Rattle.std.proofs.lemmas.List.{length-map}
use Rattle.std.specs.Ordering.{is_eq}
use Rattle.mesh_base_values.specs.NameOrder.{names_total}
use Rattle.mesh_project.specs.order.Order.{AreApart, name_at}
use Rattle.std.specs.BTreeSet.{BTreeSet, contains}
use Rattle.mesh_base_values.specs.declared.values.Name.{Name}
use Rattle.mesh_base_values.specs.Names.{name_cmp}
use Rattle.mesh_base.specs.declared.definitions.Decl.{Decl}
use Rattle.mesh_base.specs.rules.Relations.{is_declared}
use Rattle.mesh_project_files.specs.Loading.{◌>>=◌, Gives}
use Rattle.mesh_project_files.specs.declared.faults.LoadFault.{LoadFault}
use Rattle.mesh_project_files.specs.declared.project.ModelFile.{ModelFile}
use Rattle.mesh_project.specs.nodes.Apart.{Taken, apart, duplicate, names_of, with_model_name, with_name}
use Rattle.mesh_project.specs.nodes.Walk.{Leads, along}
use Rattle.mesh_project.proofs.nodes.Steps.{refused_on}

pub apart_is : (set : BTreeSet Name) (declared sources : List Decl) (files models : List ModelFile) (now : Taken) (result : Result (Unit {0}) LoadFault) → declared ≡ sources → files ≡ models
    → ((name : Name) → contains name_cmp set name ≡ is_declared declared name) → Leads result now (along with_model_name (names_of set) files) → Gives result (apart sources models)
apart_is set declared sources files models now result e f same leads =
    subst (λ l. Gives result (apart sources l)) f (subst (λ l. Gives result (apart l files)) e
    (subst (λ (t : Taken). Gives result (along with_model_name t files >>= λ taken. Ok tt)) (λ i name. same name i) (by_result result leads)))
  where
    by_result : (result : Result (Unit {0}) LoadFault) → Leads result now (along with_model_name (names_of set) files) → Gives result (along with_model_name (names_of set) files >>= λ taken. Ok tt)
    by_result (Ok u) leads = ap (λ r. r >>= λ taken. Ok tt) leads
    by_result (Err e) leads = refused_on e (along with_model_name (names_of set) files) (λ taken. Ok tt) leads

-- What files mean, by how far it was looked at.
use Rattle.std.proofs.Common.{◌≡◌, ◌⊎◌, inl, inr, ◌<◌, ◌≤◌, Bool, true, false, cond, List, length, Result, Ok, Err, refl, sym, ap, subst, ◌∙◌, map}
use Rattle.std.specs.Prelude.{codes}
use Rattle.std.proofs.Math.Dec.{leb}
use Rattle.std.proofs.lemmas.Bool.Decides.{leb_tells}
use Rattle.mesh_base.specs.declared.snapshots.Node.{Node}
use Rattle.mesh_base.specs.rules.Proper.{ProjectNodes}
use Rattle.mesh_project.specs.declared.order.readers.Ranked.{Ranked}
use Rattle.mesh_project.specs.order.Order.{IsOrder}
use Rattle.mesh_project_files.specs.Loading.{◌>>=◌, Gives, Refuses, too_large}
use Rattle.mesh_project_files.specs.declared.faults.LoadFault.{LoadFault}
use Rattle.mesh_project_files.specs.declared.faults.LoadFault.TheVariants.{Fault, Folder, Memory}
use Rattle.mesh_project_files.specs.declared.project.ModelFile.{ModelFile}
use Rattle.mesh_project_files.specs.declared.project.ProjectFiles.{ProjectFiles}
use Rattle.mesh_project.specs.nodes.Apart.{apart}
use Rattle.mesh_project.specs.nodes.Nodes.{nodes_of}
use Rattle.mesh_project.specs.project.Project.{IsMeant, TellsCycle, checked, counted, reader_of}
use Rattle.mesh_project.proofs.nodes.Steps.{refused_on}

pub refuses_itself : (X : Type 0) (fault : LoadFault) → Refuses {X = X} fault (Err fault)
refuses_itself X (Fault file at kind) = refl
refuses_itself X Folder = tt
refuses_itself X Memory = tt

module _ (files : ProjectFiles) where
  -- the models behind their order
  abbrev behind_order : Result (List Ranked) LoadFault → Result ProjectNodes LoadFault
  behind_order order = order >>= λ ranked. nodes_of files.sources files.models ranked >>= λ nodes. Ok (record { nodes = nodes })

  abbrev Behind : Result ProjectNodes LoadFault → Result (List Ranked) LoadFault → Result (Unit {0}) LoadFault → Type 0
  Behind answer order r = Gives answer (r >>= λ alone. behind_order order)

  pub not_checked : (fault : LoadFault) → Refuses fault (checked files) → IsMeant files (Err fault)
  not_checked fault stop = (Err Memory, tt, refused_on fault (checked files) (λ alone. behind_order (Err Memory)) stop)

  module _ (alone : checked files ≡ Ok tt) where
    pub not_ordered : (fault : LoadFault) → TellsCycle (map reader_of files.models) fault → IsMeant files (Err fault)
    not_ordered fault tells = (Err fault, tells, subst (Behind (Err fault) (Err fault)) (sym alone) (refuses_itself ProjectNodes fault))

    module _ (order : List Ranked) (is : IsOrder (map reader_of files.models) order) where
      pub not_resolved : (fault : LoadFault) → Refuses fault (nodes_of files.sources files.models order) → IsMeant files (Err fault)
      not_resolved fault stop =
          (Ok order, is, subst (Behind (Err fault) (Ok order)) (sym alone) (refused_on fault (nodes_of files.sources files.models order) (λ nodes. Ok (record { nodes = nodes })) stop))

      pub all_resolved : (nodes : List Node) → nodes_of files.sources files.models order ≡ Ok nodes → IsMeant files (Ok (record { nodes = nodes }))
      all_resolved nodes e =
          (Ok order, is, subst (Behind (Ok (record { nodes = nodes })) (Ok order)) (sym alone) (ap (λ r. r >>= λ nodes. Ok (record { nodes = nodes })) e))

few_counted : (models : List ModelFile) → counted models ≡ Ok tt → length models ≤ 4096
few_counted models e = by_count (leb_tells (length models) 4096) e
  where
    by_count : ((leb (length models) 4096 ≡ true) × (length models ≤ 4096)) ⊎ ((leb (length models) 4096 ≡ false) × (4096 < length models)) → counted models ≡ Ok (tt {0}) → length models ≤ 4096
    by_count (inl h) e = h.1
    by_count (inr h) e = absurd (let clash : Err (too_large (codes "-") (codes "models") 4096) ≡ Ok (tt {0}) = sym (ap (λ (b : Bool). cond b (Ok (tt {0})) (Err (too_large (codes "-") (codes "models") 4096))) h.0) ∙ e in cc)

-- files that are checked
module _ (files : ProjectFiles) (e : checked files ≡ Ok tt) where
  both : (counted files.models ≡ Ok tt) × (apart files.sources files.models ≡ Ok tt)
  both = by_count (counted files.models) refl e
    where
      by_count : (r : Result (Unit {0}) LoadFault) → counted files.models ≡ r → (r >>= λ few. apart files.sources files.models) ≡ Ok (tt {0}) → (counted files.models ≡ Ok (tt {0})) × (apart files.sources files.models ≡ Ok (tt {0}))
      by_count (Ok u) is h = (is, h)
      by_count (Err fault) is h = absurd (cc)

  pub are_few : length files.models ≤ 4096
  are_few = few_counted files.models both.0

  pub are_alone : apart files.sources files.models ≡ Ok tt
  are_alone = both.1

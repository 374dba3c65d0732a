use Rattle.std.proofs.Common.{◌≡◌, ℤ, pos, ◌+ℤ◌, List, IsTrue, map, to_z, of_z, w64, ap, ◌∙◌, arith}
use Rattle.std.proofs.lemmas.Int.{ints}
use Rattle.mesh_base.specs.declared.definitions.Own.{Own}
use Rattle.mesh_base.specs.declared.plans.Entry.{Entry}
use Rattle.mesh_base.specs.declared.snapshots.Node.{Node}
use Rattle.mesh_base.specs.declared.snapshots.Ref.{Ref}
use Rattle.mesh_base_values.specs.declared.values.Name.{Name}
use Rattle.mesh_house_book.specs.WellFormed.{is_moment}
use Rattle.mesh_spec_changes.specs.due.Plans.{Planned}
use Rattle.mesh_spec_changes.specs.Changes.{planned_ref, snapshot_of}
use Rattle.mesh_exec_works.specs.Plain.{model_of, parents_at, plain_models}
use Rattle.mesh_exec_works.proofs.changes.snapshot_of.Goals as goal

expiry : (t : ℤ) → IsTrue (is_moment t) → to_z w64 (of_z w64 (to_z w64 (of_z w64 t) +ℤ pos 604_800)) ≡ t +ℤ pos 604_800
expiry t h = grind (arith, ints)

-- a record of the parts of a snapshot is it
made_so : (n : Node) (e : Entry) (all : List Planned) (t expires : ℤ) (name : Name) (own : Own) (parents : List Ref) (object : Name)
    → name ≡ n.own.name → own ≡ n.own → parents ≡ map planned_ref (parents_at all n.parents) → object ≡ e.object → expires ≡ t +ℤ pos 604_800
    → record { name = name; fingerprint = n.fingerprint; own = own; parents = parents; rank = n.rank; object = object; expires = expires } ≡ snapshot_of t all (model_of n e)
made_so n e all t expires name own parents object a b c d f =
    λ i. record { name = a i; fingerprint = n.fingerprint; own = b i; parents = c i; rank = n.rank; object = d i; expires = f i }

pub returns : goal.returns
returns c =
    let all = plain_models c.args.nodes.now c.args.entries.now in
    made_so c.args.node.now c.args.entry.now all c.args.t _ c.in_ok-name.name c.in_ok-name.own c.in_ok-parents.parents c.in_ok-object.object
    (ap (λ (q : Name × Own). q.0) c.in_ok-name.ensures) (ap (λ (q : Name × Own). q.1) c.in_ok-name.ensures)
    (c.in_ok-parents.ensures ∙ ap (λ (ks : List _). map planned_ref (parents_at all ks)) c.as_slice.ensures)
    c.in_ok-object.ensures (expiry c.args.t c.requires)

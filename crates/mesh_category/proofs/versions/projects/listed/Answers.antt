use Rattle.std.proofs.Common.{◌≡◌, List, map, ◌∙◌, ap}
use Rattle.std.specs.BTreeMap.{get}
use Rattle.mesh_base_values.specs.Names.{name_cmp}
use Rattle.mesh_base.specs.declared.snapshots.Node.{Node}
use Rattle.mesh_spec_changes.specs.listed.Listed.{entries, listed}
use Rattle.mesh_category.specs.versions.Standing.{node_by, place_from, snapshots_of}
use Rattle.mesh_category.proofs.versions.Ranks.{nodes_are}
use Rattle.mesh_category.proofs.versions.Steps.{turned}
use Rattle.mesh_category.proofs.versions.projects.listed.Goals as goal

pub returns : goal.returns
returns c =
    let b = c.args.b.now in
    let list = c.args.list.now in
    let place = get name_cmp c.in_ok-places.places in
    let first : snapshots_of c.as_slice.result.now ≡ entries b.snapshots list = ap snapshots_of c.as_slice.ensures.items ∙ c.in_ok-all.ensures in
    let second : snapshots_of c.as_slice-2.result.now ≡ entries b.snapshots list = ap snapshots_of c.as_slice-2.ensures.items ∙ c.in_ok-all.ensures in
    turned (λ (nodes : List Node). nodes ≡ map (node_by place) (snapshots_of c.as_slice-2.result.now)) (λ (nodes : List Node). nodes ≡ listed b.snapshots list) c.as_nodes.result
    (λ nodes is. is ∙ ap (map (node_by place)) second ∙ nodes_are b list c.requires.book c.requires.list place (λ name. c.in_ok-places.ensures name ∙ ap (place_from 0 name) first)) c.as_nodes.ensures

use Rattle.std.proofs.Common.{◌∙◌}
use Rattle.std.specs.BTreeMap.{get}
use Rattle.mesh_base_values.specs.Names.{text_cmp}
use Rattle.mesh_category.proofs.versions.Tells.{has_new_is}
use Rattle.mesh_category.proofs.versions.index.indexed.Goals as goal

pub returns : goal.returns
returns c =
    let same = c.has_new-is_asked.ensures ∙ has_new_is c.args.all.now c.args.nodes.now (get text_cmp c.in_ok-told.told) c.in_ok-told.ensures in
    record {
      told = c.in_ok-told.ensures;
      objects = λ new. c.in_ok-objects.ensures.objects (same ∙ new);
      compared = λ new. c.in_ok-objects.ensures.compared (same ∙ new);
    }

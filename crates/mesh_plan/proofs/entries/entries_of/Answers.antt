use Rattle.std.proofs.Common.{◌≡◌, ◌+◌, Some, length, refl, ◌∙◌, arith}
use Rattle.std.specs.List.{slice_get}
use Rattle.std.proofs.lemmas.List.{take_all}
use Rattle.std.proofs.lemmas.Option.{slice_get_read}
use Rattle.mesh_base_values.specs.declared.values.Name.{Name}
use Rattle.mesh_plan.specs.Entries.{entries_of}
use Rattle.mesh_plan.proofs.Models.{entries_long, one_more_entry}
use Rattle.mesh_plan.proofs.entries.entries_of.Goals as goal

pub loop-at-preserved : goal.loop-at-preserved
loop-at-preserved c =
    let objects = c.args.objects.now in
    let o : Name = c.index-objects-at.result in
    let is : slice_get objects c.loop-at.at ≡ Some o = slice_get_read objects (length objects) c.loop-at.at o refl c.loop-at-test.true c.index-objects-at.is in
    one_more_entry c.args.b.now c.args.categories.now objects c.loop-at.at (c.loop-at.at + 1) c.category_at-category.result o (omega arith) c.category_at-category.ensures is
    c.loop-at.entries c.push.new.self c.in_ok-entry_of.field-0 c.loop-at.invariant c.in_ok-push.ensures.ok c.in_ok-entry_of.ensures

pub returns : goal.returns
returns c =
    let list = entries_of c.args.b.now c.args.categories.now c.args.objects.now in
    let long : length list ≡ length c.args.objects.now = entries_long c.args.b.now c.args.categories.now c.args.objects.now c.requires in
    c.loop-at.invariant ∙ take_all c.loop-at.at list (omega (arith, long, c.loop-at-test.false))

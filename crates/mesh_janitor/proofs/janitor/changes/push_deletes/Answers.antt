use Rattle.std.proofs.Common.{◌≡◌, ◌++◌, List, length, map, rules, arith, ap, ◌∙◌, length-append}
use Rattle.std.proofs.lemmas.Grind.{common_steps}
use Rattle.std.proofs.lemmas.List.{length-map}
use Rattle.mesh_house.specs.declared.world.Change.{Change}
use Rattle.mesh_spec_changes.specs.Kept.{gone_snapshots}
use Rattle.mesh_janitor.specs.janitor.Walk.{deletes, deletes_by, goes}
use Rattle.mesh_janitor.specs.migrate.Walk.{limit_from}
use Rattle.mesh_janitor.proofs.janitor.Down.{gone_deletes}
use Rattle.mesh_janitor.proofs.janitor.changes.push_deletes.Goals as goal

pub returns : goal.returns
returns c =
    let b = c.args.b.now in
    let t = c.args.t in
    let w = c.args.wanted.now in
    let before = c.args.changes.now in
    let made : c.push_layers.new.changes ≡ before ++ deletes_by (goes t w) (limit_from 0 b.snapshots) b.snapshots = first_of (search rules, grind (arith, common_steps)) in
    let whole = made ∙ ap (λ (l : List Change). before ++ l) (gone_deletes b c.requires.fit t w c.requires.exact) in
    (whole, omega (arith, ap length whole, length-append before (map deletes (gone_snapshots b t)), length-map (gone_snapshots b t) deletes, c.len-before.ensures, c.len.ensures))

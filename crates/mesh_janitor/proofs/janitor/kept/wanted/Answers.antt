use Rattle.std.proofs.Common.{◌≡◌, List, [], rules, arith, subst, sym}
use Rattle.std.specs.List.{All}
use Rattle.std.proofs.lemmas.Grind.{common_steps}
use Rattle.mesh_base.specs.declared.snapshots.Ref.{Ref}
use Rattle.mesh_base.specs.declared.snapshots.Snapshot.{Snapshot}
use Rattle.mesh_spec_changes.specs.Kept.{is_kept}
use Rattle.mesh_janitor.specs.janitor.Walk.{envs_after, layers, stays}
use Rattle.mesh_janitor.specs.migrate.Walk.{limit_from}
use Rattle.mesh_janitor.proofs.janitor.Reached.{all_exact}
use Rattle.mesh_janitor.proofs.janitor.kept.wanted.Goals as goal

pub returns : goal.returns
returns c =
    let b = c.args.b.now in
    let t = c.args.t in
    let made : c.add_layers.new.wanted ≡ layers t (limit_from 0 b.snapshots) b.snapshots (envs_after t b.environments []) = first_of (search rules, grind (arith, common_steps)) in
    subst (λ (w : List Ref). All (λ (s : Snapshot). stays t w s ≡ is_kept b t s) b.snapshots) (sym made) (all_exact b c.requires t)

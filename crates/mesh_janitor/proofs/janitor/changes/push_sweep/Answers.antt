use Rattle.std.proofs.Common.{◌≡◌, ◌++◌, ◌∷◌, List, FitsSigned, w64, to_z, of_z, length, map, rules, arith, ap, ◌∙◌, append_assoc}
use Rattle.std.specs.List.{flat_map}
use Rattle.std.proofs.lemmas.Grind.{common_steps}
use Rattle.std.proofs.lemmas.Int.{to_z-of_z}
use Rattle.mesh_house.specs.declared.world.Change.{Change}
use Rattle.mesh_house.specs.declared.world.Change.TheVariants.{Moment}
use Rattle.mesh_spec_changes.specs.Kept.{gone_snapshots, gone_tables, leaving, removes}
use Rattle.mesh_janitor.specs.janitor.Walk.{deletes, discards, forgets}
use Rattle.mesh_janitor.proofs.janitor.changes.push_sweep.Goals as goal

regroup : (a f d g : List Change) → ((a ++ f) ++ d) ++ g ≡ a ++ (f ++ (d ++ g))
regroup a f d g = simp append_assoc

pub returns-clause-changes : goal.returns-clause-changes
returns-clause-changes c =
    let b = c.args.b.now in
    let t = c.args.t in
    let first = Moment t ∷ flat_map removes (leaving t b.environments) in
    let made : c.push_deletes.new.changes ≡ (((c.args.changes.now ++ first) ++ map forgets (gone_tables b t)) ++ map discards (gone_tables b t)) ++ map deletes (gone_snapshots b t) = first_of (search rules, grind (arith, common_steps)) in
    made
    ∙ ap (λ (l : List Change). (((l ++ first) ++ map forgets (gone_tables b t)) ++ map discards (gone_tables b t)) ++ map deletes (gone_snapshots b t)) c.requires.empty
    ∙ regroup first (map forgets (gone_tables b t)) (map discards (gone_tables b t)) (map deletes (gone_snapshots b t))

pub returns-clause-numbers : goal.returns-clause-numbers
returns-clause-numbers c =
    let b = c.args.b.now in
    let fits : FitsSigned w64 c.args.t = c.ranges.t in
    let same : to_z w64 (of_z w64 c.args.t) ≡ c.args.t = simp to_z-of_z in
    let environments = c.count_leaving.ensures ∙ (λ i. length (leaving (same i) (c.as_slice.ensures i))) in
    let objects = c.in_ok-objects.ensures.1 ∙ (λ i. length (gone_tables b (same i))) in
    let snapshots = c.in_ok-snapshots.ensures.1 ∙ (λ i. length (gone_snapshots b (same i))) in
    let changes = c.len.ensures ∙ ap length (returns-clause-changes c) in
    λ i. record { environments = environments i; objects = objects i; snapshots = snapshots i; changes = changes i }

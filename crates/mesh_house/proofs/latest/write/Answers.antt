use Rattle.std.proofs.Common.{ℤ, to_z, of_z, w64, sym, ◌∙◌, ap}
use Rattle.mesh_house.specs.Latest.{ends_now}
use Rattle.mesh_house.proofs.Known.{known_made, write_ends}
use Rattle.mesh_house.proofs.latest.write.Goals as goal

pub returns-then-ends_now-clause-known : goal.returns-then-ends_now-clause-known
returns-then-ends_now-clause-known c =
    let w = c.args.world.now in
    let first : ℤ = to_z w64 (of_z w64 c.args.start) in
    let last : ℤ = to_z w64 (of_z w64 c.args.end) in
    let v = c.write_range.new.self in
    let object = c.args.object.now in
    let time = c.args.time.now in
    known_made v object time last c.known.result c.known.ensures
    (write_ends w object time first last c.args.rows.now c.are_others-others.result v
    (λ h. let both = c.are_others-others.ensures h in (c.is_behind-behind.ensures both.0 w c.requires, both.1))
    c.in_ok-write_range.ensures.ok
    (sym (c.ends_now.ensures ∙ ap (λ o. ends_now c.are_others-others.result o time last c.args.rows.now) c.object_at.ensures) ∙ c.if-ends_now.true))

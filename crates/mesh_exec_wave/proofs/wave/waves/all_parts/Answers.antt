use Rattle.std.proofs.Common.{◌≡◌, ◌<◌, ℕ, List, length, None, replicate, subst, arith}
use Rattle.std.specs.List.{All, flat_map}
use Rattle.std.specs.Option.{option_to_list}
use Rattle.atomic_table.specs.Table.{Me}
use Rattle.mesh_exec_wave.specs.claims.Claims.{AreAll}
use Rattle.mesh_exec_wave.specs.declared.claims.claimed.Claimed.{Claimed}
use Rattle.mesh_exec_wave.specs.wave.Workers.{placed}
use Rattle.mesh_exec_wave.specs.declared.wave.parts.Part.{Part}
use Rattle.mesh_exec_wave.proofs.wave.Placing.{all_there, each_drawn, within, if_parts}
use Rattle.mesh_exec_wave.proofs.wave.waves.all_parts.Goals as goal

pub returns-clause-within : goal.returns-clause-within
returns-clause-within g c = if_parts (g.U.Units.wanted c.args.units.now) _ (λ parts. All (λ (p : Part). p.number < length (g.U.Units.wanted c.args.units.now)) parts) c.work_all-seat.result.made c.work_all-seat.ensures.done.2 (within (g.U.Units.wanted c.args.units.now) _)

pub returns-clause-all : goal.returns-clause-all
returns-clause-all g c =
    let wanted = g.U.Units.wanted c.args.units.now in
    let drawn : List ℕ = c.work_all-seat.result.seat.me.0.drawn in
    let known = subst (λ (m : Me (Unit {0}) Claimed). AreAll c.drawn_so_far-drawn.result m.0.drawn) c.drawn_so_far-drawn.ensures.same.1 c.drawn_so_far-drawn.ensures.all in
    if_parts wanted drawn (λ parts. flat_map option_to_list (placed (replicate (length wanted) None) parts) ≡ wanted) c.work_all-seat.result.made c.work_all-seat.ensures.done.2
    (all_there wanted drawn (each_drawn c.drawn_so_far-drawn.result drawn (length wanted) known (omega (arith, c.work_all-seat.ensures.done.0, c.requires)) c.work_all-seat.ensures.done.1))

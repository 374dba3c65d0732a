use Rattle.std.proofs.Common.{◌≡◌, List, Some, None, map, take, refl, sym, ap, ◌∙◌, subst, arith}
use Rattle.std.specs.Option.{option_map}
use Rattle.std.proofs.lemmas.List.{take_all}
use Rattle.mesh_base_values.specs.declared.values.Pair.{Pair}
use Rattle.mesh_house.specs.declared.objects.Body.TheVariants.{Rows, Stored}
use Rattle.mesh_house.specs.World.{object_at, body_of}
use Rattle.mesh_spec_changes.specs.shown.Shown.{each_there, rows_through, target_table}
use Rattle.mesh_layer.specs.declared.kept.Kept.TheVariants as kept
use Rattle.mesh_layer.specs.Lost.{lost_behind, lost_through}
use Rattle.mesh_layer.specs.Read.{kept_of}
use Rattle.mesh_layer.proofs.Finding.{answers, and_then, by_read, dangles, house_fails, part_fails, passes_on, read_is, stays, told_later, wants}
use Rattle.mesh_layer.proofs.Heights.{body_shown, first_at, lost_deeper, nothing_there, stored_shown, tables_found, tables_higher, tables_more, too_deep}
use Rattle.mesh_layer.proofs.Reading.{no_query, none_kept, query_kept}
use Rattle.mesh_layer.proofs.walk.+walk.Goals as goal

pub object_behind-returns-clause-finds : goal.object_behind-returns-clause-finds
object_behind-returns-clause-finds g t c =
    let there = c.in_ok-height.ensures.finds in
    passes_on _ _ _ _ _ _ _ _ _ c.found_with.result there.untouched c.found_with.ensures.finds (λ w told given. (
      there.ok w told given,
      λ x found. found,
      λ o is. absurd (let no : None ≡ Some o = is in cc),
    ))

pub rows_behind-returns-in-Query-clause-finds : goal.rows_behind-returns-in-Query-clause-finds
rows_behind-returns-in-Query-clause-finds g t c =
    passes_on _ _ _ _ _ _ _ _ _ c.query_behind.result (by_read _ _ _ _ (c.in_ok-kept.ensures.object refl)) c.query_behind.ensures.finds (λ w told given.
    let read = read_is _ _ _ _ (c.in_ok-kept.ensures.object refl) w told in
    let some = c.in-Some.is in
    let query = c.in-Query.is in
    let got = c.get.ensures in
    let there : option_map kept_of (body_of (object_at w c.args.name.now)) ≡ Some (kept.Query c.get.result.now) = cc in
    ((given, there), λ x found. found, λ o is. is))

pub query_behind-returns-else-depth-eq0-clause-finds : goal.query_behind-returns-else-depth-eq0-clause-finds
query_behind-returns-else-depth-eq0-clause-finds g t c =
    passes_on _ _ _ _ _ _ _ _ _ c.stored_behind.result (stays _) c.stored_behind.ensures.finds (λ w told given.
    let read = given.1 in
    let stored = c.in-Stored.is in
    let list = c.as_slice-targets.ensures in
    let there : Some (kept.Query (Stored c.in-Stored.own c.as_slice-targets.result.now)) ≡ option_map kept_of (body_of (object_at w c.args.name.now)) = cc in
    let here = query_kept (body_of (object_at w c.args.name.now)) _ there in (
      given.0,
      λ x found. (found.0, body_shown w x.0 c.args.name.now (Stored c.in-Stored.own c.as_slice-targets.result.now) x.1 here found.1),
      λ o is. lost_deeper w c.args.depth c.args.name.now (Stored c.in-Stored.own c.as_slice-targets.result.now) o (omega arith) here is,
    ))

pub stored_behind-returns-in_err-height-in-Some-clause-finds : goal.stored_behind-returns-in_err-height-in-Some-clause-finds
stored_behind-returns-in_err-height-in-Some-clause-finds g t c =
    part_fails _ _ _ _ _ _ _ _ _ c.in_err-height-in-Some.field-0.0 c.from_residual-in_err-height-in-Some.result (stays _) c.in_err-height-in-Some.ensures.finds c.from_residual-in_err-height-in-Some.ensures.1
    (λ w told given. (given, λ o is. ap (lost_behind (lost_through c.args.depth w) c.args.name.now c.args.targets.now) (sym c.in-Some.ensures) ∙ is))

pub stored_behind-returns-in_ok-rows-in-Some-2-clause-finds : goal.stored_behind-returns-in_ok-rows-in-Some-2-clause-finds
stored_behind-returns-in_ok-rows-in-Some-2-clause-finds g t c =
    let tables = c.in_ok-height-in-Some.ensures.finds in
    let rows = c.in_ok-rows-in-Some-2.ensures in
    answers _ _ _ _ _ _ (and_then _ _ _ tables.untouched rows.untouched) (λ w told given.
    let here = tables.ok w told given in
    let is = rows.ok w (told_later _ _ w tables.untouched told) given.plain in
    (here.0, stored_shown w c.args.own.now c.args.targets.now _ c.in_ok-height-in-Some.height _ _ (sym c.in-Some.ensures) here.1 is))

pub tables_behind-returns-in_err-found-clause-finds : goal.tables_behind-returns-in_err-found-clause-finds
tables_behind-returns-in_err-found-clause-finds g t c =
    let so_far = c.loop-target.invariant.1 in
    let i = c.loop-target.target-index in
    let targets = c.args.targets.now in
    part_fails _ _ _ _ _ _ _ _ _ c.in_err-found.field-0.0 c.from_residual.result so_far.untouched c.in_err-found.ensures.finds c.from_residual.ensures.1
    (λ w told given.
    let here = so_far.told w told given in (
      record { plain = given.plain; kept = here.0 },
      λ o is. first_at (λ (p : Pair). lost_through c.args.depth w p.second) targets i c.target-item.result o (omega arith) c.target-item.is
          (tables_found w c.args.depth (take i targets) c.loop-target.tables (tables_higher w c.loop-target.height c.args.depth c.loop-target.invariant.0 (take i targets) c.loop-target.tables here.1)) is,
    ))

pub tables_behind-loop-target-preserved : goal.tables_behind-loop-target-preserved
tables_behind-loop-target-preserved g t c =
    let so_far = c.loop-target.invariant.1 in
    let i = c.loop-target.target-index in
    let targets = c.args.targets.now in
    let there = c.in_ok-found.ensures.finds in (
      c.taller-height.ensures.least c.args.depth c.loop-target.invariant.0 c.in_ok-found.ensures.height,
      record {
        untouched = and_then _ _ _ so_far.untouched there.untouched;
        told = λ w told given.
            let here = so_far.told w told given in
            let found = there.ok w (told_later _ _ w so_far.untouched told) (record { plain = given.plain; kept = here.0 }) in (
              found.0,
              tables_more w c.loop-target.height c.taller-height.result targets i c.target-item.result c.loop-target.tables c.in_ok-found.found c.taller-height.ensures.first c.taller-height.ensures.second (omega arith) c.target-item.is here.1 found.1
                  ∙ ap Some (sym c.in_ok-push_table.ensures),
            );
      },
    )

pub tables_behind-returns-clause-finds : goal.tables_behind-returns-clause-finds
tables_behind-returns-clause-finds g t c =
    let so_far = c.loop-target.invariant.1 in
    answers _ _ _ _ _ _ so_far.untouched (λ w told given.
    let here = so_far.told w told given in
    (here.0, subst (λ (l : List Pair). each_there (map (target_table (rows_through c.loop-target.height w) w) l) ≡ Some c.loop-target.tables) (take_all c.loop-target.target-index c.args.targets.now (omega arith)) here.1))

pub object_behind-returns-in_err-found-clause-finds : goal.object_behind-returns-in_err-found-clause-finds
object_behind-returns-in_err-found-clause-finds g t c = wants _ _ _ _ _ c.from_residual.result (stays _) c.from_residual.ensures.1

pub object_behind-returns-in_err-height-clause-finds : goal.object_behind-returns-in_err-height-clause-finds
object_behind-returns-in_err-height-clause-finds g t c =
    part_fails _ _ _ _ _ _ _ _ _ c.in_err-height.field-0.0 c.from_residual-in_err-height.result (stays _) c.in_err-height.ensures.finds c.from_residual-in_err-height.ensures.1
    (λ w told given. (given, λ o is. is))

pub rows_behind-returns-in_err-kept-clause-finds : goal.rows_behind-returns-in_err-kept-clause-finds
rows_behind-returns-in_err-kept-clause-finds g t c = house_fails _ _ _ _ _ _ _ c.in_err-kept.field-0.0 c.from_residual.result (stays _) (c.in_err-kept.ensures.object refl) c.from_residual.ensures.1

pub stored_behind-returns-in_err-rows-in-Some-clause-finds : goal.stored_behind-returns-in_err-rows-in-Some-clause-finds
stored_behind-returns-in_err-rows-in-Some-clause-finds g t c =
    part_fails _ _ _ _ _ _ _ _ _ c.in_err-rows-in-Some.field-0.0 c.from_residual.result (stays _) c.in_err-rows-in-Some.ensures c.from_residual.ensures.1
    (λ w told given. (given.plain, λ o is. absurd (let no : None ≡ Some o = is in cc)))

pub stored_behind-returns-in_err-rows-in-Some-2-clause-finds : goal.stored_behind-returns-in_err-rows-in-Some-2-clause-finds
stored_behind-returns-in_err-rows-in-Some-2-clause-finds g t c =
    part_fails _ _ _ _ _ _ _ _ _ c.in_err-rows-in-Some-2.field-0.0 c.from_residual-in_err-rows-in-Some-2.result c.in_ok-height-in-Some.ensures.finds.untouched c.in_err-rows-in-Some-2.ensures c.from_residual-in_err-rows-in-Some-2.ensures.1
    (λ w told given. (given.plain, λ o is. absurd (let no : None ≡ Some o = is in cc)))

pub tables_behind-returns-in_err-push_table-clause-finds : goal.tables_behind-returns-in_err-push_table-clause-finds
tables_behind-returns-in_err-push_table-clause-finds g t c = wants _ _ _ _ _ c.from_residual-in_err-push_table.result (and_then _ _ _ c.loop-target.invariant.1.untouched c.in_ok-found.ensures.finds.untouched) c.from_residual-in_err-push_table.ensures.1

pub rows_behind-returns-in_default-clause-finds : goal.rows_behind-returns-in_default-clause-finds
rows_behind-returns-in_default-clause-finds g t c =
    dangles _ _ _ _ _ c.dangling.result c.args.name.now (by_read _ _ _ _ (c.in_ok-kept.ensures.object refl)) c.dangling.ensures
    (λ w told given. nothing_there w c.args.depth c.args.name.now _ (none_kept _ _ c.in_default.not-Some (read_is _ _ _ _ (c.in_ok-kept.ensures.object refl) w told)) refl)

pub query_behind-returns-in-Rows-clause-finds : goal.query_behind-returns-in-Rows-clause-finds
query_behind-returns-in-Rows-clause-finds g t c =
    dangles _ _ _ _ _ c.dangling-in-Rows.result c.args.name.now (stays _) c.dangling-in-Rows.ensures (λ w told given.
    let read = given.1 in
    let rows = c.in-Rows.is in
    let there : Some (kept.Query (Rows c.in-Rows.field-0)) ≡ option_map kept_of (body_of (object_at w c.args.name.now)) = cc in
    absurd (no_query _ _ there))

pub query_behind-returns-then-depth-eq0-clause-finds : goal.query_behind-returns-then-depth-eq0-clause-finds
query_behind-returns-then-depth-eq0-clause-finds g t c =
    dangles _ _ _ _ _ c.dangling.result c.args.name.now (stays _) c.dangling.ensures (λ w told given.
    let read = given.1 in
    let stored = c.in-Stored.is in
    let there : Some (kept.Query (Stored c.in-Stored.own c.in-Stored.targets)) ≡ option_map kept_of (body_of (object_at w c.args.name.now)) = cc in
    too_deep w c.args.depth c.args.name.now c.in-Stored.own c.in-Stored.targets c.if-depth-eq0.true (query_kept _ _ there))

pub stored_behind-returns-in-None-clause-finds : goal.stored_behind-returns-in-None-clause-finds
stored_behind-returns-in-None-clause-finds g t c =
    dangles _ _ _ _ _ c.dangling.result c.args.name.now (stays _) c.dangling.ensures
    (λ w told given. ap (lost_behind (lost_through c.args.depth w) c.args.name.now c.args.targets.now) (sym c.in-None.ensures))

use Rattle.std.proofs.Common.{◌++◌, sym, ap, ◌∙◌, subst}
use Rattle.std.specs.List.{flat_map}
use Rattle.std.proofs.lemmas.Result.{on_ok_weaker}
use Rattle.mesh_spec_query.specs.Named.{columns}
use Rattle.mesh_law_query.specs.Reads.{expressions, reading_at}
use Rattle.mesh_lineage.specs.Alike.{IsAlike}
use Rattle.mesh_lineage.specs.Named.{places_of}
use Rattle.mesh_lineage.proofs.Alike.{given_alike}
use Rattle.mesh_lineage.proofs.readings.add_select_reads.Goals as goal

pub returns : goal.returns
returns c =
    let s = c.args.s.now in
    let all = c.add_select_columns.new.places in
    let whole = c.in_ok-add_select_columns.ensures ∙ ap (λ l. l ++ flat_map columns (expressions s)) c.new-places.ensures in
    let sorted = places_of c.as_slice.result.now in
    on_ok_weaker c.add_readings.result
    (λ a. given_alike (reading_at s.from) sorted all _ c.args.made.now c.add_readings.new.made a (subst (λ l. IsAlike l all) (sym c.as_slice.ensures) c.sort.ensures) whole)
    c.add_readings.ensures

use Rattle.std.proofs.Common.{Ok, sym, ap, ◌∙◌}
use Rattle.mesh_canon_reading.specs.Reading.{type_in}
use Rattle.mesh_canon_reading.proofs.Exact.{none_is_not, some_is}
use Rattle.mesh_canon_reading.proofs.Lone.{type_has_text, type_is_read}
use Rattle.mesh_canon.proofs.canon.lone_reading.read_type.Goals as goal

pub returns-in-Some-clause-found : goal.returns-in-Some-clause-found
returns-in-Some-clause-found c = type_has_text c.args.text.now c.in-Some.kind (sym c.whole_type.ensures ∙ c.in-Some.is)

pub returns-in-Some-clause-only : goal.returns-in-Some-clause-only
returns-in-Some-clause-only c = λ kind is.
    ap Ok (some_is c.in-Some.kind kind (sym c.in-Some.is ∙ c.whole_type.ensures ∙ ap type_in is ∙ type_is_read kind))

pub returns-in-None-clause-only : goal.returns-in-None-clause-only
returns-in-None-clause-only c = λ kind is.
    absurd (none_is_not kind (sym c.in-None.is ∙ c.whole_type.ensures ∙ ap type_in is ∙ type_is_read kind))

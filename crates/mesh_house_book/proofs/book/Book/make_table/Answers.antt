use Rattle.std.proofs.Common.{true, None, List, refl, sym, ◌∙◌, ap}
use Rattle.mesh_list.specs.Keyed.{exchanged}
use Rattle.mesh_base_values.specs.Names.{name_cmp}
use Rattle.mesh_base_values.specs.declared.times.Bounds.{Bounds}
use Rattle.mesh_house_book.specs.Changes.{version_object, as_table, new_version}
use Rattle.mesh_house_book.proofs.Exchanged.{version_absent, version_changed}
use Rattle.mesh_house_book.proofs.book.Book.make_table.Goals as goal

pub returns-in-None-clause-ok : goal.returns-in-None-clause-ok
returns-in-None-clause-ok c =
    version_absent as_table c.args.self.now c.args.object.now (new_version c.args.object.now) refl c.blank_at.new.versions (sym c.in_ok-had.ensures.value ∙ c.in-None.is) c.in_ok-had.ensures.rest

pub returns-in-Some-clause-ok : goal.returns-in-Some-clause-ok
returns-in-Some-clause-ok c =
    version_changed as_table c.args.self.now c.args.object.now (new_version c.args.object.now) refl c.in-Some.version c.blank_at.new.versions c.exchange.new.self (sym c.in_ok-had.ensures.value ∙ c.in-Some.is) refl c.in_ok-had.ensures.rest
    (c.exchange.ensures.rest ∙ ap (λ (r : List Bounds). exchanged name_cmp version_object (record { object = c.in-Some.version.object; made = true; ranges = r; marks = None }) c.blank_at.new.versions) c.new.ensures)

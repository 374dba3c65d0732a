use Rattle.std.proofs.Common.{refl, sym, ◌∙◌}
use Rattle.mesh_house_book.specs.Changes.{with_marks, new_version}
use Rattle.mesh_house_book.proofs.Exchanged.{version_absent, version_changed}
use Rattle.mesh_house_book.proofs.book.Book.record_marks.Goals as goal

pub returns-in-None-clause-ok : goal.returns-in-None-clause-ok
returns-in-None-clause-ok c =
    version_absent (with_marks c.args.marks) c.args.self.now c.args.object.now (new_version c.args.object.now) refl c.blank_at.new.versions (sym c.in_ok-had.ensures.value ∙ c.in-None.is) c.in_ok-had.ensures.rest

pub returns-in-Some-clause-ok : goal.returns-in-Some-clause-ok
returns-in-Some-clause-ok c =
    version_changed (with_marks c.args.marks) c.args.self.now c.args.object.now (new_version c.args.object.now) refl c.in-Some.version c.blank_at.new.versions c.exchange.new.self (sym c.in_ok-had.ensures.value ∙ c.in-Some.is) refl c.in_ok-had.ensures.rest
    (c.exchange.ensures.rest)

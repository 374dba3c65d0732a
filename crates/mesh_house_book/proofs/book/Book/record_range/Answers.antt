use Rattle.std.proofs.Common.{◌≡◌, ℤ, true, false, List, refl, sym, ◌∙◌, ap, arith, FitsSigned, w64, to_z, of_z}
use Rattle.std.specs.Int.Signed.{lt_z, le_z}
use Rattle.std.proofs.lemmas.Int.{ints}
use Rattle.std.proofs.lemmas.Result.{on_ok_weaker, on_err_weaker}
use Rattle.mesh_list.specs.Keyed.{exchanged}
use Rattle.mesh_base_values.specs.Names.{name_cmp}
use Rattle.mesh_base_values.specs.declared.times.Bounds.{Bounds}
use Rattle.mesh_time.specs.Edits.{spans_with}
use Rattle.mesh_house_book.specs.Changes.{version_object, with_range, new_version}
use Rattle.mesh_house_book.specs.declared.versions.Version.{Version}
use Rattle.mesh_house_book.proofs.Exchanged.{version_absent, version_changed, version_back, range_empty, range_recorded}
use Rattle.mesh_house_book.proofs.book.Book.record_range.Goals as goal

-- a start that is or isn't below an end, as the test says it
below : (a b : ℤ) → FitsSigned w64 a → FitsSigned w64 b → le_z (to_z w64 (of_z w64 b)) (to_z w64 (of_z w64 a)) ≡ false → lt_z a b ≡ true
below a b fa fb h = grind (arith, ints)

not_below : (a b : ℤ) → FitsSigned w64 a → FitsSigned w64 b → le_z (to_z w64 (of_z w64 b)) (to_z w64 (of_z w64 a)) ≡ true → lt_z a b ≡ false
not_below a b fa fb h = grind (arith, ints)

whole : (a : ℤ) → FitsSigned w64 a → to_z w64 (of_z w64 a) ≡ a
whole a f = omega (arith, ints)

pub returns-then-start-end-clause-ok : goal.returns-then-start-end-clause-ok
returns-then-start-end-clause-ok c = range_empty c.args.self.now c.args.object.now c.args.start c.args.end (not_below c.args.start c.args.end c.ranges.start c.ranges.end c.if-start-end.true)

pub returns-in-None-clause-ok : goal.returns-in-None-clause-ok
returns-in-None-clause-ok c =
    version_absent (with_range c.args.start c.args.end) c.args.self.now c.args.object.now (new_version c.args.object.now) refl c.blank_at.new.versions (sym c.in_ok-had.ensures.value ∙ c.in-None.is) c.in_ok-had.ensures.rest
    ∙ range_recorded c.args.self.now c.args.object.now c.args.start c.args.end (below c.args.start c.args.end c.ranges.start c.ranges.end c.if-start-end.false)

pub returns-in-Some-clause-ok : goal.returns-in-Some-clause-ok
returns-in-Some-clause-ok c =
    on_ok_weaker c.add-recorded.result
    (λ (e : c.add-recorded.new.self ≡ spans_with (to_z w64 (of_z w64 c.args.start)) (to_z w64 (of_z w64 c.args.end)) c.in-Some.version.ranges). version_changed (with_range c.args.start c.args.end) c.args.self.now c.args.object.now (new_version c.args.object.now) refl c.in-Some.version c.blank_at.new.versions c.exchange.new.self (sym c.in_ok-had.ensures.value ∙ c.in-Some.is) refl c.in_ok-had.ensures.rest
    (c.exchange.ensures.rest ∙ ap (λ (r : List Bounds). exchanged name_cmp version_object (record { object = c.in-Some.version.object; made = c.in-Some.version.made; ranges = r; marks = c.in-Some.version.marks }) c.blank_at.new.versions) (e ∙ (λ i. spans_with (whole c.args.start c.ranges.start i) (whole c.args.end c.ranges.end i) c.in-Some.version.ranges)))
    ∙ range_recorded c.args.self.now c.args.object.now c.args.start c.args.end (below c.args.start c.args.end c.ranges.start c.ranges.end c.if-start-end.false))
    c.add-recorded.ensures.spans

pub returns-in-Some-clause-err : goal.returns-in-Some-clause-err
returns-in-Some-clause-err c =
    on_err_weaker c.add-recorded.result
    (λ e. ap (λ (l : List Version). record { version = c.args.self.now.version; moment = c.args.self.now.moment; snapshots = c.args.self.now.snapshots; versions = l; environments = c.args.self.now.environments })
    (version_back c.args.self.now.versions c.blank_at.new.versions c.exchange.new.self (new_version c.args.object.now) c.in-Some.version (sym c.in_ok-had.ensures.value ∙ c.in-Some.is) c.in_ok-had.ensures.rest
    (c.exchange.ensures.rest ∙ ap (λ (r : List Bounds). exchanged name_cmp version_object (record { object = c.in-Some.version.object; made = c.in-Some.version.made; ranges = r; marks = c.in-Some.version.marks }) c.blank_at.new.versions) e)))
    c.add-recorded.ensures.err

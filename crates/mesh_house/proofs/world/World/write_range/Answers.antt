use Rattle.std.proofs.Common.{◌≡◌, true, rules, ◌∙◌, ap, List, Result, Ok, IfOk, ℤ, to_z, of_z, w64, FitsSigned}
use Rattle.std.proofs.lemmas.Result.{IfOk-at_ok}
use Rattle.mesh_base_values.specs.declared.values.Cell.{Cell}
use Rattle.mesh_base_values.specs.declared.values.Name.{Name}
use Rattle.mesh_house.specs.declared.objects.Object.{Object}
use Rattle.std.proofs.lemmas.Int.{to_z-of_z}
use Rattle.std.proofs.lemmas.Result.{on_ok_weaker, on_err_weaker}
use Rattle.mesh_house.specs.Objects.{is_physical}
use Rattle.mesh_house.specs.Step.{written_object}
use Rattle.mesh_house.proofs.Written.{name_kept, taken_name, none_written, some_written, none_changed}
use Rattle.mesh_house.proofs.world.World.write_range.Goals as goal

named : {E : Type 0} {r : Result Object E} {o : Object} {n : Name} → r ≡ Ok o → IfOk r (λ x. x.name ≡ n) → o.name ≡ n
named {E} {r} {o} {n} e h = IfOk-at_ok (λ (x : Object). x.name ≡ n) e h

same_rows : {E : Type 0} {r : Result (List (List Cell)) E} {o rows : List (List Cell)} → r ≡ Ok o → IfOk r (λ x. x ≡ rows) → o ≡ rows
same_rows {E} {r} {o} {rows} e h = IfOk-at_ok (λ (x : List (List Cell)). x ≡ rows) e h

pub returns-in-None-clause-ok : goal.returns-in-None-clause-ok
returns-in-None-clause-ok c =
    let physical : is_physical c.args.object.now ≡ true = search rules in
    none_written c.args.self.now c.args.object.now c.args.time.now c.args.start c.args.end c.args.rows.now physical _ (named c.in_ok-more.ensures.1 c.blank_table.ensures) c.exchange.new.self c.in-None.ensures.new c.in-None.ensures.old

pub exchange-requires-in-Some : goal.exchange-requires-in-Some
exchange-requires-in-Some c =
    let physical : is_physical c.args.object.now ≡ true = search rules in
    let first : ℤ = to_z w64 (of_z w64 c.args.start) in
    let last : ℤ = to_z w64 (of_z w64 c.args.end) in
    let done = c.rewrite-done in
    ap is_physical (name_kept done.result done.new.self c.in-Some.old c.args.time.now first last c.in_ok-more.more done.ensures.ok done.ensures.err
    ∙ taken_name c.args.self.now c.args.object.now _ c.in-Some.old (named c.in_ok-more.ensures.1 c.blank_table.ensures) c.in-Some.ensures.old) ∙ physical

pub returns-in-Some-clause-ok : goal.returns-in-Some-clause-ok
returns-in-Some-clause-ok c =
    let physical : is_physical c.args.object.now ≡ true = search rules in
    let first : ℤ = to_z w64 (of_z w64 c.args.start) in
    let last : ℤ = to_z w64 (of_z w64 c.args.end) in
    let first_fits : FitsSigned w64 c.args.start = search rules in
    let last_fits : FitsSigned w64 c.args.end = search rules in
    let first_is : first ≡ c.args.start = to_z-of_z w64 c.args.start first_fits in
    let last_is : last ≡ c.args.end = to_z-of_z w64 c.args.end last_fits in
    let done = c.rewrite-done in
    on_ok_weaker done.result
    (λ d. some_written c.args.self.now c.args.object.now c.args.time.now c.args.start c.args.end c.args.rows.now physical _ (named c.in_ok-more.ensures.1 c.blank_table.ensures) c.exchange.new.self c.in-Some.ensures.new c.in-Some.old done.new.self c.in-Some.ensures.old
    (name_kept done.result done.new.self c.in-Some.old c.args.time.now first last c.in_ok-more.more done.ensures.ok done.ensures.err)
    c.exchange-in-Some.new.self c.exchange-in-Some.ensures.new (d ∙ (λ i. written_object c.in-Some.old c.args.time.now (first_is i) (last_is i) (same_rows c.in_ok-more.ensures.0 c.copy.ensures i))))
    done.ensures.ok

pub returns-in-Some-clause-err : goal.returns-in-Some-clause-err
returns-in-Some-clause-err c =
    let physical : is_physical c.args.object.now ≡ true = search rules in
    let first : ℤ = to_z w64 (of_z w64 c.args.start) in
    let last : ℤ = to_z w64 (of_z w64 c.args.end) in
    let done = c.rewrite-done in
    on_err_weaker done.result
    (λ d. none_changed c.args.self.now c.args.object.now c.args.time.now c.args.start c.args.end c.args.rows.now physical _ (named c.in_ok-more.ensures.1 c.blank_table.ensures) c.exchange.new.self c.in-Some.ensures.new c.in-Some.old done.new.self c.in-Some.ensures.old
    (name_kept done.result done.new.self c.in-Some.old c.args.time.now first last c.in_ok-more.more done.ensures.ok done.ensures.err)
    c.exchange-in-Some.new.self c.exchange-in-Some.ensures.new d)
    done.ensures.err

use Rattle.std.proofs.Common.{◌≡◌, ℕ, zero, suc, ◌+◌, ◌<◌, ◌/◌, false, List, [], ◌∷◌, length, get_or, refl, sym, ◌∙◌, ap, arith, length-drop}
use Rattle.std.specs.Bool.{◌==◌}
use Rattle.std.specs.Ordering.{is_eq}
use Rattle.std.proofs.lemmas.List.{length-take, take_rest}
use Rattle.mesh_list.specs.Keyed.{ascends}
use Rattle.mesh_base.specs.declared.snapshots.Ref.{Ref}
use Rattle.mesh_base_values.specs.Names.{name_cmp}
use Rattle.mesh_base.specs.Keys.{ref_cmp, ref_name}
use Rattle.mesh_house_book.specs.WellFormed.{is_listed}
use Rattle.mesh_house_book.proofs.Halves.{ascends_drop, ascends_take, listed_behind, listed_before, listed_here}
use Rattle.mesh_house_book.proofs.fits.+is_listed.Goals as goal

filled : (n : ℕ) → (n == 0) ≡ false → 0 < n
filled zero h = cc
filled (suc n) h = omega arith

half : (n : ℕ) → 0 < n → n / 2 < n
half n h = omega arith

-- within a list it doesn't matter what stands for an element that isn't there
whichever : (xs : List Ref) (i : ℕ) (d e : Ref) → i < length xs → get_or xs i d ≡ get_or xs i e
whichever [] i d e h = absurd (omega arith)
whichever (x ∷ xs) zero d e h = refl
whichever (x ∷ xs) (suc i) d e h = whichever xs i d e (omega arith)

pub is_listed-requires : goal.is_listed-requires
is_listed-requires t c =
    let some : 0 < length c.args.list.now = filled _ (sym c.is_empty.ensures ∙ c.if-is_empty.false) in (
      omega (arith, length-take {A = Ref}, length-drop {A = Ref}),
      ap (λ (xs : List Ref). ascends name_cmp ref_name xs) (take_rest c.args.list.now (length c.args.list.now / 2 + 1))
          ∙ ascends_drop (length c.args.list.now / 2 + 1) c.args.list.now c.requires,
    )

pub is_listed-requires-in-Greater : goal.is_listed-requires-in-Greater
is_listed-requires-in-Greater t c =
    let some : 0 < length c.args.list.now = filled _ (sym c.is_empty.ensures ∙ c.if-is_empty.false) in
    (omega (arith, length-take {A = Ref}), ascends_take (length c.args.list.now / 2) c.args.list.now c.requires)

pub returns-in-Less : goal.returns-in-Less
returns-in-Less t c =
    let some : 0 < length c.args.list.now = filled _ (sym c.is_empty.ensures ∙ c.if-is_empty.false) in
    c.is_listed.ensures
    ∙ ap (λ (xs : List Ref). is_listed xs c.args.r.now) (take_rest c.args.list.now (length c.args.list.now / 2 + 1))
    ∙ listed_behind c.args.r.now c.args.list.now (length c.args.list.now / 2) (length c.args.list.now / 2 + 1) c.index-list-middle.result (omega arith) c.requires (half _ some) c.index-list-middle.is
    (ap (λ (y : Ref). name_cmp y.name c.args.r.now.name) c.index-list-middle.is ∙ sym c.compare.ensures ∙ c.in-Less.is)

pub returns-in-Greater : goal.returns-in-Greater
returns-in-Greater t c =
    let some : 0 < length c.args.list.now = filled _ (sym c.is_empty.ensures ∙ c.if-is_empty.false) in
    c.is_listed-in-Greater.ensures
    ∙ listed_before c.args.r.now c.args.list.now (length c.args.list.now / 2) c.index-list-middle.result c.requires (half _ some) c.index-list-middle.is
    (ap (λ (y : Ref). name_cmp y.name c.args.r.now.name) c.index-list-middle.is ∙ sym c.compare.ensures ∙ c.in-Greater.is)

pub returns-in-Equal : goal.returns-in-Equal
returns-in-Equal t c =
    let some : 0 < length c.args.list.now = filled _ (sym c.is_empty.ensures ∙ c.if-is_empty.false) in
    let same : c.index-list-middle-in-Equal.result ≡ c.index-list-middle.result =
    c.index-list-middle-in-Equal.is ∙ whichever c.args.list.now (length c.args.list.now / 2) c.index-list-middle-in-Equal.result c.index-list-middle.result (half _ some) ∙ sym c.index-list-middle.is in
    c.is_eq.ensures ∙ ap is_eq c.compare-in-Equal.ensures
    ∙ ap (λ (y : Ref). is_eq (ref_cmp y c.args.r.now)) same
    ∙ listed_here c.args.r.now c.args.list.now (length c.args.list.now / 2) c.index-list-middle.result c.requires (half _ some) c.index-list-middle.is
    (ap (λ (y : Ref). name_cmp y.name c.args.r.now.name) c.index-list-middle.is ∙ sym c.compare.ensures ∙ c.in-Equal.is)

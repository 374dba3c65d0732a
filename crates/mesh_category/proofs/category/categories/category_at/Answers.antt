use Rattle.std.proofs.Common.{◌≡◌, false, length, take, sym, ap, ◌∙◌, subst, refl, Some}
use Rattle.std.specs.List.{slice_get}
use Rattle.std.proofs.lemmas.Option.{slice_get_within, slice_get_read}
use Rattle.mesh_base.specs.declared.plans.Category.TheVariants.{Added}
use Rattle.mesh_base.specs.declared.snapshots.Node.{Node}
use Rattle.mesh_category.specs.category.Alike.{are_alike}
use Rattle.mesh_category.specs.category.Stated.{AddsAmong, IsCategoryAmong, stated, stated_after}
use Rattle.mesh_category.proofs.category.Stand.{known_adds, known_category, new_added, new_adds, node_read, place_found, place_missed}
use Rattle.mesh_category.proofs.category.categories.category_at.Goals as goal

pub bounds-olds-place : goal.bounds-olds-place
bounds-olds-place c =
    let there = place_found c.args.olds.now c.index-news-at.result.own.name _ c.in-Some.place (c.requires.places c.index-news-at.result.own.name) (sym c.place_of.ensures ∙ c.in-Some.is) in
    slice_get_within c.args.olds.now c.in-Some.place there.0 there.1

pub returns-in-None-clause-adds : goal.returns-in-None-clause-adds
returns-in-None-clause-adds c n e =
    subst (λ (x : Node). AddsAmong (stated c.args.olds.now) (stated_after (take c.args.at c.args.news.now) x) false) (node_read c.args.news.now c.args.at c.index-news-at.result n c.requires.at c.index-news-at.is e)
    (new_adds c.args.olds.now c.index-news-at.result (take c.args.at c.args.news.now)
    (place_missed c.args.olds.now c.index-news-at.result.own.name _ (c.requires.places c.index-news-at.result.own.name) (sym c.place_of.ensures ∙ c.in-None.is)))

pub returns-in-None-clause-category : goal.returns-in-None-clause-category
returns-in-None-clause-category c n e =
    subst (λ (x : Node). IsCategoryAmong (stated c.args.olds.now) (stated_after (take c.args.at c.args.news.now) x) Added) (node_read c.args.news.now c.args.at c.index-news-at.result n c.requires.at c.index-news-at.is e)
    (new_added c.args.olds.now c.index-news-at.result (take c.args.at c.args.news.now)
    (place_missed c.args.olds.now c.index-news-at.result.own.name _ (c.requires.places c.index-news-at.result.own.name) (sym c.place_of.ensures ∙ c.in-None.is)))

pub returns-in-Some-clause-adds : goal.returns-in-Some-clause-adds
returns-in-Some-clause-adds c n e =
    let olds = c.args.olds.now in
    let news = c.args.news.now in
    let old : Node = c.index-olds-place.result in
    let new : Node = c.index-news-at.result in
    let there = place_found olds new.own.name _ c.in-Some.place (c.requires.places new.own.name) (sym c.place_of.ensures ∙ c.in-Some.is) in
    let within = slice_get_within olds c.in-Some.place there.0 there.1 in
    let eo : slice_get olds c.in-Some.place ≡ Some old = slice_get_read olds (length olds) c.in-Some.place old refl within c.index-olds-place.is in
    let en : slice_get news c.args.at ≡ Some new = slice_get_read news (length news) c.args.at new refl c.requires.at c.index-news-at.is in
    let names : old.own.name ≡ new.own.name = ap (λ (x : Node). x.own.name) (node_read olds c.in-Some.place old there.0 within c.index-olds-place.is there.1) ∙ there.2 in
    subst (λ (x : Node). AddsAmong (stated olds) (stated_after (take c.args.at news) x) c.beside.result.0) (node_read news c.args.at new n c.requires.at c.index-news-at.is e)
    (known_adds olds news c.requires.old c.requires.new c.in-Some.place c.args.at old new eo en names c.args.adds.now c.requires.adds c.are_alike-alike.result
    (c.are_alike-alike.ensures ∙ (λ i. are_alike olds news c.args.adds.now (c.as_slice.ensures i) (c.as_slice-in-Some.ensures i))) c.beside.result.0 (c.beside.ensures.adds _ _))

pub returns-in-Some-clause-category : goal.returns-in-Some-clause-category
returns-in-Some-clause-category c n e =
    let olds = c.args.olds.now in
    let news = c.args.news.now in
    let old : Node = c.index-olds-place.result in
    let new : Node = c.index-news-at.result in
    let there = place_found olds new.own.name _ c.in-Some.place (c.requires.places new.own.name) (sym c.place_of.ensures ∙ c.in-Some.is) in
    let within = slice_get_within olds c.in-Some.place there.0 there.1 in
    let eo : slice_get olds c.in-Some.place ≡ Some old = slice_get_read olds (length olds) c.in-Some.place old refl within c.index-olds-place.is in
    let en : slice_get news c.args.at ≡ Some new = slice_get_read news (length news) c.args.at new refl c.requires.at c.index-news-at.is in
    let names : old.own.name ≡ new.own.name = ap (λ (x : Node). x.own.name) (node_read olds c.in-Some.place old there.0 within c.index-olds-place.is there.1) ∙ there.2 in
    subst (λ (x : Node). IsCategoryAmong (stated olds) (stated_after (take c.args.at news) x) c.beside.result.1) (node_read news c.args.at new n c.requires.at c.index-news-at.is e)
    (known_category olds news c.requires.old c.requires.new c.in-Some.place c.args.at old new eo en names c.args.adds.now c.requires.adds c.are_alike-alike.result
    (c.are_alike-alike.ensures ∙ (λ i. are_alike olds news c.args.adds.now (c.as_slice.ensures i) (c.as_slice-in-Some.ensures i))) c.beside.result.1 (c.beside.ensures.category _ _))

-- An environment that is finalized, and all of whose models are up to date, is final.
use Rattle.std.proofs.Common.{◌≡◌, ⊎_elim, true, false, List, [], ◌∷◌, Some, sym, ◌∙◌, ap, subst, arith, IsTrue}
use Rattle.std.specs.Cmp.{Equal-is}
use Rattle.std.specs.List.{AllByRecursion, Contains}
use Rattle.std.proofs.lemmas.Cmp.{tied_itself}
use Rattle.std.proofs.lemmas.Bool.{or_left as or_first, or_right as or_second}
use Rattle.mesh_base.specs.Keys.{ref_name}
use Rattle.mesh_base_values.specs.Names.{name_cmp}
use Rattle.mesh_base_values.specs.NameOrder.{names_total}
use Rattle.mesh_base.specs.declared.snapshots.Env.{Env}
use Rattle.mesh_base.specs.declared.snapshots.Ref.{Ref}
use Rattle.mesh_base_values.specs.declared.values.Name.{Name}
use Rattle.mesh_base.specs.rules.Proper.{is_plain_schema}
use Rattle.mesh_spec_model.specs.Horizons.{Clock, Shows as ShowsMoment}
use Rattle.mesh_law_query.proofs.Lists.{Each, Each_imp}
use Rattle.mesh_house.specs.declared.world.World.{World}
use Rattle.mesh_house.specs.World.{view}
use Rattle.mesh_spec_changes.specs.Changes.{planned_ref, refs_by_name, is_listed}
use Rattle.mesh_spec_promise.specs.Current.{AreDone}
use Rattle.mesh_spec_changes.specs.Environments.{IsEnv, env_at, view_in}
use Rattle.mesh_spec_promise.specs.Final.{Final}
use Rattle.mesh_spec_changes.specs.due.Parts.{Parts, same_name}
use Rattle.mesh_spec_changes.specs.due.Plans.{Planned}
use Rattle.mesh_spec_promise.specs.Sound.{Sound}
use Rattle.mesh_spec_promise.proofs.Fits.{plain_ref}
use Rattle.mesh_spec_promise.proofs.Ends.{placed_each, models_shown}
use Rattle.mesh_spec_promise.proofs.Views.{each_holds}
use Rattle.mesh_spec_promise.proofs.ViewNames.{view_names}

itself : (n : Name) → same_name n n ≡ true
itself n = (Equal-is (name_cmp n n)).1 (tied_itself names_total n)

refs_listed : (models : List Planned) → Each (λ (r : Ref). is_listed models r.name ≡ true) (refs_by_name models)
refs_listed [] = tt
refs_listed (p ∷ ps) =
    placed_each name_cmp ref_name (λ (r : Ref). is_listed (p ∷ ps) r.name ≡ true) (planned_ref p) (refs_by_name ps)
    (or_first (same_name p.node.own.name p.node.own.name) (is_listed ps p.node.own.name) (itself p.node.own.name))
    (Each_imp (λ (r : Ref). is_listed ps r.name ≡ true) (λ (r : Ref). is_listed (p ∷ ps) r.name ≡ true) (λ r h. or_second (same_name p.node.own.name r.name) (is_listed ps r.name) h) (refs_by_name ps) (refs_listed ps))

pub environment_final : (x : Parts) (w : World) (clock : Clock) → Sound x w → ShowsMoment clock w.book.moment → (e : Env) → IsEnv w.book e → e.pending ≡ false → (models : List Planned) → e.list ≡ refs_by_name models → AreDone clock x w.book models
    → AllByRecursion (λ p. Contains e.list (planned_ref p)) models → Final w clock e.name models
environment_final x w clock sound now e known final models list done listed = record {
  record_of = e;
  known = known;
  final = final;
  list = list;
  shown = models_shown x w clock sound now e known final models list done listed;
  others = others;
}
  where
    in_list : (r : Ref) → Contains e.list r → is_listed models r.name ≡ true
    in_list r k = each_holds (λ (q : Ref). is_listed models q.name ≡ true) e.list (subst (Each (λ (q : Ref). is_listed models q.name ≡ true)) (sym list) (refs_listed models)) r k

    others : (m target : Name) → IsTrue (is_plain_schema m.schema) → view w (view_in e.name m) ≡ Some target → IsTrue (is_listed models m)
    others m target plain at =
        let i = sound.views.views (view_in e.name m) target at in
        let plain_i = plain_ref w.book i.entry i.snapshot sound.book.well_formed i.is in
        let names = view_names e.name i.env.name m i.entry.name plain plain_i i.view in
        let same : e ≡ i.env = let both : Some e ≡ Some i.env = sym known ∙ ap (env_at w.book) names.0 ∙ i.known in cc in
        let here : is_listed models i.entry.name ≡ true =
        ⊎_elim (λ k. in_list i.entry (subst (λ (f : Env). Contains f.list i.entry) (sym same) k))
        (λ k. let none : e.previous ≡ [] = sound.views.previous e known final in
        let k' : Contains [] i.entry = subst (λ (l : List Ref). Contains l i.entry) none (subst (λ (f : Env). Contains f.previous i.entry) (sym same) k) in
        absurd (omega (arith, k'.1))) i.of in
        subst (λ (n : Name). is_listed models n ≡ true) (sym names.1) here

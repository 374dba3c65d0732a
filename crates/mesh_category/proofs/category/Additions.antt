-- A definition adds columns to another exactly where its parts do.
use Rattle.std.proofs.Common.{◌≡◌, ◌↔◌, IsTrue, Bool, List, [], ◌∷◌, refl, ap, sym, ◌∙◌, subst}
use Rattle.mesh_base.specs.declared.queries.Query.{Query}
use Rattle.mesh_base.specs.declared.queries.Select.{Select}
use Rattle.mesh_base.specs.declared.definitions.Defn.{Defn}
use Rattle.mesh_base.specs.declared.definitions.Defn.TheVariants.{Seed, Sql}
use Rattle.mesh_base.specs.declared.definitions.Own.{Own}
use Rattle.mesh_spec_changes.specs.reuse.Compatible.{IsAdditive}
use Rattle.mesh_category.specs.category.Adding.{AddsColumns, AddsToOne, AreAlikeButDefn}

abbrev query_in : Query → Defn → Query
query_in other (Seed columns rows) = other
query_in other (Sql q) = q

module _ (old new : Own) (was is : Query) (old_is : old.defn ≡ Sql was) (new_is : new.defn ≡ Sql is) where
  from_parts : AddsColumns was is → AreAlikeButDefn old new → IsAdditive old new
  from_parts (ctes, one) rest = go was.selects refl is.selects refl one
    where
      go : (ss : List Select) → was.selects ≡ ss → (ts : List Select) → is.selects ≡ ts → AddsToOne ss ts → IsAdditive old new
      go [] e ts f h = absurd h
      go (s ∷ o ∷ ss) e [] f h = absurd h
      go (s ∷ o ∷ ss) e (t ∷ ts) f h = absurd h
      go (s ∷ []) e [] f h = absurd h
      go (s ∷ []) e (t ∷ u ∷ ts) f h = absurd h
      go (s ∷ []) e (t ∷ []) f (plain, alike, among) = record {
        ctes = was.ctes;
        select = s;
        items = t.items;
        plain = plain;
        was = old_is ∙ (λ i. Sql (record { ctes = was.ctes; selects = e i }));
        more = among;
        is = rest ∙ (λ i. record old { defn = new_is i }) ∙ (λ i. record old { defn = Sql (record { ctes = sym ctes i; selects = f i }) }) ∙ (λ i. record old { defn = Sql (record { ctes = was.ctes; selects = alike i ∷ [] }) });
      }

  to_parts : IsAdditive old new → AddsColumns was is × AreAlikeButDefn old new
  to_parts a =
      let other : Query = record { ctes = []; selects = [] } in
      let before : was ≡ record { ctes = a.ctes; selects = a.select ∷ [] } = ap (query_in other) (sym old_is ∙ a.was) in
      let after : is ≡ record { ctes = a.ctes; selects = record a.select { items = a.items } ∷ [] } = ap (query_in other) (sym new_is ∙ ap (λ (o : Own). o.defn) a.is) in (
        (
          ap (λ (q : Query). q.ctes) (before ∙ (λ i. record { ctes = a.ctes; selects = a.select ∷ [] })) ∙ sym (ap (λ (q : Query). q.ctes) after),
          subst (λ (q : Query). AddsToOne q.selects is.selects) (sym before) (subst (λ (q : Query). AddsToOne (a.select ∷ []) q.selects) (sym after) (a.plain, refl, a.more)),
        ),
        a.is ∙ (λ i. record old { defn = sym (ap (λ (o : Own). o.defn) a.is) i }),
      )

  pub by_parts : (b : Bool) → IsTrue b ↔ (AddsColumns was is × AreAlikeButDefn old new) → IsTrue b ↔ IsAdditive old new
  by_parts b h = (λ t. from_parts (h.0 t).0 (h.0 t).1, λ a. h.1 (to_parts a))

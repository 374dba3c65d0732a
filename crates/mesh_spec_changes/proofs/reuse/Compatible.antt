-- Adding columns, once and again; and what an addition leaves.
use Rattle.std.proofs.Common.{◌≡◌, ◌≤◌, false, List, [], ◌∷◌, ◌⊎◌, length, inl, inr, refl, sym, ◌∙◌, ap, subst, arith}
use Rattle.mesh_base.specs.declared.queries.Item.{Item}
use Rattle.mesh_base.specs.declared.queries.Select.{Select}
use Rattle.mesh_base.specs.declared.queries.Query.{Query}
use Rattle.mesh_base.specs.declared.definitions.Defn.{Defn}
use Rattle.mesh_base.specs.declared.definitions.Defn.TheVariants.{Seed, Sql}
use Rattle.mesh_base.specs.declared.definitions.Own.{Own}
use Rattle.mesh_spec_model.specs.Closures.{Closure, Closures, Model, Alone, With}
use Rattle.mesh_spec_changes.specs.reuse.Compatible.{AreAmong, no_more, keep, skip, IsAdditive, IsCompatible, AreCompatible}

among_through : (xs ys zs : List Item) → AreAmong xs ys → AreAmong ys zs → AreAmong xs zs
among_through xs ys zs p no_more = p
among_through xs ys zs (keep p) (keep q) = keep (among_through _ _ _ p q)
among_through xs ys zs (skip p) (keep q) = skip (among_through _ _ _ p q)
among_through xs ys zs p (skip q) = skip (among_through _ _ _ p q)

-- what a definition's query is, or else another one
abbrev pub query_in : Query → Defn → Query
query_in other (Seed columns rows) = other
query_in other (Sql q) = q

abbrev pub first_in : Select → List Select → Select
first_in other [] = other
first_in other (s ∷ ss) = s

-- the first SELECT of a definition
abbrev pub select_in : Select → Defn → Select
select_in other d = first_in other (query_in (record { ctes = []; selects = other ∷ [] }) d).selects

pub additive_through : (a b c : Own) → IsAdditive a b → IsAdditive b c → IsAdditive a c
additive_through a b c f g =
    let both : Sql (record { ctes = f.ctes; selects = record f.select { items = f.items } ∷ [] }) ≡ Sql (record { ctes = g.ctes; selects = g.select ∷ [] }) =
    sym (ap (λ (o : Own). o.defn) f.is) ∙ g.was in
    let other : Query = record { ctes = []; selects = f.select ∷ [] } in
    let ctes : g.ctes ≡ f.ctes = sym (ap (λ d. (query_in other d).ctes) both) in
    let select : g.select ≡ record f.select { items = f.items } = sym (ap (select_in f.select) both) in
    record {
      ctes = f.ctes;
      select = f.select;
      items = g.items;
      plain = f.plain;
      was = f.was;
      more = among_through f.select.items f.items g.items f.more (subst (λ (s : Select). AreAmong s.items g.items) select g.more);
      is = g.is ∙ (λ i. record (f.is i) { defn = Sql (record { ctes = ctes i; selects = record (select i) { items = g.items } ∷ [] }) });
    }

own_through : (a b c : Own) → (a ≡ b) ⊎ IsAdditive a b → (b ≡ c) ⊎ IsAdditive b c → (a ≡ c) ⊎ IsAdditive a c
own_through a b c (inl e) (inl f) = inl (e ∙ f)
own_through a b c (inl e) (inr g) = inr (subst (λ (o : Own). IsAdditive o c) (sym e) g)
own_through a b c (inr f) (inl e) = inr (subst (IsAdditive a) e f)
own_through a b c (inr f) (inr g) = inr (additive_through a b c f g)

mutual
  pub compatible_itself : (c : Closure) → IsCompatible c c
  compatible_itself (Model own parents) = (inl refl, compatible_each parents)

  compatible_each : (cs : Closures) → AreCompatible cs cs
  compatible_each Alone = tt
  compatible_each (With c cs) = (refl, compatible_itself c, compatible_each cs)

mutual
  pub compatible_through : (a b c : Closure) → IsCompatible a b → IsCompatible b c → IsCompatible a c
  compatible_through (Model o ps) (Model p qs) (Model q rs) f g = (own_through o p q f.0 g.0, each_through ps qs rs f.1 g.1)

  each_through : (as_ bs cs : Closures) → AreCompatible as_ bs → AreCompatible bs cs → AreCompatible as_ cs
  each_through Alone Alone Alone f g = tt
  each_through Alone Alone (With c cs) f g = g
  each_through Alone (With b bs) cs f g = absurd f
  each_through (With a as_) Alone cs f g = absurd f
  each_through (With a as_) (With b bs) Alone f g = g
  each_through (With a as_) (With b bs) (With c cs) f g = (f.0 ∙ g.0, compatible_through a b c f.1 g.1, each_through as_ bs cs f.2 g.2)

-- no item goes
among_length : (xs ys : List Item) → AreAmong xs ys → length xs ≤ length ys
among_length xs ys no_more = omega arith
among_length xs ys (keep p) = let more = among_length _ _ p in omega (arith, more)
among_length xs ys (skip p) = let more = among_length _ _ p in omega (arith, more)

-- as many items among others are all of them
pub among_all : (xs ys : List Item) → AreAmong xs ys → length xs ≡ length ys → xs ≡ ys
among_all xs ys no_more e = refl
among_all xs ys (keep {x = x} p) e = ap (λ l. x ∷ l) (among_all _ _ p (omega (arith, e)))
among_all xs ys (skip p) e = absurd (let less = among_length _ _ p in omega (arith, e, less))

-- what doesn't look at the items is as before
pub part_stays : {X : Type 0} (other : Select) (part : Select → X) → ((s : Select) (items : List Item) → part (record s { items = items }) ≡ part s) →
    (old new : Own) → IsAdditive old new → part (select_in other old.defn) ≡ part (select_in other new.defn)
part_stays other part blind old new a =
    ap (λ d. part (select_in other d)) a.was ∙ (sym (blind a.select a.items) ∙ sym (ap (λ (o : Own). part (select_in other o.defn)) a.is))

-- and where there are as many items, they are the same
pub items_stay : (other : Select) (old new : Own) → IsAdditive old new → length (select_in other old.defn).items ≡ length (select_in other new.defn).items →
    (select_in other old.defn).items ≡ (select_in other new.defn).items
items_stay other old new a e =
    let was : (select_in other old.defn).items ≡ a.select.items = ap (λ d. (select_in other d).items) a.was in
    let is : (select_in other new.defn).items ≡ a.items = ap (λ (o : Own). (select_in other o.defn).items) a.is in
    was ∙ (among_all a.select.items a.items a.more (sym (ap length was) ∙ (e ∙ ap length is)) ∙ sym is)

-- a SELECT DISTINCT gains no column
pub distinct_stays : (other : Select) (old new : Own) → IsAdditive old new → (select_in other old.defn).distinct ≡ false
distinct_stays other old new a = ap (λ d. (select_in other d).distinct) a.was ∙ a.plain

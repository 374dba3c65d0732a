-- Compatible models of one definition have one core.
use Rattle.std.proofs.Common.{◌≡◌, Bool, true, false, cond, not, ◌&&◌, ◌||◌, ◌⊎◌, inl, inr, List, [], ◌∷◌, refl, ap, sym, ◌∙◌, subst}
use Rattle.std.specs.List.{filter}
use Rattle.std.specs.declared.option.Option.{Option}
use Rattle.mesh_base_values.specs.Kinds.{time_column}
use Rattle.mesh_base_values.specs.Picked.{same_text}
use Rattle.mesh_base_values.specs.declared.values.Name.{Name}
use Rattle.mesh_base.specs.Outputs.{columns_of, item_columns, defn_columns}
use Rattle.mesh_base.specs.declared.definitions.Defn.{Defn}
use Rattle.mesh_base.specs.declared.definitions.Defn.TheVariants.{Seed, Sql}
use Rattle.mesh_base.specs.declared.definitions.Own.{Own}
use Rattle.mesh_base.specs.declared.definitions.Reading.{Reading}
use Rattle.mesh_base.specs.declared.expressions.Expr.{Expr}
use Rattle.mesh_base.specs.declared.queries.Item.{Item}
use Rattle.mesh_base.specs.declared.queries.Select.{Select}
use Rattle.mesh_base.specs.rules.Seen.{has_column, are_distinct}
use Rattle.mesh_spec_model.specs.Closures.{Closure, Closures, Model, Alone, With, own_of}
use Rattle.mesh_law_query.specs.Reads.{reads, StandsIn, NamesColumn, IsRead}
use Rattle.mesh_law_query.proofs.Has.{Has, Has_from, Has_to, Has_filter_from}
use Rattle.mesh_law_query.proofs.Lists.{Each}
use Rattle.mesh_law_query.proofs.ReadColumns.{Str, among, text_is, text_self, of_one}
use Rattle.mesh_spec_changes.specs.reuse.Cores.{is_time, is_wanted, pruned_select, pruned_selects, pruned_defn, pruned_own, pruned, pruned_for, IsTwin}
use Rattle.mesh_spec_changes.specs.reuse.Compatible.{AreAmong, no_more, keep, skip, IsAdditive, IsCompatible, AreCompatible}
use Rattle.mesh_law_reuse.proofs.Shown.{is_kept}

-- what stands in a list of names
pub among_has : (all : List Str) (c : Str) → among all c ≡ true → Has c all
among_has [] c h = absurd (cc)
among_has (n ∷ all) c h = go (same_text n c) refl h (among_has all c)
  where
    go : (b : Bool) → same_text n c ≡ b → (b || among all c) ≡ true → (among all c ≡ true → Has c all) → Has c (n ∷ all)
    go true e k rest = inl (text_is n c e)
    go false e k rest = inr (rest k)

has_among : (all : List Str) (c : Str) → Has c all → among all c ≡ true
has_among [] c h = absurd h
has_among (n ∷ all) c (inl e) = ap (λ b. b || among all c) (ap (λ t. same_text t c) e ∙ text_self c)
has_among (n ∷ all) c (inr h) = go (same_text n c) (has_among all c h)
  where
    go : (b : Bool) → among all c ≡ true → (b || among all c) ≡ true
    go true k = refl
    go false k = k

-- the items of some names
abbrev has_item : List Item → Str → Bool
has_item items c = has_column (item_columns items) c

still_there : (xs ys : List Item) → AreAmong xs ys → (c : Str) → has_item xs c ≡ true → has_item ys c ≡ true
still_there xs ys no_more c h = h
still_there xs ys (keep {x = x} {xs = xs'} {ys = ys'} s) c h = go (same_text x.name c) h (still_there xs' ys' s c)
  where
    go : (b : Bool) → (b || has_item xs' c) ≡ true → (has_item xs' c ≡ true → has_item ys' c ≡ true) → (b || has_item ys' c) ≡ true
    go true h ih = refl
    go false h ih = ih h
still_there xs ys (skip {y = y} {xs = xs'} {ys = ys'} s) c h = go (same_text y.name c) (still_there xs' ys' s c h)
  where
    go : (b : Bool) → has_item ys' c ≡ true → (b || has_item ys' c) ≡ true
    go true h = refl
    go false h = h

-- a name that isn't there is another than each that is
others : (n : Str) (ys : List Item) → has_item ys n ≡ false → Each (λ (y : Item). same_text n y.name ≡ false) ys
others n [] h = tt
others n (y ∷ ys) h = (first (same_text n y.name) refl, others n ys (rest (same_text y.name n) h))
  where
    rest : (b : Bool) → (b || has_item ys n) ≡ false → has_item ys n ≡ false
    rest true h = absurd (cc)
    rest false h = h

    first : (b : Bool) → same_text n y.name ≡ b → b ≡ false
    first false e = refl
    first true e =
        let m : n ≡ y.name = text_is n y.name e in
        let s : same_text y.name n ≡ true = ap (λ t. same_text t n) (sym m) ∙ text_self n in
        let w : true ≡ false = sym (ap (λ b. b || has_item ys n) s) ∙ h in
        absurd (cc)

parts : (b c : Bool) → (not b && c) ≡ true → (b ≡ false) × (c ≡ true)
parts true c h = absurd (cc)
parts false c h = (refl, h)

module _ (k : Str → Bool) where
  abbrev Known : List Item → List Item → Type 0
  Known xs ys = Each (λ (y : Item). k y.name ≡ true → has_item xs y.name ≡ true) ys

  known_less : (x : Item) (xs ys : List Item) → Each (λ (y : Item). same_text x.name y.name ≡ false) ys → Known (x ∷ xs) ys → Known xs ys
  known_less x xs [] d h = tt
  known_less x xs (y ∷ ys) d h = (λ e. go (same_text x.name y.name) d.0 (h.0 e), known_less x xs ys d.1 h.1)
    where
      go : (b : Bool) → b ≡ false → (b || has_item xs y.name) ≡ true → has_item xs y.name ≡ true
      go true e h = absurd (cc)
      go false e h = h

  abbrev keeps : Item → Bool
  keeps i = k i.name

  -- the items that are kept are the same
  kept_same : (xs ys : List Item) → AreAmong xs ys → are_distinct (item_columns ys) ≡ true → Known xs ys → filter keeps xs ≡ filter keeps ys
  kept_same xs ys no_more d h = refl
  kept_same xs ys (keep {x = x} {xs = xs'} {ys = ys'} s) d h =
      let b = parts (has_item ys' x.name) (are_distinct (item_columns ys')) d in
      ap (λ l. cond (k x.name) (x ∷ l) l) (kept_same xs' ys' s b.1 (known_less x xs' ys' (others x.name ys' b.0) h.1))
  kept_same xs ys (skip {y = y} {xs = xs'} {ys = ys'} s) d h = go (k y.name) refl (kept_same xs' ys' s (parts (has_item ys' y.name) (are_distinct (item_columns ys')) d).1 h.1)
    where
      go : (b : Bool) → k y.name ≡ b → filter keeps xs' ≡ filter keeps ys' → filter keeps xs' ≡ cond b (y ∷ filter keeps ys') (filter keeps ys')
      go false e ih = ih
      go true e ih =
          let m : has_item ys' y.name ≡ true = still_there xs' ys' s y.name (h.0 e) in
          let n : has_item ys' y.name ≡ false = (parts (has_item ys' y.name) (are_distinct (item_columns ys')) d).0 in
          absurd (cc)

  known_from : (xs ys : List Item) → ((c : Str) → k c ≡ true → has_item xs c ≡ true) → Known xs ys
  known_from xs [] h = tt
  known_from xs (y ∷ ys) h = (h y.name, known_from xs ys h)

plainly : (b : Bool) (x x' y y' : Select) → b ≡ false → y ≡ y' → cond b x y ≡ cond b x' y'
plainly true x x' y y' e h = absurd (cc)
plainly false x x' y y' e h = h

-- what is wanted is there, so that the definitions with fewer items are the same
cut_same : (wanted : List Str) (a b : Own) → (a ≡ b) ⊎ IsAdditive a b → are_distinct (columns_of b) ≡ true → ((c : Str) → among wanted c ≡ true → has_column (columns_of a) c ≡ true)
    → ((c : Str) → is_time (time_column a.kind) c ≡ true → has_column (columns_of a) c ≡ true) → pruned_own wanted a ≡ pruned_own wanted b
cut_same wanted a b (inl e) d w t = ap (pruned_own wanted) e
cut_same wanted a b (inr more) d w t =
    ap (λ defn. record a { defn = defn })
    (ap (pruned_defn wanted time) more.was ∙ ap (λ s. Sql (record { ctes = more.ctes; selects = s ∷ [] }))
    (plainly more.select.distinct more.select (record more.select { items = more.items }) (record more.select { items = filter keeps_it more.select.items }) (record more.select { items = filter keeps_it more.items }) more.plain (ap (λ items. record more.select { items = items }) same)))
    ∙ sym (ap (pruned_own wanted) more.is)
  where
    time : Option Str
    time = time_column a.kind

    keeps_it : Item → Bool
    keeps_it = is_wanted wanted time

    cols : columns_of a ≡ item_columns more.select.items
    cols = ap defn_columns more.was

    dis : are_distinct (item_columns more.items) ≡ true
    dis = subst (λ (o : Own). are_distinct (columns_of o) ≡ true) more.is d

    there : (c : Str) → is_kept wanted time c ≡ true → has_item more.select.items c ≡ true
    there c h = ap (λ l. has_column l c) (sym cols) ∙ go (among wanted c) refl h
      where
        go : (b : Bool) → among wanted c ≡ b → (b || is_time time c) ≡ true → has_column (columns_of a) c ≡ true
        go true e h = w c e
        go false e h = t c h

    same : filter keeps_it more.select.items ≡ filter keeps_it more.items
    same = kept_same (is_kept wanted time) more.select.items more.items more.more dis (known_from (is_kept wanted time) more.select.items more.items there)

-- a definition with fewer items reads no more
fewer_stand : (wanted : List Str) (time : Option Str) (s : Select) (e : Expr) → StandsIn (record s { items = filter (is_wanted wanted time) s.items }) e → StandsIn s e
fewer_stand wanted time s e (inl (i, h, x)) = inl (i, Has_to s.items i (Has_filter_from (is_wanted wanted time) s.items i (Has_from (filter (is_wanted wanted time) s.items) i h)).0, x)
fewer_stand wanted time s e (inr h) = inr h

fewer_named : (wanted : List Str) (time : Option Str) (s : Select) (r : Reading) → NamesColumn (pruned_select wanted time s) r → NamesColumn s r
fewer_named wanted time s r = go s.distinct
  where
    go : (b : Bool) → NamesColumn (cond b s (record s { items = filter (is_wanted wanted time) s.items })) r → NamesColumn s r
    go true h = h
    go false (e, st, rest) = (e, fewer_stand wanted time s e st, rest)

-- a SELECT with fewer items is made of one that stood there
abbrev Less : List Str → Option Str → List Select → Select → Type 0
Less wanted time selects s = (t : Select) × Has t selects × ((r : Reading) → NamesColumn s r → NamesColumn t r)

from_selects : (wanted : List Str) (time : Option Str) (selects : List Select) (s : Select) → Has s (pruned_selects wanted time selects) → Less wanted time selects s
from_selects wanted time [] s h = absurd h
from_selects wanted time (t ∷ []) s (inl e) = (t, inl refl, λ r n. fewer_named wanted time t r (subst (λ x. NamesColumn x r) (sym e) n))
from_selects wanted time (t ∷ []) s (inr h) = absurd h
from_selects wanted time (t ∷ t' ∷ more) s h = (s, h, λ r n. n)

fewer_read : (wanted : List Str) (time : Option Str) (d : Defn) (r : Reading) → IsRead (pruned_defn wanted time d) r → IsRead d r
fewer_read wanted time (Seed columns rows) r h = h
fewer_read wanted time (Sql q) r (s, inl h, n) = (s, inl h, n)
fewer_read wanted time (Sql q) r (s, inr h, n) =
    let (t, there, names) = from_selects wanted time q.selects s (Has_from (pruned_selects wanted time q.selects) s h) in
    (t, inr (Has_to q.selects t there), names r n)

fewer_reads : (wanted : List Str) (own : Own) (name : Name) (c : Str) → among (reads (pruned_own wanted own) name) c ≡ true → among (reads own name) c ≡ true
fewer_reads wanted own name c h =
    let less : Own = pruned_own wanted own in
    let r : Reading = record { relation = name; column = c } in
    let read : IsRead less.defn r = (of_one less name c).0 (Has_to (reads less name) c (among_has (reads less name) c h)) in
    has_among (reads own name) c (Has_from (reads own name) c ((of_one own name c).1 (fewer_read wanted (time_column own.kind) own.defn r read)))

-- the columns have distinct names, the time column is one of them, and what is read of a parent is one of its columns
abbrev mutual
  pub IsFit : Closure → Type 0
  IsFit (Model own parents) =
      (are_distinct (columns_of own) ≡ true) × ((c : Str) → is_time (time_column own.kind) c ≡ true → has_column (columns_of own) c ≡ true) × AreRead own parents

  pub AreRead : Own → Closures → Type 0
  AreRead own Alone = Unit {0}
  AreRead own (With c cs) = ((n : Str) → among (reads own (own_of c).name) n ≡ true → has_column (columns_of (own_of c)) n ≡ true) × IsFit c × AreRead own cs

read_less : (wanted : List Str) (own : Own) (cs : Closures) → AreRead own cs → AreRead (pruned_own wanted own) cs
read_less wanted own Alone p = tt
read_less wanted own (With c cs) p = (λ n m. p.0 n (fewer_reads wanted own (own_of c).name n m), p.1, read_less wanted own cs p.2)

mutual
  pruned_same : (wanted : List Str) (a b : Closure) → IsCompatible a b → IsFit a → IsFit b → ((c : Str) → among wanted c ≡ true → has_column (columns_of (own_of a)) c ≡ true) → pruned wanted a ≡ pruned wanted b
  pruned_same wanted (Model own cs) (Model own' ds) g p q w =
      let e : pruned_own wanted own ≡ pruned_own wanted own' = cut_same wanted own own' g.0 q.0 w p.1 in
      ap (Model (pruned_own wanted own)) (parents_same (pruned_own wanted own) own' cs ds g.1 (read_less wanted own cs p.2) q.2)
      ∙ ap (λ (o : Own). Model o (pruned_for o ds)) e

  parents_same : (own own' : Own) (cs ds : Closures) → AreCompatible cs ds → AreRead own cs → AreRead own' ds → pruned_for own cs ≡ pruned_for own ds
  parents_same own own' Alone Alone g p q = refl
  parents_same own own' Alone (With d ds) g p q = absurd g
  parents_same own own' (With c cs) Alone g p q = absurd g
  parents_same own own' (With c cs) (With d ds) g p q =
      (λ i. With (pruned_same (reads own (own_of c).name) c d g.1 p.1 q.1 p.0 i) (parents_same own own' cs ds g.2 p.2 q.2 i))
      ∙ ap (λ n. With (pruned (reads own n) d) (pruned_for own ds)) g.0

pub fit_twins : (a b : Closure) → IsCompatible a b → own_of a ≡ own_of b → IsFit a → IsFit b → IsTwin a b
fit_twins (Model own cs) (Model own' ds) g e p q =
    ap (Model own) (parents_same own own' cs ds g.1 p.2 q.2) ∙ ap (λ (o : Own). Model o (pruned_for o ds)) e

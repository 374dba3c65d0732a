-- What a model names for some of its columns is what it names for each of them, and for none.
use Rattle.std.proofs.Common.{◌≡◌, Bool, true, false, cond, ◌||◌, ◌⊎◌, inl, inr, ℕ, List, [], ◌∷◌, map, refl, sym, ap, ◌∙◌, subst}
use Rattle.std.specs.List.{Contains, filter, list_any}
use Rattle.std.specs.declared.option.Option.{Option}
use Rattle.mesh_base_values.specs.Kinds.{time_column}
use Rattle.mesh_base_values.specs.Picked.{same_text}
use Rattle.mesh_base_values.specs.declared.values.Column.{Column}
use Rattle.mesh_base.specs.Outputs.{defn_columns, item_column, item_columns, select_columns}
use Rattle.mesh_base.specs.declared.definitions.Defn.{Defn}
use Rattle.mesh_base.specs.declared.definitions.Defn.TheVariants.{Seed, Sql}
use Rattle.mesh_base.specs.declared.definitions.Own.{Own}
use Rattle.mesh_base.specs.declared.definitions.Reading.{Reading}
use Rattle.mesh_base.specs.declared.queries.Item.{Item}
use Rattle.mesh_base.specs.declared.queries.Query.{Query}
use Rattle.mesh_base.specs.declared.queries.Select.{Select}
use Rattle.mesh_law_query.specs.Reads.{IsRead, NamesColumn, readings}
use Rattle.mesh_law_query.proofs.Has.{Has, Has_filter, Has_filter_from, Has_from, Has_map, Has_to}
use Rattle.mesh_law_query.proofs.ReadColumns.{exactly, text_is}
use Rattle.mesh_spec_changes.specs.reuse.Cores.{is_time, is_wanted, pruned_defn, pruned_own, pruned_selects}
use Rattle.mesh_lineage.specs.Alike.{IsAlike}
use Rattle.mesh_lineage.proofs.Alike.{Within, back, there}
use Rattle.mesh_trace.specs.Impacts.{column_names}
use Rattle.mesh_trace.specs.Feeds.{has_cte, needs}

abbrev pub Str : Type 0
Str = List ℕ

-- a name is one of some
abbrev among : List Str → Str → Bool
among names name = list_any (λ n. same_text n name) names

pub any_has : {X : Type 0} (p : X → Bool) (xs : List X) → list_any p xs ≡ true → (x : X) × Has x xs × (p x ≡ true)
any_has p [] h = absurd (cc)
any_has {X} p (x ∷ xs) h = go (p x) refl h (any_has p xs)
  where
    go : (b : Bool) → p x ≡ b → (b || list_any p xs) ≡ true → (list_any p xs ≡ true → (y : X) × Has y xs × (p y ≡ true)) → (y : X) × Has y (x ∷ xs) × (p y ≡ true)
    go true e k more = (x, inl refl, e)
    go false e k more = let (y, i, t) = more k in (y, inr i, t)

pub has_any : {X : Type 0} (p : X → Bool) (xs : List X) (x : X) → Has x xs → p x ≡ true → list_any p xs ≡ true
has_any p [] x h t = absurd h
has_any p (y ∷ ys) x (inl e) t = ap (λ b. b || list_any p ys) (ap p e ∙ t)
has_any p (y ∷ ys) x (inr h) t = go (p y) (has_any p ys x h t)
  where
    go : (b : Bool) → list_any p ys ≡ true → (b || list_any p ys) ≡ true
    go true k = refl
    go false k = k

-- Of each column that a model names for some of its own, either it names it whatever they are, or an item does.
abbrev names_in : List Column → List Str
names_in columns = map (λ (c : Column). c.name) columns

abbrev ByItem : Option Str → Defn → List Str → Reading → Type 0
ByItem time d wanted r = (i : Item) × (is_wanted wanted time i ≡ true) × Has i.name (names_in (defn_columns d)) × ((other : List Str) → is_wanted other time i ≡ true → IsRead (pruned_defn other time d) r)

module _ (time : Option Str) (wanted : List Str) (r : Reading) where
  module _ (q : Query) (s : Select) where
    abbrev fewer : List Str → Select
    fewer other = record s { items = filter (is_wanted other time) s.items }

    abbrev Whole : List Str → Type 0
    Whole other = IsRead (Sql (record q { selects = fewer other ∷ [] })) r

    abbrev Parts : Type 0
    Parts = ((other : List Str) → Whole other) ⊎ ((i : Item) × (is_wanted wanted time i ≡ true) × Has i.name (names_in (item_columns s.items)) × ((other : List Str) → is_wanted other time i ≡ true → Whole other))

    itself : (other : List Str) → Contains (fewer other ∷ []) (fewer other)
    itself other = Has_to (fewer other ∷ []) (fewer other) (inl refl)

    stands : NamesColumn (fewer wanted) r → Parts
    stands (e, inr elsewhere, column) = inl (λ other. (fewer other, inr (itself other), (e, inr elsewhere, column)))
    stands (e, inl (i, c, is), column) =
        let (there, kept) = Has_filter_from (is_wanted wanted time) s.items i (Has_from (filter (is_wanted wanted time) s.items) i c) in
        inr (i, kept, Has_map (λ (c : Column). c.name) (item_columns s.items) (item_column i) i.name (Has_map item_column s.items i (item_column i) there refl) refl, λ other k. (fewer other, inr (itself other), (e, inl (i, Has_to (filter (is_wanted other time) s.items) i (Has_filter (is_wanted other time) s.items i there k), is), column)))

    in_pruned : Whole wanted → Parts
    in_pruned (t, inl cte, named) = inl (λ other. (t, inl cte, named))
    in_pruned (t, inr c, named) = at (Has_from (fewer wanted ∷ []) t c)
      where
        at : Has t (fewer wanted ∷ []) → Parts
        at (inl e) = stands (subst (λ x. NamesColumn x r) (sym e) named)
        at (inr k) = absurd k

    in_select : (b : Bool) → IsRead (Sql (record q { selects = cond b s (fewer wanted) ∷ [] })) r
        → ((other : List Str) → IsRead (Sql (record q { selects = cond b s (fewer other) ∷ [] })) r)
        ⊎ ((i : Item) × (is_wanted wanted time i ≡ true) × Has i.name (names_in (item_columns s.items)) × ((other : List Str) → is_wanted other time i ≡ true → IsRead (Sql (record q { selects = cond b s (fewer other) ∷ [] })) r))
    in_select true h = inl (λ other. h)
    in_select false h = in_pruned h

  in_defn : (d : Defn) → IsRead (pruned_defn wanted time d) r → ((other : List Str) → IsRead (pruned_defn other time d) r) ⊎ ByItem time d wanted r
  in_defn (Seed columns rows) h = absurd h
  in_defn (Sql q) h = go q.selects h
    where
      go : (ss : List Select) → IsRead (Sql (record q { selects = pruned_selects wanted time ss })) r
          → ((other : List Str) → IsRead (Sql (record q { selects = pruned_selects other time ss })) r)
          ⊎ ((i : Item) × (is_wanted wanted time i ≡ true) × Has i.name (names_in (select_columns ss)) × ((other : List Str) → is_wanted other time i ≡ true → IsRead (Sql (record q { selects = pruned_selects other time ss })) r))
      go [] h = inl (λ other. h)
      go (s ∷ []) h = in_select q s s.distinct h
      go (s ∷ t ∷ more) h = inl (λ other. h)

-- a model names for these columns what it names for none, or for one of them
module _ (own : Own) where
  abbrev time : Option Str
  time = time_column own.kind

  abbrev Split : List Str → Reading → Type 0
  Split wanted r = Has r (needs own []) ⊎ ((w : Str) × Has w wanted × Has w (column_names own) × Has r (needs own (w ∷ [])))

  to_has : (wanted : List Str) (r : Reading) → has_cte own.defn ≡ false → IsRead (pruned_defn wanted time own.defn) r → Has r (needs own wanted)
  to_has wanted r e h =
      subst (λ (b : Bool). Has r (readings (cond b own (pruned_own wanted own)))) (sym e) (Has_from (readings (pruned_own wanted own)) r ((exactly (pruned_own wanted own) r).1 h))

  from_has : (wanted : List Str) (r : Reading) → has_cte own.defn ≡ false → Has r (needs own wanted) → IsRead (pruned_defn wanted time own.defn) r
  from_has wanted r e h =
      (exactly (pruned_own wanted own) r).0 (Has_to (readings (pruned_own wanted own)) r (subst (λ (b : Bool). Has r (readings (cond b own (pruned_own wanted own)))) e h))

  pub needs_split : (wanted : List Str) (r : Reading) → Has r (needs own wanted) → Split wanted r
  needs_split wanted r h = go (has_cte own.defn) refl
    where
      by_test : (i : Item) → Has i.name (column_names own) → has_cte own.defn ≡ false → ((other : List Str) → is_wanted other time i ≡ true → IsRead (pruned_defn other time own.defn) r)
          → (b : Bool) → among wanted i.name ≡ b → (b || is_time time i.name) ≡ true → Split wanted r
      by_test i named e more true is k =
          let (w, there, same) = any_has (λ n. same_text n i.name) wanted is in
          inr (w, there, subst (λ n. Has n (column_names own)) (sym (text_is w i.name same)) named, to_has (w ∷ []) r e (more (w ∷ []) (ap (λ b. (b || false) || is_time time i.name) same)))
      by_test i named e more false is k = inl (to_has [] r e (more [] k))

      by_item : has_cte own.defn ≡ false → ((other : List Str) → IsRead (pruned_defn other time own.defn) r) ⊎ ByItem time own.defn wanted r → Split wanted r
      by_item e (inl all) = inl (to_has [] r e (all []))
      by_item e (inr (i, kept, named, more)) = by_test i named e more (among wanted i.name) refl kept

      go : (b : Bool) → has_cte own.defn ≡ b → Split wanted r
      go true e = inl (subst (λ (b : Bool). Has r (readings (cond b own (pruned_own [] own)))) (sym e) (subst (λ (b : Bool). Has r (readings (cond b own (pruned_own wanted own)))) e h))
      go false e = by_item e (in_defn time wanted r own.defn (from_has wanted r e h))

  -- and for more columns no less
  pub needs_within : (some more : List Str) → Within some more → Within (needs own some) (needs own more)
  needs_within some more w r h = go (has_cte own.defn) refl
    where
      wider : (i : Item) → (b : Bool) → among some i.name ≡ b → (b || is_time time i.name) ≡ true → is_wanted more time i ≡ true
      wider i true is k =
          let (n, there, same) = any_has (λ n. same_text n i.name) some is in
          ap (λ b. b || is_time time i.name) (has_any (λ n. same_text n i.name) more n (w n there) same)
      wider i false is k = either (among more i.name) k
        where
          either : (b : Bool) → is_time time i.name ≡ true → (b || is_time time i.name) ≡ true
          either true t = refl
          either false t = t

      by_item : has_cte own.defn ≡ false → ((other : List Str) → IsRead (pruned_defn other time own.defn) r) ⊎ ByItem time own.defn some r → Has r (needs own more)
      by_item e (inl all) = to_has more r e (all more)
      by_item e (inr (i, kept, named, of)) = to_has more r e (of more (wider i (among some i.name) refl kept))

      go : (b : Bool) → has_cte own.defn ≡ b → Has r (needs own more)
      go true e = subst (λ (b : Bool). Has r (readings (cond b own (pruned_own more own)))) (sym e) (subst (λ (b : Bool). Has r (readings (cond b own (pruned_own some own)))) e h)
      go false e = by_item e (in_defn time some r own.defn (from_has some r e h))

-- what stands in a list decides whether a test is true of some of it
pub any_same : {X : Type 0} (p : X → Bool) (xs ys : List X) → Within xs ys → Within ys xs → list_any p xs ≡ list_any p ys
any_same p xs ys f g = go (list_any p xs) (list_any p ys) refl refl
  where
    go : (a b : Bool) → list_any p xs ≡ a → list_any p ys ≡ b → list_any p xs ≡ list_any p ys
    go true b e h = e ∙ sym (let (x, i, t) = any_has p xs e in has_any p ys x (f x i) t)
    go false true e h = absurd (let (y, i, t) = any_has p ys h in let clash : true ≡ false = sym (has_any p xs y (g y i) t) ∙ e in cc)
    go false false e h = e ∙ sym h

-- the same columns, in whatever order and however often
module _ (own : Own) (some more : List Str) (same : (name : Str) → among some name ≡ among more name) where
  wanted_same : is_wanted some (time_column own.kind) ≡ is_wanted more (time_column own.kind)
  wanted_same = λ j i. same i.name j || is_time (time_column own.kind) i.name

  selects_same : (ss : List Select) → pruned_selects some (time_column own.kind) ss ≡ pruned_selects more (time_column own.kind) ss
  selects_same [] = refl
  selects_same (s ∷ []) = λ j. cond s.distinct s (record s { items = filter (wanted_same j) s.items }) ∷ []
  selects_same (s ∷ t ∷ ss) = refl

  defn_same : (d : Defn) → pruned_defn some (time_column own.kind) d ≡ pruned_defn more (time_column own.kind) d
  defn_same (Seed columns rows) = refl
  defn_same (Sql q) = λ j. Sql (record q { selects = selects_same q.selects j })

  needs_are : needs own some ≡ needs own more
  needs_are = λ j. readings (cond (has_cte own.defn) own (record own { defn = defn_same own.defn j }))

pub same_needs : (own : Own) (some more : List Str) → IsAlike some more → needs own some ≡ needs own more
same_needs own some more a = needs_are own some more (λ name. any_same (λ n. same_text n name) some more (there some more a) (back some more a))

-- What feeds some columns of a model is what feeds each of them, and none.
use Rattle.std.proofs.Common.{◌≡◌, ◌⊎◌, inl, inr, List, [], ◌∷◌, ◌++◌, map, refl, subst}
use Rattle.std.specs.List.{filter}
use Rattle.mesh_base_values.specs.declared.values.Name.{Name}
use Rattle.mesh_base.specs.rules.Proper.{defn_names}
use Rattle.mesh_base.specs.declared.definitions.Own.{Own}
use Rattle.mesh_base.specs.declared.definitions.Reading.{Reading}
use Rattle.mesh_spec_model.specs.Closures.{Closure, Closures, Model, Alone, With, own_of}
use Rattle.mesh_law_query.specs.Reads.{is_of}
use Rattle.mesh_law_query.proofs.Has.{Has, Has_cases, Has_filter, Has_filter_from, Has_left, Has_map, Has_map_from, Has_right}
use Rattle.mesh_lineage.proofs.Alike.{Within}
use Rattle.mesh_trace.specs.Feeds.{alone, feeds, feeds_of, needed_of, needs, own_feeds, with_column}
use Rattle.mesh_trace.specs.Impacts.{column_names}
use Rattle.mesh_trace.specs.declared.traces.Trace.{Trace}
use Rattle.mesh_trace.proofs.Needs.{Str, needs_split, needs_within}

pub one_within : {X : Type 0} (x : X) (xs : List X) → Has x xs → Within (x ∷ []) xs
one_within x xs h y (inl e) = subst (λ z. Has z xs) e h
one_within x xs h y (inr k) = absurd k

pub none_within : {X : Type 0} (xs : List X) → Within [] xs
none_within xs y h = absurd h

needed_within : (name : Name) (some more : List Reading) → Within some more → Within (needed_of name some) (needed_of name more)
needed_within name some more w c h =
    let (r, i, e) = Has_map_from (λ (r : Reading). r.column) (filter (is_of name) some) c h in
    let (there, of) = Has_filter_from (is_of name) some r i in
    Has_map (λ (r : Reading). r.column) (filter (is_of name) more) r c (Has_filter (is_of name) more r (w r there) of) e

-- a column that is needed is so for one reading
needed_from : (name : Name) (needed : List Reading) (c : Str) → Has c (needed_of name needed) → (r : Reading) × Has r needed × Has c (needed_of name (r ∷ []))
needed_from name needed c h =
    let (r, i, e) = Has_map_from (λ (r : Reading). r.column) (filter (is_of name) needed) c h in
    let (there, of) = Has_filter_from (is_of name) needed r i in
    (r, there, Has_map (λ (r : Reading). r.column) (filter (is_of name) (r ∷ [])) r c (Has_filter (is_of name) (r ∷ []) r (inl refl) of) e)

own_within : (own : Own) (some more : List Reading) → Within some more → Within (own_feeds own some) (own_feeds own more)
own_within own some more w t h = go (Has_cases t (map alone (defn_names own.defn)) (map with_column some) h)
  where
    go : Has t (map alone (defn_names own.defn)) ⊎ Has t (map with_column some) → Has t (own_feeds own more)
    go (inl k) = Has_left t (map alone (defn_names own.defn)) (map with_column more) k
    go (inr k) = let (r, i, e) = Has_map_from with_column some t k in Has_right t (map alone (defn_names own.defn)) (map with_column more) (Has_map with_column more r t (w r i) e)

-- more columns are fed by no less
own_step : (own : Own) (parents : Closures) (some more : List Str) → Within some more → Within (feeds_of parents (needs own some)) (feeds_of parents (needs own more)) → Within (feeds (Model own parents) some) (feeds (Model own parents) more)
own_step own parents some more w above t h = go (Has_cases t (own_feeds own (needs own some)) (feeds_of parents (needs own some)) h)
  where
    go : Has t (own_feeds own (needs own some)) ⊎ Has t (feeds_of parents (needs own some)) → Has t (feeds (Model own parents) more)
    go (inl k) = Has_left t (own_feeds own (needs own more)) (feeds_of parents (needs own more)) (own_within own (needs own some) (needs own more) (needs_within own some more w) t k)
    go (inr k) = Has_right t (own_feeds own (needs own more)) (feeds_of parents (needs own more)) (above t k)

with_step : (c : Closure) (cs : Closures) (some more : List Reading) → Within (feeds c (needed_of (own_of c).name some)) (feeds c (needed_of (own_of c).name more)) → Within (feeds_of cs some) (feeds_of cs more)
    → Within (feeds_of (With c cs) some) (feeds_of (With c cs) more)
with_step c cs some more first rest t h = go (Has_cases t (feeds c (needed_of (own_of c).name some)) (feeds_of cs some) h)
  where
    go : Has t (feeds c (needed_of (own_of c).name some)) ⊎ Has t (feeds_of cs some) → Has t (feeds_of (With c cs) more)
    go (inl k) = Has_left t (feeds c (needed_of (own_of c).name more)) (feeds_of cs more) (first t k)
    go (inr k) = Has_right t (feeds c (needed_of (own_of c).name more)) (feeds_of cs more) (rest t k)

mutual
  pub feeds_within : (c : Closure) (some more : List Str) → Within some more → Within (feeds c some) (feeds c more)
  feeds_within (Model own parents) some more w = own_step own parents some more w (parents_within parents (needs own some) (needs own more) (needs_within own some more w))

  pub parents_within : (cs : Closures) (some more : List Reading) → Within some more → Within (feeds_of cs some) (feeds_of cs more)
  parents_within Alone some more w = λ t h. h
  parents_within (With c cs) some more w =
      with_step c cs some more
      (feeds_within c (needed_of (own_of c).name some) (needed_of (own_of c).name more) (needed_within (own_of c).name some more w))
      (parents_within cs some more w)

-- what feeds some columns feeds none, or one of them
abbrev pub Split : Closure → List Str → Trace → Type 0
Split c wanted t = Has t (feeds c []) ⊎ ((w : Str) × Has w wanted × Has w (column_names (own_of c)) × Has t (feeds c (w ∷ [])))

abbrev pub SplitOf : Closures → List Reading → Trace → Type 0
SplitOf cs needed t = Has t (feeds_of cs []) ⊎ ((r : Reading) × Has r needed × Has t (feeds_of cs (r ∷ [])))

module _ (own : Own) (parents : Closures) (wanted : List Str) (t : Trace) where
  -- a reading that leads to it
  abbrev Leads : Reading → Type 0
  Leads r = Has t (feeds_of parents (r ∷ [])) ⊎ (with_column r ≡ t)

  itself : (some : List Str) → Has t (own_feeds own (needs own some)) → Has t (feeds (Model own parents) some)
  itself some k = Has_left t (own_feeds own (needs own some)) (feeds_of parents (needs own some)) k

  leads : (some : List Str) (r : Reading) → Has r (needs own some) → Leads r → Has t (feeds (Model own parents) some)
  leads some r i (inl k) = Has_right t (own_feeds own (needs own some)) (feeds_of parents (needs own some)) (parents_within parents (r ∷ []) (needs own some) (one_within r (needs own some) i) t k)
  leads some r i (inr e) = itself some (Has_right t (map alone (defn_names own.defn)) (map with_column (needs own some)) (Has_map with_column (needs own some) r t i e))

  by_need : (r : Reading) → Leads r → Has r (needs own []) ⊎ ((w : Str) × Has w wanted × Has w (column_names own) × Has r (needs own (w ∷ []))) → Split (Model own parents) wanted t
  by_need r k (inl i) = inl (leads [] r i k)
  by_need r k (inr (w, there, named, i)) = inr (w, there, named, leads (w ∷ []) r i k)

  of_own : Has t (map alone (defn_names own.defn)) ⊎ Has t (map with_column (needs own wanted)) → Split (Model own parents) wanted t
  of_own (inl k) = inl (itself [] (Has_left t (map alone (defn_names own.defn)) (map with_column (needs own [])) k))
  of_own (inr k) = let (r, i, e) = Has_map_from with_column (needs own wanted) t k in by_need r (inr e) (needs_split own wanted r i)

  of_parents : SplitOf parents (needs own wanted) t → Split (Model own parents) wanted t
  of_parents (inl k) = inl (Has_right t (own_feeds own (needs own [])) (feeds_of parents (needs own [])) (parents_within parents [] (needs own []) (none_within (needs own [])) t k))
  of_parents (inr (r, i, k)) = by_need r (inl k) (needs_split own wanted r i)

  own_split : Has t (feeds (Model own parents) wanted) → (Has t (feeds_of parents (needs own wanted)) → SplitOf parents (needs own wanted) t) → Split (Model own parents) wanted t
  own_split h above = go (Has_cases t (own_feeds own (needs own wanted)) (feeds_of parents (needs own wanted)) h)
    where
      go : Has t (own_feeds own (needs own wanted)) ⊎ Has t (feeds_of parents (needs own wanted)) → Split (Model own parents) wanted t
      go (inl k) = of_own (Has_cases t (map alone (defn_names own.defn)) (map with_column (needs own wanted)) k)
      go (inr k) = of_parents (above k)

module _ (c : Closure) (cs : Closures) (needed : List Reading) (t : Trace) where
  abbrev name : Name
  name = (own_of c).name

  first : Split c (needed_of name needed) t → SplitOf (With c cs) needed t
  first (inl k) = inl (Has_left t (feeds c []) (feeds_of cs []) k)
  first (inr (w, i, named, k)) =
      let (r, there, one) = needed_from name needed w i in
      inr (r, there, Has_left t (feeds c (needed_of name (r ∷ []))) (feeds_of cs (r ∷ [])) (feeds_within c (w ∷ []) (needed_of name (r ∷ [])) (one_within w (needed_of name (r ∷ [])) one) t k))

  rest : SplitOf cs needed t → SplitOf (With c cs) needed t
  rest (inl k) = inl (Has_right t (feeds c []) (feeds_of cs []) k)
  rest (inr (r, there, k)) = inr (r, there, Has_right t (feeds c (needed_of name (r ∷ []))) (feeds_of cs (r ∷ [])) k)

  with_split : Has t (feeds_of (With c cs) needed) → (Has t (feeds c (needed_of name needed)) → Split c (needed_of name needed) t) → (Has t (feeds_of cs needed) → SplitOf cs needed t) → SplitOf (With c cs) needed t
  with_split h one more = go (Has_cases t (feeds c (needed_of name needed)) (feeds_of cs needed) h)
    where
      go : Has t (feeds c (needed_of name needed)) ⊎ Has t (feeds_of cs needed) → SplitOf (With c cs) needed t
      go (inl k) = first (one k)
      go (inr k) = rest (more k)

mutual
  pub feeds_split : (c : Closure) (wanted : List Str) (t : Trace) → Has t (feeds c wanted) → Split c wanted t
  feeds_split (Model own parents) wanted t h = own_split own parents wanted t h (λ k. parents_split parents (needs own wanted) t k)

  pub parents_split : (cs : Closures) (needed : List Reading) (t : Trace) → Has t (feeds_of cs needed) → SplitOf cs needed t
  parents_split Alone needed t h = absurd h
  parents_split (With c cs) needed t h = with_split c cs needed t h (λ k. feeds_split c (needed_of (own_of c).name needed) t k) (λ k. parents_split cs needed t k)

-- and columns behind others by what feeds the ones and the others
pub feeds_joined : (c : Closure) (some more : List Str) → Within (feeds c (some ++ more)) (feeds c some ++ feeds c more)
feeds_joined c some more t h = go (feeds_split c (some ++ more) t h)
  where
    by : (w : Str) → Has t (feeds c (w ∷ [])) → Has w some ⊎ Has w more → Has t (feeds c some ++ feeds c more)
    by w k (inl i) = Has_left t (feeds c some) (feeds c more) (feeds_within c (w ∷ []) some (one_within w some i) t k)
    by w k (inr i) = Has_right t (feeds c some) (feeds c more) (feeds_within c (w ∷ []) more (one_within w more i) t k)

    go : Split c (some ++ more) t → Has t (feeds c some ++ feeds c more)
    go (inl k) = Has_left t (feeds c some) (feeds c more) (feeds_within c [] some (none_within some) t k)
    go (inr (w, i, named, k)) = by w k (Has_cases w some more i)

pub feeds_both : (c : Closure) (some more : List Str) → Within (feeds c some ++ feeds c more) (feeds c (some ++ more))
feeds_both c some more t h = go (Has_cases t (feeds c some) (feeds c more) h)
  where
    go : Has t (feeds c some) ⊎ Has t (feeds c more) → Has t (feeds c (some ++ more))
    go (inl k) = feeds_within c some (some ++ more) (λ w i. Has_left w some more i) t k
    go (inr k) = feeds_within c more (some ++ more) (λ w i. Has_right w some more i) t k

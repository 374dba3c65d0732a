-- What a fingerprint stands for in a book and a project, and what that tells of a model.
use Rattle.std.proofs.Common.{◌≡◌, ◌⊎◌, ◌+◌, ◌<◌, ℕ, zero, suc, Bool, true, false, cond, ◌||◌, inl, inr, List, [], ◌∷◌, map, length, drop, drop-cons, get_or, add-one, refl, sym, ◌∙◌, ap, arith}
use Rattle.std.specs.List.{Contains, list_any, slice_get}
use Rattle.std.specs.Option.{is_some, option_map}
use Rattle.std.specs.Ordering.{is_eq}
use Rattle.std.specs.declared.option.Option.{Option}
use Rattle.std.specs.declared.option.Option.TheVariants.{None, Some}
use Rattle.mesh_base_values.specs.Names.{text_cmp}
use Rattle.mesh_base.specs.declared.snapshots.Node.{Node}
use Rattle.mesh_base.specs.declared.snapshots.Snapshot.{Snapshot}
use Rattle.mesh_base.specs.rules.Proper.{is_proper}
use Rattle.mesh_house_book.specs.declared.book.Book.{Book}
use Rattle.mesh_house_book.specs.WellFormed.{is_well_formed_book, snapshot_at}
use Rattle.mesh_law_query.proofs.Has.{Has, Has_from}
use Rattle.mesh_spec_changes.specs.due.Versions.{node_ref}
use Rattle.mesh_spec_changes.proofs.listed.Books.{its_ref}
use Rattle.mesh_category.specs.declared.versions.index.Told.{Told}
use Rattle.mesh_category.specs.declared.versions.index.Told.TheVariants.{New, Stored, Shared}
use Rattle.mesh_category.specs.versions.Clashes.{ClashesWithBook, ClashesWithProject, IsAlone, IsOf, SuitsBook}
use Rattle.mesh_category.specs.versions.Index.{again, given_as, has_new, is_new, node_print, snapshot_print, stored_too, told_from, told_of}
use Rattle.mesh_category.proofs.versions.Alone.{alone_one, alone_two, clashes_two, clashes_with, is_known, suits_alone, suits_none}
use Rattle.mesh_category.proofs.versions.Books.{is_there, its_own, snapshots_ascend}
use Rattle.mesh_category.proofs.versions.Prints.{none_has_it, same_print}

-- how often snapshots have a fingerprint of one model, by what it stands for
abbrev counted : Told → Option Bool
counted New = None
counted (Stored at) = Some false
counted Shared = Some true

one_more : (at : ℕ) (t : Told) → counted (stored_too at t) ≡ Some (is_some (counted t))
one_more at New = refl
one_more at (Stored other) = refl
one_more at Shared = refl

told_counts : (ss : List Snapshot) (at : ℕ) (f : List ℕ) → counted (told_from at ss f New) ≡ again (map snapshot_print ss) f
told_counts [] at f = refl
told_counts (s ∷ ss) at f = go (is_eq (text_cmp s.fingerprint f)) refl (told_counts ss (at + 1) f)
  where
    go : (b : Bool) → is_eq (text_cmp s.fingerprint f) ≡ b → counted (told_from (at + 1) ss f New) ≡ again (map snapshot_print ss) f
        → counted (cond b (stored_too at (told_from (at + 1) ss f New)) (told_from (at + 1) ss f New)) ≡ cond b (Some (is_some (again (map snapshot_print ss) s.fingerprint))) (again (map snapshot_print ss) f)
    go true t more = one_more at (told_from (at + 1) ss f New) ∙ ap (λ (o : Option Bool). Some (is_some o)) (more ∙ ap (again (map snapshot_print ss)) (sym (same_print s.fingerprint f t)))
    go false t more = more

-- several models stay several
shared_stays : (ss : List Snapshot) (at : ℕ) (f : List ℕ) → told_from at ss f Shared ≡ Shared
shared_stays [] at f = refl
shared_stays (s ∷ ss) at f = go (is_eq (text_cmp s.fingerprint f)) (shared_stays ss (at + 1) f)
  where
    go : (b : Bool) → told_from (at + 1) ss f Shared ≡ Shared → cond b (stored_too at (told_from (at + 1) ss f Shared)) (told_from (at + 1) ss f Shared) ≡ Shared
    go true more = ap (stored_too at) more
    go false more = more

-- where the one snapshot of a fingerprint stands
pub record StandsAt (ss : List Snapshot) (at : ℕ) (f : List ℕ) (place : ℕ) : Type 0 where
  pub before : ℕ
  pub snapshot : Snapshot
  pub place_is : place ≡ at + before
  pub there : slice_get ss before ≡ Some snapshot
  pub its : snapshot.fingerprint ≡ f

one_stored : (at place : ℕ) (t : Told) → stored_too at t ≡ Stored place → place ≡ at
one_stored at place New e = cc
one_stored at place (Stored other) e = let clash : Shared ≡ Stored place = e in absurd (cc)
one_stored at place Shared e = let clash : Shared ≡ Stored place = e in absurd (cc)

stands_at : (ss : List Snapshot) (at : ℕ) (f : List ℕ) (place : ℕ) → told_from at ss f New ≡ Stored place → StandsAt ss at f place
stands_at [] at f place e = let clash : New ≡ Stored place = e in absurd (cc)
stands_at (s ∷ ss) at f place e = go (is_eq (text_cmp s.fingerprint f)) refl e (stands_at ss (at + 1) f place)
  where
    later : StandsAt ss (at + 1) f place → StandsAt (s ∷ ss) at f place
    later h = record { before = suc h.before; snapshot = h.snapshot; place_is = h.place_is ∙ omega arith; there = h.there; its = h.its }

    go : (b : Bool) → is_eq (text_cmp s.fingerprint f) ≡ b → cond b (stored_too at (told_from (at + 1) ss f New)) (told_from (at + 1) ss f New) ≡ Stored place
        → (told_from (at + 1) ss f New ≡ Stored place → StandsAt ss (at + 1) f place) → StandsAt (s ∷ ss) at f place
    go true t e more = record { before = 0; snapshot = s; place_is = one_stored at place _ e ∙ omega arith; there = refl; its = same_print s.fingerprint f t }
    go false t e more = later (more e)

-- what a fingerprint stands for, by whether several models have it
pub record Given (all : List Snapshot) (nodes : List Node) (f : List ℕ) (t : Told) : Type 0 where
  pub twice : Bool
  pub given : again (map node_print nodes) f ≡ Some twice
  pub told : told_from 0 all f (given_as twice) ≡ t

given_of : (all : List Snapshot) (nodes : List Node) (f : List ℕ) (t : Told) → told_of all nodes f ≡ Some t → Given all nodes f t
given_of all nodes f t e = go (again (map node_print nodes) f) refl e
  where
    go : (o : Option Bool) → again (map node_print nodes) f ≡ o → option_map (λ twice. told_from 0 all f (given_as twice)) o ≡ Some t → Given all nodes f t
    go None is e = let clash : None ≡ Some t = e in absurd (cc)
    go (Some twice) is e = record { twice = twice; given = is; told = cc }

got : {X : Type 0} (xs : List X) (i : ℕ) (x : X) → slice_get xs i ≡ Some x → Has x xs × (i < length xs)
got {X} [] i x e = let clash : None ≡ Some x = e in absurd (cc)
got {X} (y ∷ ys) zero x e = let same : y ≡ x = cc in (inl same, omega arith)
got {X} (y ∷ ys) (suc i) x e = let (h, l) = got ys i x e in (inr h, omega (arith, l))

-- each model's fingerprint stands for something
pub is_told : (all : List Snapshot) (nodes : List Node) (n : Node) → Contains nodes n → is_some (told_of all nodes n.fingerprint) ≡ true
is_told all nodes n there = go (again (map node_print nodes) n.fingerprint) refl
  where
    go : (o : Option Bool) → again (map node_print nodes) n.fingerprint ≡ o → is_some (option_map (λ twice. told_from 0 all n.fingerprint (given_as twice)) o) ≡ true
    go None is = absurd (none_has_it node_print n.fingerprint nodes is n (Has_from nodes n there) refl)
    go (Some twice) is = refl

any_of : {A : Type 0} (p : A → Bool) (xs : List A) (x : A) → Has x xs → p x ≡ true → list_any p xs ≡ true
any_of {A} p [] x h passes = absurd h
any_of {A} p (y ∷ ys) x (inl e) passes = ap (λ (b : Bool). b || list_any p ys) (ap p e ∙ passes)
any_of {A} p (y ∷ ys) x (inr h) passes = go (p y) (any_of p ys x h passes)
  where
    go : (b : Bool) → list_any p ys ≡ true → (b || list_any p ys) ≡ true
    go true more = refl
    go false more = more

-- a new model asks for names
pub asks : (all : List Snapshot) (nodes : List Node) (n : Node) → Contains nodes n → told_of all nodes n.fingerprint ≡ Some New → has_new all nodes ≡ true
asks all nodes n there e = any_of (λ (m : Node). is_new (told_of all nodes m.fingerprint)) nodes n (Has_from nodes n there) (ap is_new e)

-- a model of a project and the snapshots of a book
module _ (b : Book) (well : is_well_formed_book b ≡ true) (nodes : List Node) (n : Node) (there : Contains nodes n) where
  abbrev all : List Snapshot
  all = b.snapshots

  abbrev f : List ℕ
  f = n.fingerprint

  -- where no snapshot has the fingerprint, and no other model
  once : (t : Told) → (Shared ≡ t → ⊥) → Given all nodes f t → (again (map node_print nodes) f ≡ Some false) × (told_from 0 all f New ≡ t)
  once t other g = go g.twice g.given g.told
    where
      go : (twice : Bool) → again (map node_print nodes) f ≡ Some twice → told_from 0 all f (given_as twice) ≡ t → (again (map node_print nodes) f ≡ Some false) × (told_from 0 all f New ≡ t)
      go true given told = absurd (other (sym (shared_stays all 0 f) ∙ told))
      go false given told = (given, told)

  new_once : told_of all nodes f ≡ Some New → (again (map node_print nodes) f ≡ Some false) × (told_from 0 all f New ≡ New)
  new_once e = once New (λ is. let clash : Shared ≡ New = is in absurd (cc)) (given_of all nodes f New e)

  stored_once : (at : ℕ) → told_of all nodes f ≡ Some (Stored at) → (again (map node_print nodes) f ≡ Some false) × (told_from 0 all f New ≡ Stored at)
  stored_once at e = once (Stored at) (λ is. let clash : Shared ≡ Stored at = is in absurd (cc)) (given_of all nodes f (Stored at) e)

  none_stored : told_of all nodes f ≡ Some New → again (map snapshot_print all) f ≡ None
  none_stored e = sym (told_counts all 0 f) ∙ ap counted (new_once e).1

  one_stored_there : (at : ℕ) → told_of all nodes f ≡ Some (Stored at) → again (map snapshot_print all) f ≡ Some false
  one_stored_there at e = sym (told_counts all 0 f) ∙ ap counted (stored_once at e).1

  its_stand : (at : ℕ) → told_of all nodes f ≡ Some (Stored at) → (s : Snapshot) × (slice_get all at ≡ Some s) × (s.fingerprint ≡ f)
  its_stand at e =
      let h = stands_at all 0 f at (stored_once at e).1 in
      let place : at ≡ h.before = h.place_is ∙ omega arith in
      (h.snapshot, ap (slice_get all) place ∙ h.there, h.its)

  pub stored_within : (at : ℕ) → told_of all nodes f ≡ Some (Stored at) → at < length all
  stored_within at e = let (s, is, its) = its_stand at e in (got all at s is).1

  stored_is : (at : ℕ) → told_of all nodes f ≡ Some (Stored at) → (s : Snapshot) → slice_get all at ≡ Some s → Has s all × (s.fingerprint ≡ f)
  stored_is at e s is =
      let (t, was, its) = its_stand at e in
      let same : t ≡ s = cc in
      ((got all at s is).0, sym (ap (λ (x : Snapshot). x.fingerprint) same) ∙ its)

  module _ (proper : is_proper nodes ≡ true) where
    pub new_is_alone : told_of all nodes f ≡ Some New → IsAlone all nodes n
    new_is_alone e = record { book = suits_none b well nodes n (none_stored e); project = alone_one nodes proper n there (new_once e).0 }

    pub stored_is_alone : (at : ℕ) → told_of all nodes f ≡ Some (Stored at) → (s : Snapshot) → slice_get all at ≡ Some s → IsOf nodes n s → IsAlone all nodes n
    stored_is_alone at e s is of =
        let (h, its) = stored_is at e s is in
        record { book = suits_alone b well nodes n (one_stored_there at e) s h its of; project = alone_one nodes proper n there (stored_once at e).0 }

    pub stored_clashes : (at : ℕ) → told_of all nodes f ≡ Some (Stored at) → (s : Snapshot) → slice_get all at ≡ Some s → ¬ IsOf nodes n s → ClashesWithBook all nodes n ⊎ ClashesWithProject nodes n
    stored_clashes at e s is isnt = let (h, its) = stored_is at e s is in inl (clashes_with b well nodes n s h its isnt)

    pub shared_clashes : told_of all nodes f ≡ Some Shared → ClashesWithBook all nodes n ⊎ ClashesWithProject nodes n
    shared_clashes e = let g = given_of all nodes f Shared e in go g.twice g.given g.told
      where
        go : (twice : Bool) → again (map node_print nodes) f ≡ Some twice → told_from 0 all f (given_as twice) ≡ Shared → ClashesWithBook all nodes n ⊎ ClashesWithProject nodes n
        go true given told = inr (alone_two nodes proper n there given)
        go false given told = inl (clashes_two b well nodes n (sym (told_counts all 0 f) ∙ ap counted told))

  -- the snapshot of a stored model that is alone is known
  pub stored_known : SuitsBook all nodes n → (at : ℕ) → told_of all nodes f ≡ Some (Stored at) → (s : Snapshot) → slice_get all at ≡ Some s → snapshot_at all (node_ref n) ≡ Some s
  stored_known suits at e s is =
      let (h, its) = stored_is at e s is in
      is_known b well nodes n s h its (suits s (its_own all (snapshots_ascend b well) s h) its)

  -- and of a new one none is
  pub new_missing : told_of all nodes f ≡ Some New → snapshot_at all (node_ref n) ≡ None
  new_missing e = go (snapshot_at all (node_ref n)) refl
    where
      go : (o : Option Snapshot) → snapshot_at all (node_ref n) ≡ o → o ≡ None
      go None is = refl
      go (Some s) is = absurd (none_has_it snapshot_print f all (none_stored e) s (is_there all (node_ref n) s is) (ap (λ r. r.fingerprint) (its_ref all (node_ref n) s is)))

-- one snapshot more, where no model has its fingerprint, and where one has
pub none_met : (print f : List ℕ) (at : ℕ) (look : List ℕ → Option Told) → look print ≡ None → look f ≡ cond (is_eq (text_cmp print f)) (option_map (stored_too at) (look f)) (look f)
none_met print f at look none = go (is_eq (text_cmp print f)) refl
  where
    go : (b : Bool) → is_eq (text_cmp print f) ≡ b → look f ≡ cond b (option_map (stored_too at) (look f)) (look f)
    go true t = let missing : look f ≡ None = ap look (sym (same_print print f t)) ∙ none in missing ∙ ap (option_map (stored_too at)) (sym missing)
    go false t = refl

pub one_met : (print f : List ℕ) (at : ℕ) (told : Told) (look : List ℕ → Option Told) → look print ≡ Some told → (new : Option Told) → new ≡ cond (is_eq (text_cmp print f)) (Some (stored_too at told)) (look f)
    → new ≡ cond (is_eq (text_cmp print f)) (option_map (stored_too at) (look f)) (look f)
one_met print f at told look some new is = is ∙ go (is_eq (text_cmp print f)) refl
  where
    go : (b : Bool) → is_eq (text_cmp print f) ≡ b → cond b (Some (stored_too at told)) (look f) ≡ cond b (option_map (stored_too at) (look f)) (look f)
    go true t = ap (option_map (stored_too at)) (sym some ∙ ap look (same_print print f t))
    go false t = refl

pub one_more_told : (ss : List Snapshot) (left k : ℕ) (s : Snapshot) → left ≡ k + 1 → k < length ss → s ≡ get_or ss k s → (f print : List ℕ) → print ≡ s.fingerprint → (o : Option Bool) (old new : Option Told)
    → old ≡ option_map (λ twice. told_from left (drop left ss) f (given_as twice)) o
    → new ≡ cond (is_eq (text_cmp print f)) (option_map (stored_too k) old) old
    → new ≡ option_map (λ twice. told_from k (drop k ss) f (given_as twice)) o
one_more_told ss left k s next lt here f print its o old new was is =
    is
    ∙ ap (λ (p : List ℕ). cond (is_eq (text_cmp p f)) (option_map (stored_too k) old) old) its
    ∙ ap (λ (x : Option Told). cond (is_eq (text_cmp s.fingerprint f)) (option_map (stored_too k) x) x) was
    ∙ ap (λ (j : ℕ). cond (is_eq (text_cmp s.fingerprint f)) (option_map (stored_too k) (option_map (λ twice. told_from j (drop left ss) f (given_as twice)) o)) (option_map (λ twice. told_from j (drop left ss) f (given_as twice)) o)) next
    ∙ go (is_eq (text_cmp s.fingerprint f)) o
    ∙ ap (λ (rows : List Snapshot). option_map (λ twice. told_from k rows f (given_as twice)) o) (sym row)
  where
    row : drop k ss ≡ s ∷ drop left ss
    row = drop-cons ss k s lt ∙ (λ i. sym here i ∷ drop (sym (next ∙ add-one k) i) ss)

    go : (b : Bool) (p : Option Bool) → cond b (option_map (stored_too k) (option_map (λ twice. told_from (k + 1) (drop left ss) f (given_as twice)) p)) (option_map (λ twice. told_from (k + 1) (drop left ss) f (given_as twice)) p)
        ≡ option_map (λ twice. cond b (stored_too k (told_from (k + 1) (drop left ss) f (given_as twice))) (told_from (k + 1) (drop left ss) f (given_as twice))) p
    go true None = refl
    go true (Some twice) = refl
    go false None = refl
    go false (Some twice) = refl

-- where some model is new, as it is looked up
pub has_new_is : (ss : List Snapshot) (nodes : List Node) (look : List ℕ → Option Told) → ((f : List ℕ) → look f ≡ told_of ss nodes f) → list_any (λ (n : Node). is_new (look n.fingerprint)) nodes ≡ has_new ss nodes
has_new_is ss nodes look is = ap (λ (p : List ℕ → Option Told). list_any (λ (n : Node). is_new (p n.fingerprint)) nodes) (λ i f. is f i)

-- a model whose fingerprint stands for it alone, and that of no snapshot that is told of
module _ (b : Book) (well : is_well_formed_book b ≡ true) (nodes : List Node) (n : Node) (there : Contains nodes n) (proper : is_proper nodes ≡ true) (alone : IsAlone b.snapshots nodes n) where
  -- its fingerprint isn't shared
  never_shared : told_of b.snapshots nodes n.fingerprint ≡ Some Shared → ⊥
  never_shared e = go (shared_clashes b well nodes n there proper e)
    where
      go : ClashesWithBook b.snapshots nodes n ⊎ ClashesWithProject nodes n → ⊥
      go (inl (s, known, print, isnt)) = isnt (alone.book s known print)
      go (inr (m, has, print, isnt)) = isnt (alone.project m has print)

  pub is_new_then : (t : Told) → (t ≡ New) ⊎ (t ≡ Shared) → told_of b.snapshots nodes n.fingerprint ≡ Some t → told_of b.snapshots nodes n.fingerprint ≡ Some New
  is_new_then t (inl e) told = told ∙ ap Some e
  is_new_then t (inr e) told = absurd (never_shared (told ∙ ap Some e))

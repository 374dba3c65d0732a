-- How the models of projects stand to those of their names.
use Rattle.std.proofs.Common.{◌≡◌, ◌↔◌, IsTrue, ℕ, zero, suc, ◌+◌, ◌<◌, Bool, true, false, not, cond, ◌&&◌, ◌||◌, List, [], ◌∷◌, ◌++◌, map, length, take, drop, get_or, refl, ap, sym, ◌∙◌, subst, inl, inr, arith, append_assoc, length-append, length-take-le, take-append-drop}
use Rattle.std.specs.Prelude.{slice_index_or}
use Rattle.std.specs.List.{AllZip, fold, slice_get}
use Rattle.std.specs.Ordering.{is_eq}
use Rattle.std.specs.Cmp.{Equal-is}
use Rattle.std.specs.declared.option.Option.{Option}
use Rattle.std.specs.declared.option.Option.TheVariants.{None, Some}
use Rattle.std.proofs.lemmas.Bool.{and_parts}
use Rattle.std.proofs.lemmas.List.{drop_more, take_more}
use Rattle.std.proofs.lemmas.List.Sums.{fold-append}
use Rattle.std.proofs.lemmas.Option.{slice_get_within, slice_get_read, slice_get-get_or, get_or_from_slice_get}
use Rattle.mesh_list.specs.Keyed.{ascends, found}
use Rattle.mesh_base_values.specs.declared.values.Name.{Name}
use Rattle.mesh_base_values.specs.Names.{name_cmp}
use Rattle.mesh_base_values.proofs.Equals.{name_is as same_names}
use Rattle.mesh_base.specs.declared.definitions.Own.{Own}
use Rattle.mesh_base.specs.declared.plans.Category.{Category}
use Rattle.mesh_base.specs.declared.plans.Category.TheVariants.{Unchanged, Added, Breaking, NonBreaking, IndirectBreaking, IndirectNonBreaking}
use Rattle.mesh_base.specs.declared.snapshots.Node.{Node}
use Rattle.mesh_base.specs.rules.Proper.{are_fit, has_node, have_distinct_names, is_proper, node_cmp, node_itself}
use Rattle.mesh_spec_model.specs.Closures.{Closure, Closures, Model, Alone, With, closures, own_of, parents_at, with_model, with_parent}
use Rattle.mesh_spec_model.proofs.Listed.{one_each}
use Rattle.mesh_law_query.proofs.Has.{Has}
use Rattle.mesh_law_query.proofs.Projects.{before_it}
use Rattle.mesh_spec_changes.specs.reuse.Categories.{AddsOnly, IsAdded, Stated}
use Rattle.mesh_spec_changes.specs.reuse.Compatible.{AreCompatible, IsCompatible}
use Rattle.mesh_category.specs.category.Alike.{are_alike, have_one_name, is_alike}
use Rattle.mesh_category.specs.category.Gone.{IsPlaceOf}
use Rattle.mesh_category.specs.category.Stated.{AddsAmong, AddsTo, IsCategory, IsCategoryAmong, counterpart, stated, stated_after, stated_name, stated_with}
use Rattle.mesh_category.proofs.category.Places.{equal_itself, get_left, get_last, has_at}

-- closures, one by one
closures_more : (before : List Node) (n : Node) → closures (before ++ n ∷ []) ≡ closures before ++ Model n.own (parents_at (closures before) n.parents) ∷ []
closures_more before n = fold-append with_model [] before (n ∷ [])

made_long : (done : List Closure) (nodes : List Node) → length (fold with_model done nodes) ≡ length done + length nodes
made_long done [] = omega arith
made_long done (n ∷ nodes) = let new : Closure = Model n.own (parents_at done n.parents) in made_long (done ++ new ∷ []) nodes ∙ omega (arith, length-append done (new ∷ []))

closures_long : (nodes : List Node) → length (closures nodes) ≡ length nodes
closures_long nodes = made_long [] nodes ∙ omega arith

-- closures that are made stay where they are
stays : (done : List Closure) (nodes : List Node) (k : ℕ) (c : Closure) → slice_get done k ≡ Some c → slice_get (fold with_model done nodes) k ≡ Some c
stays done [] k c e = e
stays done (n ∷ nodes) k c e = stays (done ++ Model n.own (parents_at done n.parents) ∷ []) nodes k c (get_left done (Model n.own (parents_at done n.parents) ∷ []) k c e)

closure_stays : (before rest : List Node) (k : ℕ) (c : Closure) → slice_get (closures before) k ≡ Some c → slice_get (closures (before ++ rest)) k ≡ Some c
closure_stays before rest k c e = ap (λ (cs : List Closure). slice_get cs k) (fold-append with_model [] before rest) ∙ stays (closures before) rest k c e

-- models, one by one
stated_append : (ns : List Node) (cs : List Closure) (n : Node) (c : Closure) → length ns ≡ length cs
    → stated_with (ns ++ n ∷ []) (cs ++ c ∷ []) ≡ stated_with ns cs ++ record { fingerprint = n.fingerprint; closure = c } ∷ []
stated_append [] [] n c e = refl
stated_append [] (d ∷ cs) n c e = absurd (omega (arith, e))
stated_append (m ∷ ns) [] n c e = absurd (omega (arith, e))
stated_append (m ∷ ns) (d ∷ cs) n c e = ap (λ l. record { fingerprint = m.fingerprint; closure = d } ∷ l) (stated_append ns cs n c (omega (arith, e)))

pub stated_more : (before : List Node) (n : Node) → stated (before ++ n ∷ []) ≡ stated before ++ stated_after before n ∷ []
stated_more before n =
    ap (stated_with (before ++ n ∷ [])) (closures_more before n)
    ∙ stated_append before (closures before) n (Model n.own (parents_at (closures before) n.parents)) (sym (closures_long before))

stated_at : (ns : List Node) (cs : List Closure) (k : ℕ) (n : Node) (c : Closure) → slice_get ns k ≡ Some n → slice_get cs k ≡ Some c
    → slice_get (stated_with ns cs) k ≡ Some (record { fingerprint = n.fingerprint; closure = c })
stated_at [] cs k n c e f = absurd (cc)
stated_at (m ∷ ns) [] k n c e f = absurd (cc)
stated_at (m ∷ ns) (d ∷ cs) zero n c e f = let g : m ≡ n = cc in let h : d ≡ c = cc in (λ i. Some (record { fingerprint = (g i).fingerprint; closure = h i }))
stated_at (m ∷ ns) (d ∷ cs) (suc k) n c e f = stated_at ns cs k n c e f

-- the model of a name
tied : (x : Name) → is_eq (name_cmp x x) ≡ true
tied x = (Equal-is (name_cmp x x)).1 (equal_itself x)

found_at : (ns : List Node) (cs : List Closure) → map own_of cs ≡ map (λ (n : Node). n.own) ns → have_distinct_names ns ≡ true
    → (k : ℕ) (n : Node) (c : Closure) → slice_get ns k ≡ Some n → slice_get cs k ≡ Some c → found name_cmp stated_name n.own.name (stated_with ns cs) ≡ Some (record { fingerprint = n.fingerprint; closure = c })
found_at [] cs owns apart k n c e f = absurd (cc)
found_at (m ∷ ns) [] owns apart k n c e f = absurd (cc)
found_at (m ∷ ns) (d ∷ cs) owns apart zero n c e f =
    let g : m ≡ n = cc in
    let h : d ≡ c = cc in
    let own : own_of d ≡ m.own = cc in
    let equal : is_eq (name_cmp (own_of d).name n.own.name) ≡ true = (λ i. is_eq (name_cmp (own i).name n.own.name)) ∙ (λ i. is_eq (name_cmp (g i).own.name n.own.name)) ∙ tied n.own.name in
    ap (λ b. cond b (Some (record { fingerprint = m.fingerprint; closure = d })) (found name_cmp stated_name n.own.name (stated_with ns cs))) equal
    ∙ (λ i. Some (record { fingerprint = (g i).fingerprint; closure = h i }))
found_at (m ∷ ns) (d ∷ cs) owns apart (suc k) n c e f =
    let own : own_of d ≡ m.own = cc in
    let rest : map own_of cs ≡ map (λ (n : Node). n.own) ns = cc in
    let both = and_parts (not (has_node ns m.own.name)) (have_distinct_names ns) apart in
    ap (λ b. cond b (Some (record { fingerprint = m.fingerprint; closure = d })) (found name_cmp stated_name n.own.name (stated_with ns cs)))
    ((λ i. is_eq (name_cmp (own i).name n.own.name)) ∙ other (is_eq (name_cmp m.own.name n.own.name)) refl both.0)
    ∙ found_at ns cs rest both.1 k n c e f
  where
    other : (b : Bool) → is_eq (name_cmp m.own.name n.own.name) ≡ b → not (has_node ns m.own.name) ≡ true → is_eq (name_cmp m.own.name n.own.name) ≡ false
    other false e g = e
    other true h g =
        let there : has_node ns m.own.name ≡ true = has_at ns k n m.own.name e (sym (same_names m.own.name n.own.name h)) in
        let clash : false ≡ true = ap not (sym there) ∙ g in absurd (cc)

found_none : (ns : List Node) (cs : List Closure) → map own_of cs ≡ map (λ (n : Node). n.own) ns → (name : Name) → has_node ns name ≡ false → found name_cmp stated_name name (stated_with ns cs) ≡ None
found_none [] cs owns name h = refl
found_none (m ∷ ns) [] owns name h = refl
found_none (m ∷ ns) (d ∷ cs) owns name h =
    let own : own_of d ≡ m.own = cc in
    let rest : map own_of cs ≡ map (λ (n : Node). n.own) ns = cc in
    let both = neither (is_eq (name_cmp m.own.name name)) (has_node ns name) h in
    ap (λ b. cond b (Some (record { fingerprint = m.fingerprint; closure = d })) (found name_cmp stated_name name (stated_with ns cs))) ((λ i. is_eq (name_cmp (own i).name name)) ∙ both.0)
    ∙ found_none ns cs rest name both.1
  where
    neither : (a b : Bool) → (a || b) ≡ false → (a ≡ false) × (b ≡ false)
    neither true b e = absurd (cc)
    neither false b e = (refl, e)

-- what holds place by place
zip_push : {A B : Type 0} (R : A → B → Type 0) (xs : List A) (ys : List B) (x : A) (y : B) → AllZip R xs ys → R x y → AllZip R (xs ++ x ∷ []) (ys ++ y ∷ [])
zip_push R [] [] x y h r = (r, tt)
zip_push R [] (z ∷ ys) x y h r = absurd h
zip_push R (z ∷ xs) [] x y h r = absurd h
zip_push R (w ∷ xs) (z ∷ ys) x y h r = (h.0, zip_push R xs ys x y h.1 r)

zip_at : {A B : Type 0} (R : A → B → Type 0) (xs : List A) (ys : List B) (k : ℕ) (x : A) (d : B) → AllZip R xs ys → slice_get xs k ≡ Some x → R x (slice_index_or ys k d)
zip_at R [] ys k x d h e = absurd (cc)
zip_at R (z ∷ xs) [] k x d h e = absurd h
zip_at R (w ∷ xs) (z ∷ ys) zero x d h e = let g : w ≡ x = cc in subst (λ t. R t z) g h.0
zip_at R (w ∷ xs) (z ∷ ys) (suc k) x d h e = zip_at R xs ys k x d h.1 e

pub one_more : {B : Type 0} (R : Stated → B → Type 0) (nodes : List Node) (i : ℕ) (ys : List B) (y : B) → i < length nodes
    → AllZip R (stated (take i nodes)) ys → ((n : Node) → slice_get nodes i ≡ Some n → R (stated_after (take i nodes) n) y) → AllZip R (stated (take (i + 1) nodes)) (ys ++ y ∷ [])
one_more R [] i ys y lt h r = absurd (omega arith)
one_more R (m ∷ nodes) i ys y lt h r =
    let n : Node = get_or (m ∷ nodes) i m in
    subst (λ (ss : List Stated). AllZip R ss (ys ++ y ∷ [])) (sym (ap stated (take_more (m ∷ nodes) i m lt) ∙ stated_more (take i (m ∷ nodes)) n))
    (zip_push R (stated (take i (m ∷ nodes))) ys (stated_after (take i (m ∷ nodes)) n) y h (r n (slice_get-get_or (m ∷ nodes) i m lt)))

-- a list on both sides of a place
split_at : (xs : List Node) (k : ℕ) (x : Node) → slice_get xs k ≡ Some x → take k xs ++ x ∷ drop (k + 1) xs ≡ xs
split_at xs k x e =
    let lt : k < length xs = slice_get_within xs k x e in
    ap (λ (y : Node). take k xs ++ y ∷ drop (k + 1) xs) (sym (get_or_from_slice_get xs k x x e)) ∙ ap (λ (l : List Node). take k xs ++ l) (sym (drop_more xs k x lt)) ∙ take-append-drop k xs

made_at : (ns : List Node) (cs : List Closure) → map own_of cs ≡ map (λ (n : Node). n.own) ns → (k : ℕ) (n : Node) → slice_get ns k ≡ Some n → (c : Closure) × (slice_get cs k ≡ Some c) × (own_of c ≡ n.own)
made_at [] cs owns k n e = absurd (cc)
made_at (m ∷ ns) [] owns k n e = absurd (cc)
made_at (m ∷ ns) (d ∷ cs) owns zero n e =
    let own : own_of d ≡ m.own = cc in
    let same : m ≡ n = cc in
    (d, refl, own ∙ ap (λ (x : Node). x.own) same)
made_at (m ∷ ns) (d ∷ cs) owns (suc k) n e = let rest : map own_of cs ≡ map (λ (n : Node). n.own) ns = cc in made_at ns cs rest k n e

-- the closure of a model stands at its place
own_closure : (nodes : List Node) (k : ℕ) (n : Node) → slice_get nodes k ≡ Some n → slice_get (closures nodes) k ≡ Some (stated_after (take k nodes) n).closure
own_closure nodes k n e =
    let before : List Node = take k nodes in
    let c : Closure = (stated_after before n).closure in
    let lt : k < length nodes = slice_get_within nodes k n e in
    let long : length before ≡ k = length-take-le k nodes (omega (arith, lt)) in
    let last : slice_get (closures (before ++ n ∷ [])) k ≡ Some c = ap (λ (cs : List Closure). slice_get cs k) (closures_more before n) ∙ get_last (closures before) c k (sym (closures_long before ∙ long)) in
    ap (λ (l : List Node). slice_get (closures l) k) (sym (append_assoc before (n ∷ []) (drop (k + 1) nodes) ∙ split_at nodes k n e)) ∙ closure_stays (before ++ n ∷ []) (drop (k + 1) nodes) k c last

distinct : (nodes : List Node) → is_proper nodes ≡ true → have_distinct_names nodes ≡ true
distinct nodes h =
    let a = and_parts _ (ascends node_cmp node_itself nodes && (have_distinct_names nodes && are_fit nodes nodes)) h in
    let b = and_parts (ascends node_cmp node_itself nodes) _ a.1 in
    (and_parts (have_distinct_names nodes) (are_fit nodes nodes) b.1).0

-- the model of a name, and none
pub its_counterpart : (olds : List Node) → is_proper olds ≡ true → (k : ℕ) (old new : Node) (before : List Node) → slice_get olds k ≡ Some old → old.own.name ≡ new.own.name
    → counterpart (stated olds) (stated_after before new) ≡ Some (stated_after (take k olds) old)
its_counterpart olds proper k old new before e same =
    ap (λ name. found name_cmp stated_name name (stated olds)) (sym same) ∙ found_at olds (closures olds) (one_each olds) (distinct olds proper) k old (stated_after (take k olds) old).closure e (own_closure olds k old e)

pub no_counterpart : (olds : List Node) (new : Node) (before : List Node) → has_node olds new.own.name ≡ false → counterpart (stated olds) (stated_after before new) ≡ None
no_counterpart olds new before h = found_none olds (closures olds) (one_each olds) new.own.name h

-- a parent of an old model, and one of a new model
record OldAt (olds : List Node) (done : List Closure) (p : ℕ) : Type 0 where
  pub node : Node
  pub at : slice_get olds p ≡ Some node
  pub closure : Closure
  pub made : slice_get done p ≡ Some closure
  pub own : own_of closure ≡ node.own
  pub named : found name_cmp stated_name node.own.name (stated olds) ≡ Some (record { fingerprint = node.fingerprint; closure = closure })

record NewAt (olds news : List Node) (adds : List Bool) (done : List Closure) (q : ℕ) : Type 0 where
  pub node : Node
  pub at : slice_get news q ≡ Some node
  pub closure : Closure
  pub made : slice_get done q ≡ Some closure
  pub own : own_of closure ≡ node.own
  pub kept : AddsAmong (stated olds) (record { fingerprint = node.fingerprint; closure = closure }) (slice_index_or adds q false)

module _ (olds news : List Node) (adds : List Bool) (was is : List Closure) where
  module _ (p q : ℕ) (o : OldAt olds was p) (n : NewAt olds news adds is q) where
    abbrev new : Stated
    new = record { fingerprint = n.node.fingerprint; closure = n.closure }

    one_name : have_one_name (slice_get olds p) (slice_get news q) ≡ is_eq (name_cmp o.node.own.name n.node.own.name)
    one_name = λ i. have_one_name (o.at i) (n.at i)

    beside_it : o.node.own.name ≡ n.node.own.name → counterpart (stated olds) new ≡ Some (record { fingerprint = o.node.fingerprint; closure = o.closure })
    beside_it same = ap (λ name. found name_cmp stated_name name (stated olds)) (ap (λ (x : Own). x.name) n.own ∙ sym same) ∙ o.named

    to_pair : is_alike olds news adds p q ≡ true → ((own_of o.closure).name ≡ (own_of n.closure).name) × IsCompatible o.closure n.closure
    to_pair h =
        let both = and_parts (have_one_name (slice_get olds p) (slice_get news q)) (slice_index_or adds q false) h in
        let same : o.node.own.name ≡ n.node.own.name = same_names o.node.own.name n.node.own.name (sym one_name ∙ both.0) in (
          ap (λ (x : Own). x.name) o.own ∙ same ∙ sym (ap (λ (x : Own). x.name) n.own),
          subst (λ old. AddsTo old new) (beside_it same) (n.kept.0 both.1),
        )

    from_pair : (own_of o.closure).name ≡ (own_of n.closure).name → IsCompatible o.closure n.closure → is_alike olds news adds p q ≡ true
    from_pair names h =
        let same : o.node.own.name ≡ n.node.own.name = sym (ap (λ (x : Own). x.name) o.own) ∙ names ∙ ap (λ (x : Own). x.name) n.own in
        let kept : slice_index_or adds q false ≡ true = n.kept.1 (subst (λ old. AddsTo old new) (sym (beside_it same)) h) in
        let named : have_one_name (slice_get olds p) (slice_get news q) ≡ true = one_name ∙ ap (λ name. is_eq (name_cmp name n.node.own.name)) same ∙ tied n.node.own.name in
        (λ i. named i && kept i)

  abbrev Says : List ℕ → List ℕ → Type 0
  Says ps qs = IsTrue (are_alike olds news adds ps qs) ↔ AreCompatible (parents_at was ps) (parents_at is qs)

  alike_is : (ps qs : List ℕ) → ((p : ℕ) → Has p ps → OldAt olds was p) → ((q : ℕ) → Has q qs → NewAt olds news adds is q) → Says ps qs
  alike_is [] [] f g = (λ t. tt, λ h. refl)
  alike_is [] (q ∷ qs) f g =
      let n = g q (inl refl) in
      (λ t. absurd (cc), λ h. absurd (subst (λ (x : Option Closure). AreCompatible Alone (with_parent x (parents_at is qs))) n.made h))
  alike_is (p ∷ ps) [] f g =
      let o = f p (inl refl) in
      (λ t. absurd (cc), λ h. absurd (subst (λ (x : Option Closure). AreCompatible (with_parent x (parents_at was ps)) Alone) o.made h))
  alike_is (p ∷ ps) (q ∷ qs) f g =
      let o = f p (inl refl) in
      let n = g q (inl refl) in
      let rest = alike_is ps qs (λ r h. f r (inr h)) (λ r h. g r (inr h)) in
      let sides : AreCompatible (With o.closure (parents_at was ps)) (With n.closure (parents_at is qs)) ≡ AreCompatible (parents_at was (p ∷ ps)) (parents_at is (q ∷ qs)) =
      (λ i. AreCompatible (with_parent (sym o.made i) (parents_at was ps)) (with_parent (sym n.made i) (parents_at is qs))) in (
        λ t. let both = and_parts (is_alike olds news adds p q) (are_alike olds news adds ps qs) t in
            let pair = to_pair p q o n both.0 in
            subst (λ (x : Option Closure). AreCompatible (with_parent x (parents_at was ps)) (parents_at is (q ∷ qs))) (sym o.made)
            (subst (λ (y : Option Closure). AreCompatible (With o.closure (parents_at was ps)) (with_parent y (parents_at is qs))) (sym n.made) (pair.0, pair.1, rest.0 both.1)),
        λ h. let whole = subst (λ (y : Option Closure). AreCompatible (With o.closure (parents_at was ps)) (with_parent y (parents_at is qs))) n.made
            (subst (λ (x : Option Closure). AreCompatible (with_parent x (parents_at was ps)) (parents_at is (q ∷ qs))) o.made h) in
            let pair = from_pair p q o n whole.0 whole.1 in
            let more = rest.1 whole.2 in
            (λ i. pair i && more i),
      )

-- the parents of models of projects
pub parents_say : (olds news : List Node) → is_proper olds ≡ true → is_proper news ≡ true → (j i : ℕ) (old new : Node) → slice_get olds j ≡ Some old → slice_get news i ≡ Some new
    → (adds : List Bool) → AllZip (AddsAmong (stated olds)) (stated (take i news)) adds
    → IsTrue (are_alike olds news adds old.parents new.parents) ↔ AreCompatible (parents_at (closures (take j olds)) old.parents) (parents_at (closures (take i news)) new.parents)
parents_say olds news po pn j i old new eo en adds kept = alike_is olds news adds (closures (take j olds)) (closures (take i news)) old.parents new.parents old_at new_at
  where
    split_old : take j olds ++ old ∷ drop (j + 1) olds ≡ olds
    split_old = split_at olds j old eo

    split_new : take i news ++ new ∷ drop (i + 1) news ≡ news
    split_new = split_at news i new en

    old_at : (p : ℕ) → Has p old.parents → OldAt olds (closures (take j olds)) p
    old_at p h =
        let (x, e, l) = before_it olds po (take j olds) (drop (j + 1) olds) old split_old p h in
        let (c, made, own) = made_at (take j olds) (closures (take j olds)) (one_each (take j olds)) p x e in
        let there : slice_get olds p ≡ Some x = ap (λ (l : List Node). slice_get l p) (sym split_old) ∙ get_left (take j olds) (old ∷ drop (j + 1) olds) p x e in
        let stays : slice_get (closures olds) p ≡ Some c = ap (λ (l : List Node). slice_get (closures l) p) (sym split_old) ∙ closure_stays (take j olds) (old ∷ drop (j + 1) olds) p c made in
        record {
          node = x;
          at = there;
          closure = c;
          made = made;
          own = own;
          named = found_at olds (closures olds) (one_each olds) (distinct olds po) p x c there stays;
        }

    new_at : (q : ℕ) → Has q new.parents → NewAt olds news adds (closures (take i news)) q
    new_at q h =
        let (y, e, l) = before_it news pn (take i news) (drop (i + 1) news) new split_new q h in
        let (d, made, own) = made_at (take i news) (closures (take i news)) (one_each (take i news)) q y e in
        let there : slice_get news q ≡ Some y = ap (λ (l : List Node). slice_get l q) (sym split_new) ∙ get_left (take i news) (new ∷ drop (i + 1) news) q y e in
        record {
          node = y;
          at = there;
          closure = d;
          made = made;
          own = own;
          kept = zip_at (AddsAmong (stated olds)) (stated (take i news)) adds q (record { fingerprint = y.fingerprint; closure = d }) false kept (stated_at (take i news) (closures (take i news)) q y d e made);
        }

-- where a model stands, by what a map tells
pub place_found : (nodes : List Node) (name : Name) (o : Option ℕ) (k : ℕ) → IsPlaceOf nodes name o → o ≡ Some k → IsPlaceOf nodes name (Some k)
place_found nodes name o k h e = subst (IsPlaceOf nodes name) e h

pub place_missed : (nodes : List Node) (name : Name) (o : Option ℕ) → IsPlaceOf nodes name o → o ≡ None → has_node nodes name ≡ false
place_missed nodes name o h e = subst (IsPlaceOf nodes name) e h

pub node_read : (nodes : List Node) (k : ℕ) (x n : Node) → k < length nodes → x ≡ get_or nodes k x → slice_get nodes k ≡ Some n → x ≡ n
node_read nodes k x n lt e f = let g : slice_get nodes k ≡ Some x = slice_get_read nodes (length nodes) k x refl lt e in cc

-- a model without a counterpart
module _ (olds : List Node) (new : Node) (before : List Node) (none : has_node olds new.own.name ≡ false) where
  pub new_adds : AddsAmong (stated olds) (stated_after before new) false
  new_adds = (λ t. absurd (cc), λ a. absurd (subst (λ o. AddsTo o (stated_after before new)) (no_counterpart olds new before none) a))

  pub new_added : IsCategoryAmong (stated olds) (stated_after before new) Added
  new_added = subst (λ o. IsCategory o (stated_after before new) Added) (sym (no_counterpart olds new before none)) (tt, only)
    where
      only : (other : Category) → IsAdded other → other ≡ Added
      only Unchanged a = absurd a
      only Added a = refl
      only Breaking a = absurd a
      only NonBreaking a = absurd a
      only IndirectBreaking a = absurd a
      only IndirectNonBreaking a = absurd a

-- and one with one
module _ (olds news : List Node) (po : is_proper olds ≡ true) (pn : is_proper news ≡ true) (j i : ℕ) (old new : Node) (eo : slice_get olds j ≡ Some old) (en : slice_get news i ≡ Some new)
    (names : old.own.name ≡ new.own.name) (adds : List Bool) (kept : AllZip (AddsAmong (stated olds)) (stated (take i news)) adds) (alike : Bool) (is : alike ≡ are_alike olds news adds old.parents new.parents) where
  abbrev was : Stated
  was = stated_after (take j olds) old

  abbrev now : Stated
  now = stated_after (take i news) new

  abbrev ps : Closures
  ps = parents_at (closures (take j olds)) old.parents

  abbrev qs : Closures
  qs = parents_at (closures (take i news)) new.parents

  says : IsTrue alike ↔ AreCompatible ps qs
  says = subst (λ (b : Bool). IsTrue b ↔ AreCompatible ps qs) (sym is) (parents_say olds news po pn j i old new eo en adds kept)

  pub known_adds : (b : Bool) → ((IsTrue alike ↔ AreCompatible ps qs) → IsTrue b ↔ AddsOnly was now) → AddsAmong (stated olds) now b
  known_adds b h = subst (λ o. (b ≡ true → AddsTo o now) × (AddsTo o now → b ≡ true)) (sym (its_counterpart olds po j old new (take i news) eo names)) (h says)

  pub known_category : (c : Category) → ((IsTrue alike ↔ AreCompatible ps qs) → IsCategory (Some was) now c) → IsCategoryAmong (stated olds) now c
  known_category c h = subst (λ o. IsCategory o now c) (sym (its_counterpart olds po j old new (take i news) eo names)) (h says)

-- What a definition reads is exactly what it names.
use Rattle.std.proofs.Common.{◌≡◌, ℕ, Bool, true, false, cond, ◌||◌, ◌↔◌, ◌⊎◌, inl, inr, List, [], ◌∷◌, ◌++◌, map, refl, ap, sym, ◌∙◌, subst}
use Rattle.std.specs.List.{Contains, filter, flat_map, list_any, slice_get}
use Rattle.std.specs.Option.{option_to_list}
use Rattle.std.specs.Ordering.{is_eq}
use Rattle.std.specs.Cmp.{IsTotalOrder}
use Rattle.std.specs.declared.option.Option.{Option}
use Rattle.std.specs.declared.option.Option.TheVariants.{None, Some}
use Rattle.std.proofs.lemmas.Cmp.{on_total, then_total, tied_itself}
use Rattle.std.proofs.lemmas.Map.Lookups.{exact_bytes, CmpEqualImpliesEq}
use Rattle.mesh_list.specs.Keyed.{ascends, found}
use Rattle.mesh_list.proofs.Ascends.{ascends-placed}
use Rattle.mesh_list.proofs.Found.{found-placed}
use Rattle.mesh_base_values.specs.NameOrder.{names_exact, names_total, texts_total, then_equal}
use Rattle.mesh_base_values.specs.Names.{name_cmp, text_cmp}
use Rattle.mesh_base_values.specs.Picked.{same_text}
use Rattle.mesh_base_values.specs.declared.values.Name.{Name}
use Rattle.mesh_base_values.proofs.Equals.{equal_of}
use Rattle.mesh_base.specs.declared.definitions.Defn.{Defn}
use Rattle.mesh_base.specs.declared.definitions.Defn.TheVariants.{Seed, Sql}
use Rattle.mesh_base.specs.declared.definitions.Own.{Own}
use Rattle.mesh_base.specs.declared.definitions.Reading.{Reading}
use Rattle.mesh_base.specs.declared.expressions.Expr.{Expr}
use Rattle.mesh_base.specs.declared.queries.Item.{Item}
use Rattle.mesh_base.specs.declared.queries.FromItem.{FromItem}
use Rattle.mesh_base.specs.declared.queries.Rel.{Rel}
use Rattle.mesh_base.specs.declared.queries.Rel.TheVariants.{Named, Cte}
use Rattle.mesh_base.specs.declared.queries.Select.{Select}
use Rattle.mesh_base.specs.declared.queries.Query.{Query}
use Rattle.mesh_spec_query.specs.Named.{columns}
use Rattle.mesh_law_query.specs.Reads.{on_of, expressions, rel_reading, item_reading, reading_at, select_readings, selects_readings, query_readings, reading_cmp, reading_itself, in_order, defn_readings, readings, is_of, defn_reads, reads, StandsIn, NamesColumn, IsSelectOf, IsRead}
use Rattle.mesh_law_query.proofs.Has.{Has, Has_from, Has_to, Has_left, Has_right, Has_cases, Has_flat, Has_flat_from, Has_map, Has_map_from, Has_filter, Has_filter_from, Has_some, Has_some_from}
use Rattle.mesh_law_query.proofs.Lists.{Each}

abbrev pub Str : Type 0
Str = List ℕ

-- a name is among some
abbrev pub among : List Str → Str → Bool
among all c = list_any (λ n. same_text n c) all

pub text_is : (a b : Str) → same_text a b ≡ true → a ≡ b
text_is a b e = exact_bytes a b (equal_of (text_cmp a b) e)

pub text_self : (a : Str) → same_text a a ≡ true
text_self a = ap is_eq (tied_itself texts_total a)

-- a reading is among what is read of its relation
abbrev pub Wanted : (Name → List Str) → Reading → Type 0
Wanted all r = among (all r.relation) r.column ≡ true

-- the order of readings
readings_total : IsTotalOrder reading_cmp
readings_total = then_total (on_total (λ (r : Reading). r.relation) names_total) (on_total (λ (r : Reading). r.column) texts_total)

readings_exact : CmpEqualImpliesEq reading_cmp
readings_exact a b h =
    let both = then_equal (name_cmp a.relation b.relation) (text_cmp a.column b.column) h in
    let relations : a.relation ≡ b.relation = names_exact a.relation b.relation both.0 in
    let names : a.column ≡ b.column = exact_bytes a.column b.column both.1 in
    λ i. record { relation = relations i; column = names i }

in_order_ascends : (rs : List Reading) → ascends reading_cmp reading_itself (in_order rs) ≡ true
in_order_ascends [] = refl
in_order_ascends (r ∷ rs) = ascends-placed reading_cmp readings_total reading_itself r (in_order rs) (in_order_ascends rs)

found_in_order : (r : Reading) (rs : List Reading) → found reading_cmp reading_itself r (in_order rs) ≡ found reading_cmp reading_itself r rs
found_in_order r [] = refl
found_in_order r (x ∷ rs) = found-placed reading_cmp readings_exact reading_itself x r (in_order rs) ∙ ap (cond (is_eq (reading_cmp x r)) (Some x)) (found_in_order r rs)

found_there : (r : Reading) (rs : List Reading) → Has r rs → found reading_cmp reading_itself r rs ≡ Some r
found_there r [] h = absurd h
found_there r (x ∷ rs) (inl e) = ap (λ t. cond (is_eq (reading_cmp t r)) (Some t) (found reading_cmp reading_itself r rs)) e ∙ ap (λ b. cond b (Some r) (found reading_cmp reading_itself r rs)) (ap is_eq (tied_itself readings_total r))
found_there r (x ∷ rs) (inr h) = go (is_eq (reading_cmp x r)) refl (found_there r rs h)
  where
    go : (b : Bool) → is_eq (reading_cmp x r) ≡ b → found reading_cmp reading_itself r rs ≡ Some r → cond b (Some x) (found reading_cmp reading_itself r rs) ≡ Some r
    go true e k = ap Some (readings_exact x r (equal_of (reading_cmp x r) e))
    go false e k = k

there_found : (r y : Reading) (rs : List Reading) → found reading_cmp reading_itself r rs ≡ Some y → Has y rs
there_found r y [] e = absurd (cc)
there_found r y (x ∷ rs) e = go (is_eq (reading_cmp x r)) e (there_found r y rs)
  where
    go : (b : Bool) → cond b (Some x) (found reading_cmp reading_itself r rs) ≡ Some y → (found reading_cmp reading_itself r rs ≡ Some y → Has y rs) → Has y (x ∷ rs)
    go true e rest = inl (let same : x ≡ y = cc in same)
    go false e rest = inr (rest e)

kept_in_order : (r : Reading) (rs : List Reading) → Has r rs → Has r (in_order rs)
kept_in_order r rs h = there_found r r (in_order rs) (found_in_order r rs ∙ found_there r rs h)

nothing_new : (r : Reading) (rs : List Reading) → Has r (in_order rs) → Has r rs
nothing_new r rs h = there_found r r rs (sym (found_in_order r rs) ∙ found_there r (in_order rs) h)

-- the expressions of a SELECT
stands : (s : Select) (e : Expr) → StandsIn s e → Has e (expressions s)
stands s e (inl (i, k, x)) = Has_left e (map (λ (i : Item). i.expr) s.items) (on_of s.from ++ (option_to_list s.filter ++ (s.keys ++ option_to_list s.having))) (Has_map (λ (i : Item). i.expr) s.items i e (Has_from s.items i k) x)
stands s e (inr h) = Has_right e (map (λ (i : Item). i.expr) s.items) (on_of s.from ++ (option_to_list s.filter ++ (s.keys ++ option_to_list s.having))) (go h)
  where
    go : ((f : FromItem) × Contains s.from f × (f.on ≡ Some e)) ⊎ ((s.filter ≡ Some e) ⊎ (Contains s.keys e ⊎ (s.having ≡ Some e))) → Has e (on_of s.from ++ (option_to_list s.filter ++ (s.keys ++ option_to_list s.having)))
    go (inl (f, k, x)) = Has_left e (on_of s.from) (option_to_list s.filter ++ (s.keys ++ option_to_list s.having)) (Has_flat (λ (f : FromItem). option_to_list f.on) s.from f e (Has_from s.from f k) (Has_some f.on e x))
    go (inr (inl x)) = Has_right e (on_of s.from) (option_to_list s.filter ++ (s.keys ++ option_to_list s.having)) (Has_left e (option_to_list s.filter) (s.keys ++ option_to_list s.having) (Has_some s.filter e x))
    go (inr (inr (inl k))) = Has_right e (on_of s.from) (option_to_list s.filter ++ (s.keys ++ option_to_list s.having)) (Has_right e (option_to_list s.filter) (s.keys ++ option_to_list s.having) (Has_left e s.keys (option_to_list s.having) (Has_from s.keys e k)))
    go (inr (inr (inr x))) = Has_right e (on_of s.from) (option_to_list s.filter ++ (s.keys ++ option_to_list s.having)) (Has_right e (option_to_list s.filter) (s.keys ++ option_to_list s.having) (Has_right e s.keys (option_to_list s.having) (Has_some s.having e x)))

it_stands : (s : Select) (e : Expr) → Has e (expressions s) → StandsIn s e
it_stands s e h = first (Has_cases e (map (λ (i : Item). i.expr) s.items) (on_of s.from ++ (option_to_list s.filter ++ (s.keys ++ option_to_list s.having))) h)
  where
    fourth : Has e s.keys ⊎ Has e (option_to_list s.having) → StandsIn s e
    fourth (inl k) = inr (inr (inr (inl (Has_to s.keys e k))))
    fourth (inr k) = inr (inr (inr (inr (Has_some_from s.having e k))))

    third : Has e (option_to_list s.filter) ⊎ Has e (s.keys ++ option_to_list s.having) → StandsIn s e
    third (inl k) = inr (inr (inl (Has_some_from s.filter e k)))
    third (inr k) = fourth (Has_cases e s.keys (option_to_list s.having) k)

    second : Has e (on_of s.from) ⊎ Has e (option_to_list s.filter ++ (s.keys ++ option_to_list s.having)) → StandsIn s e
    second (inl k) = let (f, i, x) = Has_flat_from (λ (f : FromItem). option_to_list f.on) s.from e k in inr (inl (f, Has_to s.from f i, Has_some_from f.on e x))
    second (inr k) = third (Has_cases e (option_to_list s.filter) (s.keys ++ option_to_list s.having) k)

    first : Has e (map (λ (i : Item). i.expr) s.items) ⊎ Has e (on_of s.from ++ (option_to_list s.filter ++ (s.keys ++ option_to_list s.having))) → StandsIn s e
    first (inl k) = let (i, l, x) = Has_map_from (λ (i : Item). i.expr) s.items e k in inl (i, Has_to s.items i l, x)
    first (inr k) = second (Has_cases e (on_of s.from) (option_to_list s.filter ++ (s.keys ++ option_to_list s.having)) k)

-- the FROM item at a place reads the relation
abbrev Reads_at : List FromItem → ℕ → Name → Type 0
Reads_at from item name = (f : FromItem) × (slice_get from item ≡ Some f) × (f.rel ≡ Named name)

at_place : (from : List FromItem) (item : ℕ) (r : Reading) → Reads_at from item r.relation → Has r (reading_at from (item, r.column))
at_place from item r (f, g, m) = subst (λ o. Has r (item_reading r.column o)) (sym g) (subst (λ t. Has r (rel_reading r.column t)) (sym m) (inl refl))

of_place : (from : List FromItem) (item : ℕ) (c : Str) (r : Reading) → Has r (reading_at from (item, c)) → (c ≡ r.column) × Reads_at from item r.relation
of_place from item c r h = go (slice_get from item) refl h
  where
    named : (f : FromItem) (t : Rel) → f.rel ≡ t → slice_get from item ≡ Some f → Has r (rel_reading c t) → (c ≡ r.column) × Reads_at from item r.relation
    named f (Named n) m g (inl e) = (ap (λ (x : Reading). x.column) e, (f, g, m ∙ ap (λ (x : Reading). Named x.relation) e))
    named f (Named n) m g (inr k) = absurd k
    named f (Cte at) m g k = absurd k

    go : (o : Option FromItem) → slice_get from item ≡ o → Has r (item_reading c o) → (c ≡ r.column) × Reads_at from item r.relation
    go None g k = absurd k
    go (Some f) g k = named f f.rel refl g k

named_column : (s : Select) (r : Reading) → NamesColumn s r → Has r (select_readings s)
named_column s r (e, st, (item, k, at)) =
    Has_flat (reading_at s.from) (flat_map columns (expressions s)) (item, r.column) r (Has_flat columns (expressions s) e (item, r.column) (stands s e st) (Has_from (columns e) (item, r.column) k)) (at_place s.from item r at)

it_is_named : (s : Select) (r : Reading) → Has r (select_readings s) → NamesColumn s r
it_is_named s r h =
    let ((item, c), i, k) = Has_flat_from (reading_at s.from) (flat_map columns (expressions s)) r h in
    let (e, j, l) = Has_flat_from columns (expressions s) (item, c) i in
    let (same, at) = of_place s.from item c r k in
    (e, it_stands s e j, (item, subst (λ t. Contains (columns e) (item, t)) same (Has_to (columns e) (item, c) l), at))

selected : (q : Query) (s : Select) (r : Reading) → IsSelectOf q s → Has r (select_readings s) → Has r (query_readings q)
selected q s r (inl (c, i, k)) h =
    Has_left r (flat_map selects_readings q.ctes) (selects_readings q.selects) (Has_flat selects_readings q.ctes c r (Has_from q.ctes c i) (Has_flat select_readings c s r (Has_from c s k) h))
selected q s r (inr k) h = Has_right r (flat_map selects_readings q.ctes) (selects_readings q.selects) (Has_flat select_readings q.selects s r (Has_from q.selects s k) h)

it_is_selected : (q : Query) (r : Reading) → Has r (query_readings q) → (s : Select) × IsSelectOf q s × NamesColumn s r
it_is_selected q r h = go (Has_cases r (flat_map selects_readings q.ctes) (selects_readings q.selects) h)
  where
    go : Has r (flat_map selects_readings q.ctes) ⊎ Has r (selects_readings q.selects) → (s : Select) × IsSelectOf q s × NamesColumn s r
    go (inl k) =
        let (c, i, l) = Has_flat_from selects_readings q.ctes r k in
        let (s, j, m) = Has_flat_from select_readings c r l in
        (s, inl (c, Has_to q.ctes c i, Has_to c s j), it_is_named s r m)
    go (inr k) = let (s, j, m) = Has_flat_from select_readings q.selects r k in (s, inr (Has_to q.selects s j), it_is_named s r m)

has_read : (d : Defn) (r : Reading) → Has r (defn_readings d) → IsRead d r
has_read (Seed columns rows) r h = absurd h
has_read (Sql q) r h = it_is_selected q r (nothing_new r (query_readings q) h)

is_read : (d : Defn) (r : Reading) → IsRead d r → Has r (defn_readings d)
is_read (Seed columns rows) r h = absurd h
is_read (Sql q) r (s, i, n) = kept_in_order r (query_readings q) (selected q s r i (named_column s r n))

of_relation : (d : Defn) (name : Name) (c : Str) → Has (record { relation = name; column = c }) (defn_readings d) → Has c (defn_reads d name)
of_relation d name c h =
    let r : Reading = record { relation = name; column = c } in
    Has_map (λ (x : Reading). x.column) (filter (is_of name) (defn_readings d)) r c (Has_filter (is_of name) (defn_readings d) r h (ap is_eq (tied_itself names_total name))) refl

relation_of : (d : Defn) (name : Name) (c : Str) → Has c (defn_reads d name) → Has (record { relation = name; column = c }) (defn_readings d)
relation_of d name c h =
    let (r, i, e) = Has_map_from (λ (x : Reading). x.column) (filter (is_of name) (defn_readings d)) c h in
    let (k, t) = Has_filter_from (is_of name) (defn_readings d) r i in
    let n : r.relation ≡ name = names_exact r.relation name (equal_of (name_cmp r.relation name) t) in
    subst (λ x. Has x (defn_readings d)) (λ i. record { relation = n i; column = e i }) k

pub exactly : (own : Own) (r : Reading) → Contains (readings own) r ↔ IsRead own.defn r
exactly own r = (λ h. has_read own.defn r (Has_from (readings own) r h), λ h. Has_to (readings own) r (is_read own.defn r h))

pub of_one : (own : Own) (name : Name) (c : Str) → Contains (reads own name) c ↔ IsRead own.defn (record { relation = name; column = c })
of_one own name c =
    let r : Reading = record { relation = name; column = c } in
    (λ h. has_read own.defn r (relation_of own.defn name c (Has_from (reads own name) c h)), λ h. Has_to (reads own name) c (of_relation own.defn name c (is_read own.defn r h)))

pub once : (own : Own) → ascends reading_cmp reading_itself (readings own) ≡ true
once own = go own.defn
  where
    go : (d : Defn) → ascends reading_cmp reading_itself (defn_readings d) ≡ true
    go (Seed columns rows) = refl
    go (Sql q) = in_order_ascends (query_readings q)

-- so all that a query names is among what it reads
among_them : (all : List Str) (c : Str) → Has c all → among all c ≡ true
among_them [] c h = absurd h
among_them (n ∷ all) c (inl e) = ap (λ b. b || among all c) (ap (λ t. same_text t c) e ∙ text_self c)
among_them (n ∷ all) c (inr h) = go (same_text n c) (among_them all c h)
  where
    go : (b : Bool) → among all c ≡ true → (b || among all c) ≡ true
    go true e = refl
    go false e = e

each_of : (P : Reading → Type 0) (rs : List Reading) → ((r : Reading) → Has r rs → P r) → Each P rs
each_of P [] h = tt
each_of P (r ∷ rs) h = (h r (inl refl), each_of P rs (λ x k. h x (inr k)))

pub each_wanted : (q : Query) → Each (Wanted (defn_reads (Sql q))) (query_readings q)
each_wanted q =
    each_of (Wanted (defn_reads (Sql q))) (query_readings q)
    (λ r h. among_them (defn_reads (Sql q) r.relation) r.column (of_relation (Sql q) r.relation r.column (kept_in_order r (query_readings q) h)))

-- Records follow a change of the world that they know, and what else is among them stays.
use Rattle.std.proofs.Common.{◌≡◌, inl, inr, ℕ, Bool, true, false, ◌&&◌, ◌||◌, List, [], ◌∷◌, Some, None, refl, sym, ap, subst, ◌∙◌, map}
use Rattle.std.specs.declared.option.Option.{Option}
use Rattle.std.specs.List.{list_all}
use Rattle.std.specs.Prelude.{◌==◌}
use Rattle.std.specs.Ordering.{is_eq}
use Rattle.std.specs.Cmp.{Equal-is}
use Rattle.std.proofs.lemmas.Cmp.{tied_itself}
use Rattle.std.proofs.lemmas.Bool.{and_parts}
use Rattle.mesh_list.specs.Keyed.{ascends}
use Rattle.mesh_base_values.specs.NameOrder.{texts_total}
use Rattle.mesh_base_values.specs.Picked.{same_text}
use Rattle.mesh_house.specs.declared.world.World.{World}
use Rattle.mesh_house.specs.declared.world.Change.{Change}
use Rattle.mesh_house.specs.Step.{step}
use Rattle.mesh_keep_records.specs.Keys.{head_key}
use Rattle.mesh_keep.specs.declared.kept.Kept.{Kept}
use Rattle.mesh_keep.specs.declared.kept.Place.{Place}
use Rattle.mesh_keep.specs.declared.kept.Write.{Write}
use Rattle.mesh_keep.specs.Holds.{IsKey, IsListed, Knows, all_known, is_listed}
use Rattle.mesh_keep.specs.Places.{body_at, kept_place, place_cmp, places_exact, put, write_one, written}
use Rattle.mesh_keep_house.specs.declared.touched.things.Thing.{Thing}
use Rattle.mesh_keep_house.specs.declared.touched.things.Thing.TheVariants as things
use Rattle.mesh_keep_house.specs.touched.Touched.{Follows, body_in, place_of, thing_fits, touched, write_of}
use Rattle.mesh_keep_house.proofs.touched.Elsewhere.{all_placed, all_without}
use Rattle.mesh_keep_house.proofs.touched.Ordered.{step_ordered}
use Rattle.mesh_keep_house.proofs.touched.Places.{at_place, put_ascends, put_elsewhere, put_here, same_place}
use Rattle.mesh_keep_house.proofs.touched.Right.{Fit, Right, fit, one_thing, right_alike}
use Rattle.mesh_keep_house.proofs.touched.Spared.{touches}
use Rattle.mesh_keep_house.proofs.touched.Moved.{spared}

-- what records say of each thing that is none of these
abbrev Beside : List Thing → List Kept → World → Type 0
Beside ts kept v = (u : Thing) → touches ts u ≡ false → Right (at_place kept (place_of u)) v u

-- once a thing is written, they say of it what the world has
one_right : (t : Thing) (ts : List Thing) (kept : List Kept) (v : World) → ascends place_cmp kept_place kept ≡ true → thing_fits v t ≡ true → Beside (t ∷ ts) kept v → Beside ts (write_one kept (write_of v t)) v
one_right t ts kept v up fits before u none = at (same_place (place_of t) (place_of u)) refl
  where
    at : (b : Bool) → same_place (place_of t) (place_of u) ≡ b → Right (at_place (put kept (place_of t).kind (place_of t).name (body_in v t)) (place_of u)) v u
    at true e =
        let place : place_of t ≡ place_of u = places_exact (place_of t) (place_of u) ((Equal-is (place_cmp (place_of t) (place_of u))).0 e) in
        let f : Fit v t = fit v t fits in
        let same : t ≡ u = one_thing t u f.key f.name place in
        let there : Right (at_place (put kept (place_of t).kind (place_of t).name (body_in v t)) (place_of t)) v t = subst (λ b. Right b v t) (sym (put_here kept (place_of t) (body_in v t) up)) f.right in
        subst (λ x. Right (at_place (put kept (place_of t).kind (place_of t).name (body_in v t)) (place_of x)) v x) same there
    at false e =
        let still : at_place (put kept (place_of t).kind (place_of t).name (body_in v t)) (place_of u) ≡ at_place kept (place_of u) = put_elsewhere kept (place_of t) (place_of u) (body_in v t) e in
        subst (λ b. Right b v u) (sym still) (before u (ap (λ b. b || touches ts u) e ∙ none))

all_right : (ts : List Thing) (kept : List Kept) (v : World) → ascends place_cmp kept_place kept ≡ true → list_all (thing_fits v) ts ≡ true → Beside ts kept v → (u : Thing) → Right (at_place (written kept (map (write_of v) ts)) (place_of u)) v u
all_right [] kept v up fits before u = before u refl
all_right (t ∷ ts) kept v up fits before u =
    let p = and_parts (thing_fits v t) (list_all (thing_fits v) ts) fits in
    all_right ts (write_one kept (write_of v t)) v (put_ascends kept (place_of t) (body_in v t) up) p.1 (one_right t ts kept v up p.0 before) u

-- each thing has a name that records of its kind may have
key_of : (t : Thing) → IsKey (place_of t).kind (place_of t).name
key_of things.Head = inl (refl, refl)
key_of (things.Snapshot k) = inr (inl (refl, k, refl))
key_of (things.Version k) = inr (inr (inr (inl refl, k, refl)))
key_of (things.Env k) = inr (inr (inl (refl, k, refl)))
key_of (things.View k) = inr (inr (inr (inr (inl refl), k, refl)))
key_of (things.Object k) = inr (inr (inr (inr (inr (inl refl)), k, refl)))
key_of (things.Source k) = inr (inr (inr (inr (inr (inr refl)), k, refl)))

-- the records of kinds that a world has stand under such names
abbrev Named : List Kept → Type 0
Named kept = (kind : ℕ) (name body : List ℕ) → body_at kept kind name ≡ Some body → IsListed kind → IsKey kind name

named_at : (t : Thing) (kept : List Kept) (v : World) (q : Place) (body : List ℕ) → (at_place kept q ≡ Some body → IsKey q.kind q.name) → at_place (write_one kept (write_of v t)) q ≡ Some body → IsKey q.kind q.name
named_at t kept v q body before there = at (same_place (place_of t) q) refl
  where
    at : (b : Bool) → same_place (place_of t) q ≡ b → IsKey q.kind q.name
    at true e =
        let place : place_of t ≡ q = places_exact (place_of t) q ((Equal-is (place_cmp (place_of t) q)).0 e) in
        subst (λ (p : Place). IsKey p.kind p.name) place (key_of t)
    at false e = before (sym (put_elsewhere kept (place_of t) q (body_in v t) e) ∙ there)

one_named : (t : Thing) (kept : List Kept) (v : World) → Named kept → Named (write_one kept (write_of v t))
one_named t kept v before kind name body there listed = named_at t kept v (record { kind = kind; name = name }) body (λ e. before kind name body e listed) there

all_named : (ts : List Thing) (kept : List Kept) (v : World) → Named kept → Named (written kept (map (write_of v) ts))
all_named [] kept v before = before
all_named (t ∷ ts) kept v before = all_named ts (write_one kept (write_of v t)) v (one_named t kept v before)

-- what records that know a world say of a thing of it
known_right : (kept : List Kept) (w : World) → Knows kept w → (u : Thing) → Right (at_place kept (place_of u)) w u
known_right kept w n things.Head = n.head
known_right kept w n (things.Snapshot k) = n.snapshots k
known_right kept w n (things.Version k) = n.versions k
known_right kept w n (things.Env k) = n.environments k
known_right kept w n (things.View k) = n.views k
known_right kept w n (things.Object k) = n.objects k
known_right kept w n (things.Source k) = n.sources k

followed : (kept : List Kept) (w : World) (c : Change) → ascends place_cmp kept_place kept ≡ true → Knows kept w → list_all (thing_fits (step w c)) (touched w c) ≡ true → Knows (written kept (map (write_of (step w c)) (touched w c))) (step w c)
followed kept w c up n fits =
    let v : World = step w c in
    let right : (u : Thing) → Right (at_place (written kept (map (write_of v) (touched w c))) (place_of u)) v u =
    all_right (touched w c) kept v up fits (λ u none. right_alike (at_place kept (place_of u)) w v u (spared w c u none) (known_right kept w n u)) in
    record {
      ordered = step_ordered w c n.ordered;
      head = right things.Head;
      snapshots = λ k. right (things.Snapshot k);
      versions = λ k. right (things.Version k);
      environments = λ k. right (things.Env k);
      views = λ k. right (things.View k);
      objects = λ k. right (things.Object k);
      sources = λ k. right (things.Source k);
      names = all_named (touched w c) kept v n.names;
    }

-- records that know a world know the next one, once they follow
pub records_follow : (kept : List Kept) (w : World) (c : Change) (v : World) (ws : List Write) → ascends place_cmp kept_place kept ≡ true → Knows kept w → Follows w c v ws → Knows (written kept ws) v
records_follow kept w c v ws up n f =
    let at_v : ws ≡ map (write_of (step w c)) (touched w c) = f.writes ∙ ap (λ (x : World). map (write_of x) (touched w c)) f.stepped in
    let fits : list_all (thing_fits (step w c)) (touched w c) ≡ true = ap (λ (x : World). list_all (thing_fits x) (touched w c)) (sym f.stepped) ∙ f.fits in
    let k : Knows (written kept (map (write_of (step w c)) (touched w c))) (step w c) = followed kept w c up n fits in
    subst (λ (x : World). Knows (written kept ws) x) (sym f.stepped) (subst (λ (xs : List Write). Knows (written kept xs) (step w c)) (sym at_v) k)

-- the record of a thing is of a kind that a world has
abbrev known_at : Place → Bool
known_at p = is_listed p.kind || ((p.kind == 0) && same_text p.name head_key)

thing_known : (t : Thing) → known_at (place_of t) ≡ true
thing_known things.Head = ap is_eq (tied_itself texts_total head_key)
thing_known (things.Snapshot k) = refl
thing_known (things.Version k) = refl
thing_known (things.Env k) = refl
thing_known (things.View k) = refl
thing_known (things.Object k) = refl
thing_known (things.Source k) = refl

one_stays : (t : Thing) (kept : List Kept) (o : Option (List ℕ)) → all_known (put kept (place_of t).kind (place_of t).name o) ≡ all_known kept
one_stays t kept None = all_without place_cmp places_exact kept_place known_at (place_of t) kept (thing_known t)
one_stays t kept (Some b) = all_placed place_cmp places_exact kept_place known_at (record { kind = (place_of t).kind; name = (place_of t).name; body = b }) kept (thing_known t)

all_stay : (ts : List Thing) (kept : List Kept) (v : World) → all_known (written kept (map (write_of v) ts)) ≡ all_known kept
all_stay [] kept v = refl
all_stay (t ∷ ts) kept v = all_stay ts (write_one kept (write_of v t)) v ∙ one_stays t kept (body_in v t)

-- and there is another record among them only where there was one
pub others_stay : (kept : List Kept) (w : World) (c : Change) (v : World) (ws : List Write) → ascends place_cmp kept_place kept ≡ true → Follows w c v ws → all_known (written kept ws) ≡ all_known kept
others_stay kept w c v ws up f = ap (λ (xs : List Write). all_known (written kept xs)) f.writes ∙ all_stay (touched w c) kept v

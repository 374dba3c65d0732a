-- Walks from model to model: what is seen, who reaches itself, and that some do where each leads on.
use Rattle.std.proofs.Common.{◌≡◌, ℕ, zero, suc, ◌+◌, ◌<◌, ◌≤◌, Bool, true, false, ◌||◌, eqb, List, [], ◌∷◌, ◌++◌, length, append_assoc, refl, ap, sym, ◌∙◌, subst, inl, inr, ◌⊎◌, ◌↔◌, IsTrue, arith}
use Rattle.std.specs.Prelude.{slice_index, slice_index_or, slice_set, replicate, All}
use Rattle.std.specs.List.{AllByRecursion, IsDistinct}
use Rattle.std.proofs.lemmas.Bool.{eqb-true, eq-eqb, or_cases, or_left, or_right, or_parts, cases_lt, cases_Bool}
use Rattle.std.proofs.lemmas.Bool.Decides.{nat_tests}
use Rattle.std.proofs.lemmas.Cmp.{nat_eq_equiv}
use Rattle.std.proofs.lemmas.Grind.{common_steps}
use Rattle.std.proofs.lemmas.List.{append-nil, get_or_default, get_or_append_left, get_or-replicate, length-replicate, length-set}
use Rattle.std.proofs.lemmas.List.Elements.{All-from_get_or}
use Rattle.std.proofs.lemmas.List.Folds.{Any-from_list_any, list_any_at}
use Rattle.std.proofs.lemmas.Map.Keys.{IsDistinct-cons, IsDistinct-from_apart, IsDistinct-push}
use Rattle.std.proofs.lemmas.Map.Steps.{length-le_from_distinct_below}
use Rattle.mesh_project.specs.order.Order.{Reaches}
use Rattle.mesh_project.specs.order.Order.Reaches.{at_once, through}
use Rattle.mesh_project.specs.order.Links.{has, leads, AreWithin}
use Rattle.mesh_project.specs.order.Peeled.{AreStuck}
use Rattle.mesh_project.specs.order.Seen.{AreMarks, AreSeen, IsFrom, IsGrown, some_lead_to}
use Rattle.mesh_project.proofs.order.Numbers.{has_append, has_at, place_of}

module _ (r : ℕ → ℕ → Bool) where
  -- one step more at the end
  pub onward : (mid to at : ℕ) → Reaches r mid at → r mid to ≡ true → Reaches r to at
  onward mid to at (at_once a h) e = through a mid h (at_once mid e)
  onward mid to at (through a next h more) e = through a next h (onward mid to next more e)

  -- from a set that nothing leads out of
  pub last_step : (S : ℕ → Type 0) → ((x y : ℕ) → S x → r x y ≡ true → S y) → (to at : ℕ) → S at → Reaches r to at → (s : ℕ) × S s × (r s to ≡ true)
  last_step S closed to at s (at_once a h) = (a, s, h)
  last_step S closed to at s (through a next h more) = last_step S closed to next (closed a next s h) more

nothing_twice : IsDistinct eqb []
nothing_twice = IsDistinct-from_apart eqb [] (λ i j d l m. absurd (omega arith))

-- marks, and what is seen
module _ (marks : List Bool) (seen : List ℕ) (at : ℕ) (was : AreMarks marks seen) (l : at < length marks) where
  pub marks_more : slice_index_or marks at false ≡ false → AreMarks (slice_set marks at true) (seen ++ at ∷ [])
  marks_more new = record {
    same = λ q m. by q (eqb q at) refl (omega (arith, length-set marks at true));
    within = λ q h. elim (or_cases (has seen q) (has (at ∷ []) q) (sym (has_append seen (at ∷ []) q) ∙ h)) [
      | inl e ↦ (let w = was.within q e in omega (arith, length-set marks at true))
      | inr e ↦ (let same = only_one q e in omega (arith, length-set marks at true))
    ];
    distinct = IsDistinct-push nat_eq_equiv seen at was.distinct (sym (was.same at l) ∙ new);
  }
    where
      only_one : (q : ℕ) → has (at ∷ []) q ≡ true → q ≡ at
      only_one q e = elim (or_cases (eqb q at) false e) [ inl t ↦ eqb-true q at t | inr f ↦ absurd cc ]

      by : (q : ℕ) (b : Bool) → b ≡ eqb q at → q < length marks → slice_index_or (slice_set marks at true) q false ≡ has (seen ++ at ∷ []) q
      by q true e m =
          let same : q ≡ at = eqb-true q at (sym e) in
          let set_there : slice_index_or (slice_set marks at true) q false ≡ true = grind (arith, common_steps) in
          set_there ∙ sym (has_append seen (at ∷ []) q ∙ or_right (has seen q) (has (at ∷ []) q) (ap (λ b. b || false) (sym e)))
      by q false e m =
          let kept : slice_index_or (slice_set marks at true) q false ≡ slice_index_or marks q false = grind (arith, common_steps, nat_tests, e) in
          kept ∙ was.same q m ∙ sym (has_append seen (at ∷ []) q ∙ ap (λ b. has seen q || (b || false)) (sym e) ∙ plain (has seen q))
        where
          plain : (b : Bool) → (b || false) ≡ b
          plain true = refl
          plain false = refl

pub marks_none : (count : ℕ) → AreMarks (replicate count false) []
marks_none count = record {
  same = λ q l. get_or-replicate count q false false (omega (arith, length-replicate count false));
  within = λ q h. absurd cc;
  distinct = nothing_twice;
}

pub grown_by : (seen : List ℕ) (at : ℕ) → IsGrown seen (seen ++ at ∷ []) (at ∷ [])
grown_by seen at = record {
  longer = (at ∷ [], refl);
  only = λ q h. or_cases (has seen q) (has (at ∷ []) q) (sym (has_append seen (at ∷ []) q) ∙ h);
  all = λ q h. has_append seen (at ∷ []) q ∙ or_right (has seen q) (has (at ∷ []) q) h;
}

pub grown_already : (seen : List ℕ) (at : ℕ) → has seen at ≡ true → IsGrown seen seen (at ∷ [])
grown_already seen at there = record {
  longer = ([], sym (append-nil seen));
  only = λ q h. inl h;
  all = λ q h. elim (or_cases (eqb q at) false h) [ inl t ↦ ap (has seen) (eqb-true q at t) ∙ there | inr f ↦ absurd cc ];
}

pub grown_none : (seen : List ℕ) → IsGrown seen seen []
grown_none seen = record { longer = ([], sym (append-nil seen)); only = λ q h. inl h; all = λ q h. absurd cc }

has_longer : (before after more : List ℕ) (q : ℕ) → IsGrown before after more → has before q ≡ true → has after q ≡ true
has_longer before after more q g h =
    ap (λ l. has l q) g.longer.1 ∙ has_append before g.longer.0 q ∙ or_left (has before q) (has g.longer.0 q) h

joined : (xs ys zs : List ℕ) → (xs ++ ys) ++ zs ≡ xs ++ (ys ++ zs)
joined xs ys zs = simp append_assoc

pub grown_more : (first mid last xs : List ℕ) (at : ℕ) → IsGrown first mid xs → IsGrown mid last (at ∷ []) → IsGrown first last (xs ++ at ∷ [])
grown_more first mid last xs at f g = record {
  longer = (f.longer.0 ++ g.longer.0, g.longer.1 ∙ ap (λ l. l ++ g.longer.0) f.longer.1 ∙ joined first f.longer.0 g.longer.0);
  only = λ q h. elim (g.only q h) [
    | inl m ↦ elim (f.only q m) [ inl b ↦ inl b | inr x ↦ inr (has_append xs (at ∷ []) q ∙ or_left (has xs q) (has (at ∷ []) q) x) ]
    | inr x ↦ inr (has_append xs (at ∷ []) q ∙ or_right (has xs q) (has (at ∷ []) q) x)
  ];
  all = λ q h. elim (or_cases (has xs q) (has (at ∷ []) q) (sym (has_append xs (at ∷ []) q) ∙ h)) [
    | inl x ↦ has_longer mid last (at ∷ []) q g (f.all q x)
    | inr x ↦ g.all q x
  ];
}

module _ (links : List (List ℕ)) where
  abbrev Goes : ℕ → ℕ → Type 0
  Goes to at = Reaches (leads links) to at

  -- one place more has led on
  pub seen_more : (start : ℕ) (seen after : List ℕ) (next : ℕ) → AreSeen links start seen next → next < length seen
      → IsGrown seen after (slice_index_or links (slice_index seen next) []) → AreSeen links start after (next + 1)
  seen_more start seen after next was l g = record {
    first = has_longer seen after _ start g was.first;
    only = λ q h. elim (g.only q h) [ inl e ↦ was.only q e | inr e ↦ inr (led q e (was.only (slice_index seen next) (has_at seen next l))) ];
    closed = λ k q m n e. on k q m (subst (λ (x : ℕ). leads links x q ≡ true) (same k (omega arith)) e);
  }
    where
      led : (q : ℕ) → leads links (slice_index seen next) q ≡ true → IsFrom links start (slice_index seen next) → Goes q start
      led q e (inl same) = at_once start (subst (λ (x : ℕ). leads links x q ≡ true) same e)
      led q e (inr more) = onward (leads links) (slice_index seen next) q start more e

      same : (k : ℕ) → k < length seen → slice_index after k ≡ slice_index seen k
      same k m = ap (λ xs. slice_index xs k) g.longer.1 ∙ get_or_append_left seen g.longer.0 0 k m

      on : (k q : ℕ) → k < next + 1 → leads links (slice_index seen k) q ≡ true → has after q ≡ true
      on k q m e = elim (cases_lt k next) [
        | inl below ↦ has_longer seen after _ q g (was.closed k q below (omega arith) e)
        | inr over ↦ g.all q (subst (λ (x : ℕ). leads links (slice_index seen x) q ≡ true) (let s : k ≡ next = omega arith in s) e)
      ]

  pub seen_one : (start : ℕ) → AreSeen links start (start ∷ []) 0
  seen_one start = record {
    first = ap (λ b. b || false) (eq-eqb start start refl);
    only = λ q h. elim (or_cases (eqb q start) false h) [ inl t ↦ inl (eqb-true q start t) | inr f ↦ absurd cc ];
    closed = λ k q l m e. absurd (omega arith);
  }

  pub seen_all : (start : ℕ) (seen : List ℕ) (next : ℕ) → length seen ≤ next → AreSeen links start seen next → AreSeen links start seen (length seen)
  seen_all start seen next l s = record { first = s.first; only = s.only; closed = λ k q m n e. s.closed k q (omega arith) m e }

  -- what is seen tells whether the first reaches itself
  module _ (start : ℕ) (seen : List ℕ) (s : AreSeen links start seen (length seen)) where
    closed_in : (x y : ℕ) → has seen x ≡ true → leads links x y ≡ true → has seen y ≡ true
    closed_in x y h e =
        let p = place_of seen x h in
        s.closed p.0 y p.1 p.1 (subst (λ (k : ℕ). leads links k y ≡ true) (sym p.2) e)

    finds : some_lead_to links seen start ≡ true → Goes start start
    finds h =
        let a = Any-from_list_any (λ x. leads links x start) seen h in
        let there : has seen a.1 ≡ true = subst (λ (x : ℕ). has seen x ≡ true) (get_or_default seen a.0 0 a.1 a.2 ∙ a.3) (has_at seen a.0 a.2) in
        back a.1 a.4 (s.only a.1 there)
      where
        back : (x : ℕ) → leads links x start ≡ true → IsFrom links start x → Goes start start
        back x e (inl same) = at_once start (subst (λ (y : ℕ). leads links y start ≡ true) same e)
        back x e (inr more) = onward (leads links) x start start more e

    misses : Goes start start → some_lead_to links seen start ≡ true
    misses g =
        let t = last_step (leads links) (λ x. has seen x ≡ true) closed_in start start s.first g in
        let p = place_of seen t.0 t.1 in
        list_any_at (λ x. leads links x start) seen p.0 0 p.1 (subst (λ (x : ℕ). leads links x start ≡ true) (sym p.2) t.2)

    pub tells : (b : Bool) → b ≡ some_lead_to links seen start → IsTrue b ↔ Goes start start
    tells true e = (λ t. finds (sym e), λ g. refl)
    tells false e = (λ t. absurd (let no : false ≡ true = t in cc), λ g. absurd (let m = misses g in cc))

  -- where each of some places leads to one of them, one of them reaches itself
  module _ (rest : List ℕ) (stuck : AreStuck links rest) (n : ℕ) (within : (at : ℕ) → has rest at ≡ true → at < n) where
    apart_all : (p : ℕ) (ys : List ℕ) → has ys p ≡ false → AllByRecursion (λ y. eqb p y ≡ false) ys
    apart_all p [] h = tt
    apart_all p (y ∷ ys) h = let parts = or_parts (eqb p y) (has ys p) h in (parts.0, apart_all p ys parts.1)

    walk : (fuel x : ℕ) (xs : List ℕ) → has rest x ≡ true → ((y : ℕ) → has xs y ≡ true → Goes x y) → ((y : ℕ) → has xs y ≡ true → has rest y ≡ true) → IsDistinct eqb (x ∷ xs) → n ≤ fuel + length xs
        → (z : ℕ) × (has rest z ≡ true) × Goes z z
    walk zero x xs here back left distinct room =
        absurd (let many = length-le_from_distinct_below (x ∷ xs) n distinct (λ q h. within q (inside q (or_cases (eqb q x) (has xs q) h))) in omega arith)
      where
        inside : (q : ℕ) → (eqb q x ≡ true) ⊎ (has xs q ≡ true) → has rest q ≡ true
        inside q (inl e) = ap (has rest) (eqb-true q x e) ∙ here
        inside q (inr e) = left q e
    walk (suc fuel) x xs here back left distinct room = step (stuck x here) (λ p more. walk fuel p (x ∷ xs) more)
      where
        onto : (p : ℕ) → leads links x p ≡ true → (y : ℕ) → (eqb y x ≡ true) ⊎ (has xs y ≡ true) → Goes p y
        onto p e y (inl same) = at_once y (subst (λ (k : ℕ). leads links k p ≡ true) (sym (eqb-true y x same)) e)
        onto p e y (inr old) = onward (leads links) x p y (back y old) e

        inside : (q : ℕ) → (eqb q x ≡ true) ⊎ (has xs q ≡ true) → has rest q ≡ true
        inside q (inl e) = ap (has rest) (eqb-true q x e) ∙ here
        inside q (inr e) = left q e

        step : ((p : ℕ) × (leads links x p ≡ true) × (has rest p ≡ true))
            → ((p : ℕ) → has rest p ≡ true → ((y : ℕ) → has (x ∷ xs) y ≡ true → Goes p y) → ((y : ℕ) → has (x ∷ xs) y ≡ true → has rest y ≡ true) → IsDistinct eqb (p ∷ x ∷ xs) → n ≤ fuel + length (x ∷ xs) → (z : ℕ) × (has rest z ≡ true) × Goes z z)
            → (z : ℕ) × (has rest z ≡ true) × Goes z z
        step (p, e, more) go = elim (cases_Bool (has (x ∷ xs) p)) [
          | inl seen ↦ (p, more, onto p e p (or_cases (eqb p x) (has xs p) seen))
          | inr new ↦ go p more (λ y h. onto p e y (or_cases (eqb y x) (has xs y) h)) (λ y h. inside y (or_cases (eqb y x) (has xs y) h)) (IsDistinct-cons eqb p (x ∷ xs) (apart_all p (x ∷ xs) new) distinct) (omega arith)
        ]

    pub some_reach : (x : ℕ) → has rest x ≡ true → (z : ℕ) × (has rest z ≡ true) × Goes z z
    some_reach x here = walk n x [] here (λ y h. absurd cc) (λ y h. absurd cc) (IsDistinct-cons eqb x [] tt nothing_twice) (omega arith)

pub seen_few : (marks : List Bool) (seen : List ℕ) → AreMarks marks seen → length seen ≤ length marks
seen_few marks seen m = length-le_from_distinct_below seen (length marks) m.distinct m.within

pub links_inside : (links : List (List ℕ)) (at count : ℕ) (places : List ℕ) → AreWithin links → count ≡ length links → places ≡ slice_index_or links at [] → All (λ q. q < count) places
links_inside links at count places inside many same =
    All-from_get_or (λ q. q < count) places 0
    (λ k l. let i = inside at (slice_index places k) (ap (λ ps. has ps (slice_index places k)) (sym same) ∙ has_at places k l) in omega arith)

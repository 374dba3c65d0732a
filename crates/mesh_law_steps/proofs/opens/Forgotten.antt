-- What a book records of an object once a list of parts is forgotten.
use Rattle.std.proofs.Common.{◌≡◌, ◌↔◌, ◌⊎◌, inl, inr, ℤ, ◌≤ℤ◌, ◌<ℤ◌, Bool, true, false, cond, List, [], ◌∷◌, Some, None, refl, sym, ◌∙◌, ap, arith}
use Rattle.std.specs.Option.{option_map}
use Rattle.std.specs.declared.option.Option.{Option}
use Rattle.std.specs.Int.Signed.{lt_z}
use Rattle.std.specs.Ordering.{is_eq}
use Rattle.std.proofs.lemmas.Int.{ints, by_lt_z}
use Rattle.mesh_base_values.specs.NameOrder.{names_exact}
use Rattle.mesh_base_values.specs.Names.{name_cmp}
use Rattle.mesh_base_values.specs.declared.times.Bounds.{Bounds}
use Rattle.mesh_base_values.specs.declared.values.Name.{Name}
use Rattle.mesh_base_values.proofs.Equals.{name_is as object_is}
use Rattle.mesh_base_values.proofs.Tests.{lt_says}
use Rattle.mesh_time.specs.Ranges.{IsWithin, is_apart}
use Rattle.mesh_time.specs.Ranges as ranges
use Rattle.mesh_time.proofs.Apart.{lt_not}
use Rattle.mesh_time.proofs.Forgotten.{has_forgotten, is_apart-forgotten}
use Rattle.mesh_base.specs.declared.forgets.Forget.{Forget}
use Rattle.mesh_base.specs.declared.forgets.Forget.TheVariants.{Marks, Range}
use Rattle.mesh_house_book.specs.Changes.{at_version, version_object}
use Rattle.mesh_house_book.specs.declared.book.Book.{Book}
use Rattle.mesh_house_book.specs.declared.versions.Version.{Version}
use Rattle.mesh_house_book.proofs.Exchanged.{found_key}
use Rattle.mesh_house_book.specs.moves.Forgets.{forget, forget_units, without_marks, without_range}
use Rattle.mesh_law_query.proofs.Has.{Has}
use Rattle.mesh_house.specs.World.{version_of}
use Rattle.mesh_spec_changes.specs.due.Parts.{is_among}
use Rattle.mesh_spec_promise.proofs.Found.{found-exchanged}
use Rattle.mesh_law_changes.proofs.Recorded.{same_object}
use Rattle.mesh_law_steps.proofs.opens.Parts.{among_has, not_among}

-- a second lies in none of the ranges of the object in the list
abbrev pub IsSpared : Name → List Forget → ℤ → Type 0
IsSpared object list t = (start end : ℤ) → Has (Range object start end) list → IsWithin start end t → ⊥

-- A version that has lost what a list says of its object: the seconds of its ranges, and the marks.
pub record IsLess (object : Name) (list : List Forget) (old new : Version) : Type 0 where
  pub made : new.made ≡ old.made
  pub apart : is_apart new.ranges ≡ true
  pub seconds : (t : ℤ) → ranges.Has new.ranges t ↔ (ranges.Has old.ranges t × IsSpared object list t)
  pub marks : (Has (Marks object) list → ⊥) → new.marks ≡ old.marks
  pub no_marks : Has (Marks object) list → new.marks ≡ None
  pub none : old.marks ≡ None → new.marks ≡ None

-- the version of an object where that of one changes
version_at : (b : Book) (f : Version → Version) → ((v : Version) → (f v).object ≡ v.object) → (one object : Name)
    → version_of (at_version (version_of b one) f b) object ≡ cond (is_eq (name_cmp one object)) (option_map f (version_of b object)) (version_of b object)
version_at b f keeps one object = go (version_of b one) refl
  where
    nothing : version_of b one ≡ None → (c : Bool) → is_eq (name_cmp one object) ≡ c → version_of b object ≡ cond c (option_map f (version_of b object)) (version_of b object)
    nothing e true is = let none : version_of b object ≡ None = ap (version_of b) (sym (object_is one object is)) ∙ e in none ∙ sym (ap (option_map f) none)
    nothing e false is = refl

    changed : (v : Version) → version_of b one ≡ Some v → (c : Bool) → is_eq (name_cmp one object) ≡ c → cond c (Some (f v)) (version_of b object) ≡ cond c (option_map f (version_of b object)) (version_of b object)
    changed v e true is = sym (ap (option_map f) (ap (version_of b) (sym (object_is one object is)) ∙ e))
    changed v e false is = refl

    go : (o : Option Version) → version_of b one ≡ o → version_of (at_version o f b) object ≡ cond (is_eq (name_cmp one object)) (option_map f (version_of b object)) (version_of b object)
    go None e = nothing e (is_eq (name_cmp one object)) refl
    go (Some v) e =
        let named : (f v).object ≡ one = keeps v ∙ found_key name_cmp version_object names_exact one v b.versions e in
        found-exchanged name_cmp names_exact version_object (f v) object v b.versions (ap (version_of b) named ∙ e)
        ∙ ap (λ (n : Name). cond (is_eq (name_cmp n object)) (Some (f v)) (version_of b object)) named
        ∙ changed v e (is_eq (name_cmp one object)) refl

outside : (u : Bounds) (t : ℤ) → (t <ℤ u.start) ⊎ (u.end ≤ℤ t) → IsWithin u.start u.end t → ⊥
outside u t (inl l) h = omega (arith, ints, h.0, l)
outside u t (inr l) h = omega (arith, ints, h.1, l)

decide : (u : Bounds) (t : ℤ) → (IsWithin u.start u.end t → ⊥) → (t <ℤ u.start) ⊎ (u.end ≤ℤ t)
decide u t never = by_lt_z t u.start (λ l. inl l) (λ ge. by_lt_z t u.end (λ l. absurd (never (ge, l))) (λ le. inr le))

module _ (object : Name) where
  -- a version with what is left of it
  abbrev pub Left : List Forget → Book → Version → Type 0
  Left list b v = (new : Version) × (version_of b object ≡ Some new) × IsLess object list v new

  -- a part of another object, or one that has no second, takes nothing
  untouched : (q : Forget) (v : Version) → is_apart v.ranges ≡ true → ((start end t : ℤ) → q ≡ Range object start end → IsWithin start end t → ⊥) → (q ≡ Marks object → ⊥) → IsLess object (q ∷ []) v v
  untouched q v apart no_range no_marks = record {
    made = refl;
    apart = apart;
    seconds = λ t. (λ h. (h, λ start end. free start end t), λ h. h.0);
    marks = λ other. refl;
    no_marks = none;
    none = λ e. e;
  }
    where
      free : (start end t : ℤ) → Has (Range object start end) (q ∷ []) → IsWithin start end t → ⊥
      free start end t (inl e) within = no_range start end t e within
      free start end t (inr h) within = h

      none : Has (Marks object) (q ∷ []) → v.marks ≡ None
      none (inl e) = absurd (no_marks e)
      none (inr h) = absurd h

  module _ (b : Book) (v : Version) (known : version_of b object ≡ Some v) (apart : is_apart v.ranges ≡ true) where
    marks_taken : (one : Name) → one ≡ object → IsLess object (Marks one ∷ []) v (without_marks v)
    marks_taken one same = record {
      made = refl;
      apart = apart;
      seconds = λ t. (λ h. (h, λ start end. free start end t), λ h. h.0);
      marks = λ other. absurd (other (inl (ap Marks same)));
      no_marks = λ h. refl;
      none = λ e. refl;
    }
      where
        free : (start end t : ℤ) → Has (Range object start end) (Marks one ∷ []) → IsWithin start end t → ⊥
        free start end t (inl e) within = absurd (cc)
        free start end t (inr h) within = h

    range_taken : (one : Name) (start end : ℤ) → one ≡ object → start <ℤ end → IsLess object (Range one start end ∷ []) v (without_range start end v)
    range_taken one start end same proper = record {
      made = refl;
      apart = is_apart-forgotten (without_range start end v).ranges u v.ranges refl proper apart;
      seconds = λ t. (
        λ h. let both = (has_forgotten u v.ranges t proper).0 h in (both.0, λ s e. spared t both.1 s e),
        λ h. (has_forgotten u v.ranges t proper).1 (h.0, decide u t (λ within. h.1 start end (inl (λ i. Range (same i) start end)) within)),
      );
      marks = λ other. refl;
      no_marks = none;
      none = λ e. e;
    }
      where
        u : Bounds
        u = record { start = start; end = end }

        spared : (t : ℤ) → (t <ℤ start) ⊎ (end ≤ℤ t) → IsSpared object (Range one start end ∷ []) t
        spared t off s e (inl is) within =
            let starts : start ≡ s = cc in
            let ends : end ≡ e = cc in
            outside u t off (omega (arith, ints, within.0, starts), omega (arith, ints, within.1, ends))
        spared t off s e (inr h) within = h

        none : Has (Marks object) (Range one start end ∷ []) → v.marks ≡ None
        none (inl is) = absurd (cc)
        none (inr h) = absurd h

    range_left : (one : Name) (start end : ℤ) (below : Bool) → lt_z start end ≡ below → (c : Bool) → is_eq (name_cmp one object) ≡ c
        → Left (Range one start end ∷ []) (cond below (at_version (version_of b one) (without_range start end) b) b) v
    range_left one start end false never c is =
        (v, known, untouched (Range one start end) v apart (λ s e t same within. empty s e t same within) (λ same. absurd (cc)))
      where
        empty : (s e t : ℤ) → Range one start end ≡ Range object s e → IsWithin s e t → ⊥
        empty s e t same within =
            let starts : start ≡ s = cc in
            let ends : end ≡ e = cc in
            let low : end ≤ℤ start = lt_not start end never in
            omega (arith, ints, within.0, within.1, starts, ends, low)
    range_left one start end true below true is =
        let same : one ≡ object = object_is one object is in
        let proper : start <ℤ end = lt_says start end below in (
          without_range start end v,
          version_at b (without_range start end) (λ u. refl) one object
              ∙ ap (λ (c : Bool). cond c (option_map (without_range start end) (version_of b object)) (version_of b object)) is
              ∙ ap (option_map (without_range start end)) known,
          range_taken one start end same proper,
        )
    range_left one start end true below false is = (
      v,
      version_at b (without_range start end) (λ u. refl) one object
          ∙ ap (λ (c : Bool). cond c (option_map (without_range start end) (version_of b object)) (version_of b object)) is
          ∙ known,
      untouched (Range one start end) v apart (λ s e t same within. other s e same) (λ same. absurd (cc)),
    )
      where
        other : (s e : ℤ) → Range one start end ≡ Range object s e → ⊥
        other s e same =
            let names : one ≡ object = cc in
            let clash : true ≡ false = sym (same_object object) ∙ ap (λ (n : Name). is_eq (name_cmp n object)) (sym names) ∙ is in
            cc

    marks_left : (one : Name) (c : Bool) → is_eq (name_cmp one object) ≡ c → Left (Marks one ∷ []) (at_version (version_of b one) without_marks b) v
    marks_left one true is = (
      without_marks v,
      version_at b without_marks (λ u. refl) one object
          ∙ ap (λ (c : Bool). cond c (option_map without_marks (version_of b object)) (version_of b object)) is
          ∙ ap (option_map without_marks) known,
      marks_taken one (object_is one object is),
    )
    marks_left one false is = (
      v,
      version_at b without_marks (λ u. refl) one object
          ∙ ap (λ (c : Bool). cond c (option_map without_marks (version_of b object)) (version_of b object)) is
          ∙ known,
      untouched (Marks one) v apart (λ s e t same within. absurd (cc)) other,
    )
      where
        other : Marks one ≡ Marks object → ⊥
        other same =
            let names : one ≡ object = cc in
            let clash : true ≡ false = sym (same_object object) ∙ ap (λ (n : Name). is_eq (name_cmp n object)) (sym names) ∙ is in
            cc

    one_left : (q : Forget) → Left (q ∷ []) (forget b q) v
    one_left (Range one start end) = range_left one start end (lt_z start end) refl (is_eq (name_cmp one object)) refl
    one_left (Marks one) = marks_left one (is_eq (name_cmp one object)) refl

  -- a part is forgotten, and then a list
  then_less : (q : Forget) (qs : List Forget) (old mid new : Version) → IsLess object (q ∷ []) old mid → IsLess object qs mid new → IsLess object (q ∷ qs) old new
  then_less q qs old mid new first rest = record {
    made = rest.made ∙ first.made;
    apart = rest.apart;
    seconds = λ t. (
      λ h. let more = (rest.seconds t).0 h in let one = (first.seconds t).0 more.0 in (one.0, λ s e. both t one.1 more.1 s e),
      λ h. (rest.seconds t).1 ((first.seconds t).1 (h.0, λ s e. here t h.1 s e), λ s e there within. h.1 s e (inr there) within),
    );
    marks = λ other. rest.marks (λ h. other (inr h)) ∙ first.marks (λ h. other (only h));
    no_marks = gone;
    none = λ e. rest.none (first.none e);
  }
    where
      both : (t : ℤ) → IsSpared object (q ∷ []) t → IsSpared object qs t → IsSpared object (q ∷ qs) t
      both t a b s e (inl is) within = a s e (inl is) within
      both t a b s e (inr h) within = b s e h within

      here : (t : ℤ) → IsSpared object (q ∷ qs) t → IsSpared object (q ∷ []) t
      here t a s e (inl is) within = a s e (inl is) within
      here t a s e (inr h) within = h

      only : Has (Marks object) (q ∷ []) → Has (Marks object) (q ∷ qs)
      only (inl e) = inl e
      only (inr h) = absurd h

      later : (c : Bool) → is_among qs (Marks object) ≡ c → mid.marks ≡ None → new.marks ≡ None
      later true e none = rest.no_marks (among_has qs (Marks object) e)
      later false e none = rest.marks (not_among qs (Marks object) e) ∙ none

      gone : Has (Marks object) (q ∷ qs) → new.marks ≡ None
      gone (inl e) = later (is_among qs (Marks object)) refl (first.no_marks (inl e))
      gone (inr h) = rest.no_marks h

  nothing_less : (v : Version) → is_apart v.ranges ≡ true → IsLess object [] v v
  nothing_less v apart = record {
    made = refl;
    apart = apart;
    seconds = λ t. (λ h. (h, λ start end there within. there), λ h. h.0);
    marks = λ other. refl;
    no_marks = λ h. absurd h;
    none = λ e. e;
  }

  pub list_left : (list : List Forget) (b : Book) (v : Version) → version_of b object ≡ Some v → is_apart v.ranges ≡ true → Left list (forget_units b list) v
  list_left [] b v known apart = (v, known, nothing_less v apart)
  list_left (q ∷ qs) b v known apart =
      let (mid, there, less) = one_left b v known apart q in
      let (new, at, more) = list_left qs (forget b q) mid there less.apart in
      (new, at, then_less q qs v mid new less more)

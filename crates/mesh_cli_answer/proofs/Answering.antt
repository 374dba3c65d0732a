-- What a command answers, over what it read.
use Rattle.std.proofs.Common.{◌≡◌, ℕ, ◌≤◌, inl, inr, Bool, true, false, List, [], Ok, Err, Some, Result, IsErrOf, refl, sym, ◌∙◌, ap, subst, arith}
use Rattle.std.specs.Prelude.{IfSome}
use Rattle.std.specs.declared.option.Option.{Option}
use Rattle.std.proofs.lemmas.List.{append-nil}
use Rattle.mesh_list.specs.Counts.{Rose}
use Rattle.mesh_house_book.specs.declared.book.Book.{Book}
use Rattle.mesh_spec_changes.specs.Commands.{is_present}
use Rattle.mesh_house.specs.declared.world.World.{World}
use Rattle.mesh_house.specs.declared.world.Change.{Change}
use Rattle.mesh_house.specs.declared.house.WhFail.{WhFail}
use Rattle.mesh_house.specs.declared.house.WhFail.TheVariants as fails
use Rattle.mesh_house.specs.House.{Told, Reads}
use Rattle.mesh_house.specs.Runs.{IsPrefixRun, IsRun}
use Rattle.mesh_house.specs.World.{book}
use Rattle.mesh_layer.specs.Shows.{Tells}
use Rattle.mesh_cli_print.specs.declared.printed.refusals.Refusal.{Refusal}
use Rattle.mesh_cli_print.specs.declared.printed.refusals.Refusal.TheVariants.{Warehouse, Memory, Input}
use Rattle.mesh_cli_answer.specs.Answers.{Answers, IsAlone, IsMade, as_refusal, is_fault}
use Rattle.mesh_cli_answer.specs.Present.{IsNotPresent, ReadsPresent}

-- what is no fault is not the warehouse's failure
pub no_warehouse : (r : Refusal) → is_fault r ≡ false → r ≡ Warehouse → ⊥
no_warehouse r fine e = absurd (let clash : true ≡ false = sym (ap is_fault e) ∙ fine in cc)

other_memory : Memory ≡ Warehouse → ⊥
other_memory e = absurd (let clash : Memory ≡ Warehouse = e in cc)

-- one error is another, so their refusals are the same
pub same_refusal : {T : Type 0} (r s : Refusal) → IsErrOf {T = T} {E = Refusal} (Err r) s → r ≡ s
same_refusal r s e = cc

-- neither the warehouse nor the outside is told to have failed
abbrev pub is_beyond : Refusal → Bool
is_beyond Warehouse = true
is_beyond Input = true
is_beyond other = false

pub not_warehouse : (r : Refusal) → is_beyond r ≡ false → r ≡ Warehouse → ⊥
not_warehouse r fine e = absurd (let clash : true ≡ false = sym (ap is_beyond e) ∙ fine in cc)

pub not_outside : (r : Refusal) → is_beyond r ≡ false → r ≡ Input → ⊥
not_outside r fine e = absurd (let clash : true ≡ false = sym (ap is_beyond e) ∙ fine in cc)

pub present_beyond : (b : Book) (r : Refusal) → IsNotPresent b r → is_beyond r ≡ false
present_beyond b r (inl broken) = ap is_beyond broken.told
present_beyond b r (inr old) = ap is_beyond old.told

-- the book of a house is that of the world that it tells
module _ (a m : Told) (b : Book) (reads : Reads book a m (Ok b)) where
  read_of : (w : World) → a.world ≡ Some w → b ≡ w.book
  read_of w is = subst (λ (o : Option World). IfSome o (λ v. b ≡ v.book)) is reads.ok

  -- the book is as it has to be
  pub read_present : is_present b ≡ true → ReadsPresent a m (Ok b)
  read_present present = record {
    alone = record { world = reads.world; calls = reads.calls };
    faults = reads.faults;
    failed = λ is. absurd (cc);
    inside = λ is. absurd (cc);
    present = present;
    book = λ w is. read_of w is;
    refused = tt;
  }

  -- the book isn't as it has to be
  pub read_refused : (r : Refusal) → IsNotPresent b r → is_fault r ≡ false → ReadsPresent a m (Err r)
  read_refused r stands fine = record {
    alone = record { world = reads.world; calls = reads.calls };
    faults = reads.faults;
    failed = λ is. absurd (no_warehouse r fine (same_refusal {T = Book} r Warehouse is));
    inside = λ is. absurd (not_outside r (present_beyond b r stands) (same_refusal {T = Book} r Input is));
    present = tt;
    book = tt;
    refused = λ no_fault w is. subst (λ (k : Book). IsNotPresent k r) (read_of w is) stands;
  }

-- the book wasn't read
pub unread : (a m : Told) (e : WhFail) → Reads {T = Book} book a m (Err e) → ReadsPresent a m (Err (as_refusal e))
unread a m fails.Failed reads = record {
  alone = record { world = reads.world; calls = reads.calls };
  faults = reads.faults;
  failed = λ is. reads.failed refl;
  inside = λ is. absurd (let clash : Warehouse ≡ Input = same_refusal {T = Book} Warehouse Input is in cc);
  present = tt;
  book = tt;
  refused = λ fine w is. absurd (let clash : true ≡ false = fine in cc);
}
unread a m fails.Memory reads = record {
  alone = record { world = reads.world; calls = reads.calls };
  faults = reads.faults;
  failed = λ is. absurd (other_memory (same_refusal {T = Book} Memory Warehouse is));
  inside = λ is. absurd (let clash : Memory ≡ Input = same_refusal {T = Book} Memory Input is in cc);
  present = tt;
  book = tt;
  refused = λ fine w is. absurd (let clash : true ≡ false = fine in cc);
}

-- nothing was changed, and nothing before
pub alone_then : (a m c : Told) → IsAlone a m → IsAlone m c → IsAlone a c
alone_then a m c p q = record { world = q.world ∙ p.world; calls = q.calls ∙ p.calls }

-- nothing was done
pub alone_itself : (a : Told) → IsAlone a a
alone_itself a = record { world = refl; calls = refl }

-- all of a list is a prefix of it
pub whole_prefix : (list : List Change) (w : World) (before : ℕ) (c : Told) → IsRun list w before c → IsPrefixRun list w before c
whole_prefix list w before c by = record {
  made = list;
  rest = [];
  parts = sym (append-nil list);
  world = by.world;
  sure = list;
  tail = [];
  cut = sym (append-nil list);
  more = 0;
  one = omega arith;
  next = omega arith;
  calls = omega (arith, by.calls);
}

module _ {T : Type 0} (makes : World → List Change → Type 0) (gives : World → Result T Refusal → Type 0) where
  -- it is refused, and nothing was changed
  pub refused_alone : {outside : Type 0} → (a c : Told) (r : Refusal) → IsAlone a c → a.faults ≤ c.faults → (r ≡ Warehouse → Rose a.faults c.faults) → (r ≡ Input → outside)
      → ((w : World) → Tells a w → is_fault r ≡ false → gives w (Err r)) → Answers outside makes gives a c (Err r)
  refused_alone a c r alone faults failed beyond stands = record {
    faults = faults;
    failed = λ is. failed (same_refusal {T = T} r Warehouse is);
    beyond = λ is. beyond (same_refusal {T = T} r Input is);
    early = λ early. alone;
    made = λ w told. inl alone;
    given = λ w told fine. stands w told fine;
  }

  -- it is refused before anything was done
  pub refused_first : {outside : Type 0} → (a : Told) (r : Refusal) → is_beyond r ≡ false → ((w : World) → Tells a w → is_fault r ≡ false → gives w (Err r)) → Answers outside makes gives a a (Err r)
  refused_first a r other stands = refused_alone a a r (alone_itself a) (omega arith) (λ e. absurd (not_warehouse r other e)) (λ e. absurd (not_outside r other e)) stands

  -- memory was wanting before anything was done
  pub wanting_first : {outside : Type 0} → (a : Told) → Answers outside makes gives a a (Err Memory)
  wanting_first a = refused_first a Memory refl (λ w told fine. absurd (let clash : true ≡ false = fine in cc))

  -- the book wasn't read, or isn't as it has to be
  pub not_present : {outside : Type 0} → (a c : Told) (r : Refusal) → ReadsPresent a c (Err r) → ((w : World) → Tells a w → IsNotPresent w.book r → gives w (Err r)) → Answers outside makes gives a c (Err r)
  not_present a c r reads stands = refused_alone a c r reads.alone reads.faults (λ e. reads.failed (ap (λ (x : Refusal). Err x) e)) (λ e. absurd (reads.inside (ap (λ (x : Refusal). Err x) e))) (λ w told fine. stands w told (reads.refused fine w told.world))

  -- what is answered without a change: no change is to be made
  pub told_alone : {outside : Type 0} → (a c : Told) (x : T) → IsAlone a c → a.faults ≤ c.faults → ((w : World) → Tells a w → makes w []) → ((w : World) → Tells a w → gives w (Ok x)) → Answers outside makes gives a c (Ok x)
  told_alone a c x alone faults none stands = record {
    faults = faults;
    failed = λ is. absurd (cc);
    beyond = λ is. absurd (cc);
    early = tt;
    made = λ w told. ([], none w told, record { world = alone.world ∙ told.world; calls = omega (arith, alone.calls) });
    given = λ w told. stands w told;
  }

  -- memory was wanting after all was done
  pub wanting_then : {U outside : Type 0} (before : World → Result U Refusal → Type 0) (a c : Told) (x : U) → Answers outside makes before a c (Ok x) → Answers outside makes gives a c (Err Memory)
  wanting_then {U = U} before a c x by = record {
    faults = by.faults;
    failed = λ is. absurd (other_memory (same_refusal {T = T} Memory Warehouse is));
    beyond = λ is. absurd (let clash : Memory ≡ Input = same_refusal {T = T} Memory Input is in cc);
    early = λ early. absurd (let clash : false ≡ true = early in cc);
    made = λ w told. let all = by.made w told in inr (all.0, all.1, whole_prefix all.0 w a.calls c all.2);
    given = λ w told fine. absurd (let clash : true ≡ false = fine in cc);
  }

  -- the answer of a call is passed on in other words
  pub told_then : {U outside : Type 0} (before : World → Result U Refusal → Type 0) (a c : Told) (x : U) (y : T) → Answers outside makes before a c (Ok x) → ((w : World) → Tells a w → before w (Ok x) → gives w (Ok y)) → Answers outside makes gives a c (Ok y)
  told_then before a c x y by so = record {
    faults = by.faults;
    failed = λ is. absurd (cc);
    beyond = λ is. absurd (cc);
    early = tt;
    made = λ w told. by.made w told;
    given = λ w told. so w told (by.given w told);
  }

  -- the same refusal, of a call that answers something else
  pub refused_then : {U outside : Type 0} (before : World → Result U Refusal → Type 0) (a c : Told) (r : Refusal) → Answers outside makes before a c (Err r) → ((w : World) → Tells a w → before w (Err r) → gives w (Err r)) → Answers outside makes gives a c (Err r)
  refused_then {U = U} before a c r by so = record {
    faults = by.faults;
    failed = λ is. by.failed (ap (λ (x : Refusal). Err x) (same_refusal {T = T} r Warehouse is));
    beyond = λ is. by.beyond (ap (λ (x : Refusal). Err x) (same_refusal {T = T} r Input is));
    early = λ early. by.early early;
    made = λ w told. by.made w told;
    given = λ w told fine. so w told (by.given w told fine);
  }

  -- nothing was changed before
  module _ (a m c : Told) (alone : IsAlone a m) where
    tells : (w : World) → Tells a w → Tells m w
    tells w told = record { world = alone.world ∙ told.world; plain = told.plain }

    made_first : (r : Result T Refusal) (w : World) → IsMade (makes w) w m c r → IsMade (makes w) w a c r
    made_first (Ok x) w by = (by.0, by.1, subst (λ (n : ℕ). IsRun by.0 w n c) alone.calls by.2)
    made_first (Err r) w (inl still) = inl (alone_then a m c alone still)
    made_first (Err r) w (inr by) = inr (by.0, by.1, subst (λ (n : ℕ). IsPrefixRun by.0 w n c) alone.calls by.2)

    -- what is answered after something was read is answered of the world that was read
    pub read_first : {outside : Type 0} → a.faults ≤ m.faults → (r : Result T Refusal) → Answers outside makes gives m c r → Answers outside makes gives a c r
    read_first faults (Ok x) by = record {
      faults = omega (arith, by.faults, faults);
      failed = λ is. absurd (cc);
      beyond = λ is. absurd (cc);
      early = tt;
      made = λ w told. made_first (Ok x) w (by.made w (tells w told));
      given = λ w told. by.given w (tells w told);
    }
    read_first faults (Err r) by = record {
      faults = omega (arith, by.faults, faults);
      failed = λ is. let rose = by.failed is in omega (arith, rose, faults);
      beyond = by.beyond;
      early = λ early. alone_then a m c alone (by.early early);
      made = λ w told. made_first (Err r) w (by.made w (tells w told));
      given = λ w told fine. by.given w (tells w told) fine;
    }

-- the same changes and answers, told in other words
module _ {T : Type 0} (makes more : World → List Change → Type 0) (gives tells : World → Result T Refusal → Type 0) (a c : Told)
    (making : (w : World) → Tells a w → (list : List Change) → makes w list → more w list)
    (giving : (w : World) → Tells a w → (r : Result T Refusal) → gives w r → tells w r) where
  made_so : (r : Result T Refusal) (w : World) → Tells a w → IsMade (makes w) w a c r → IsMade (more w) w a c r
  made_so (Ok x) w told by = (by.0, making w told by.0 by.1, by.2)
  made_so (Err r) w told (inl alone) = inl alone
  made_so (Err r) w told (inr by) = inr (by.0, making w told by.0 by.1, by.2)

  pub answers_so : {outside : Type 0} → (r : Result T Refusal) → Answers outside makes gives a c r → Answers outside more tells a c r
  answers_so (Ok x) by = record {
    faults = by.faults;
    failed = by.failed;
    beyond = by.beyond;
    early = tt;
    made = λ w told. made_so (Ok x) w told (by.made w told);
    given = λ w told. giving w told (Ok x) (by.given w told);
  }
  answers_so (Err r) by = record {
    faults = by.faults;
    failed = by.failed;
    beyond = by.beyond;
    early = by.early;
    made = λ w told. made_so (Err r) w told (by.made w told);
    given = λ w told fine. giving w told (Err r) (by.given w told fine);
  }

-- where nothing outside is told to have failed, it is so only where anything stands
pub within : {T : Type 0} (outside : Type 0) (makes : World → List Change → Type 0) (gives : World → Result T Refusal → Type 0) (a c : Told) (r : Result T Refusal) → Answers ⊥ makes gives a c r → Answers outside makes gives a c r
within outside makes gives a c r by = record {
  faults = by.faults;
  failed = by.failed;
  beyond = λ is. absurd (by.beyond is);
  early = by.early;
  made = by.made;
  given = by.given;
}

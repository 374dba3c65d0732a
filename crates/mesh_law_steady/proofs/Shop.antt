-- A warehouse of the shop, in which the first day and the totals are recorded on 2024-01-03 at midnight: it meets
-- what the law of steady projects asks, so nothing moves while the order of the third day comes, and later.
use Rattle.std.proofs.Common.{◌≡◌, ℕ, ℤ, pos, ◌≤ℤ◌, Bool, true, false, cond, ◌&&◌, inl, inr, List, [], ◌∷◌, refl, sym, ap, ◌∙◌, subst, IsTrue}
use Rattle.std.specs.Prelude.{codes}
use Rattle.std.specs.List.{All, AllZip, Contains}
use Rattle.std.specs.Option.{ForSome}
use Rattle.std.specs.Ordering.{is_eq}
use Rattle.std.specs.declared.option.Option.{Option}
use Rattle.std.specs.declared.option.Option.TheVariants.{None, Some}
use Rattle.std.proofs.lemmas.List.Elements.{All-nil, All-cons}
use Rattle.mesh_list.specs.Keyed.{found}
use Rattle.mesh_base_values.specs.Crons.{count_below, has, has_date, has_day, is_cron, is_set, some_below}
use Rattle.mesh_base_values.specs.Kinds.{is_incremental}
use Rattle.mesh_base_values.specs.Names.{name_cmp}
use Rattle.mesh_base_values.specs.NameOrder.{names_exact}
use Rattle.mesh_base_values.specs.declared.kinds.Kind.TheVariants as kind
use Rattle.mesh_base_values.specs.declared.times.Bounds.{Bounds}
use Rattle.mesh_base_values.specs.declared.values.Column.{Column}
use Rattle.mesh_base_values.specs.declared.values.Name.{Name}
use Rattle.mesh_base_values.proofs.Tests.{le_says}
use Rattle.mesh_base.specs.Keys.{ref_cmp, snapshot_ref}
use Rattle.mesh_base.specs.Outputs.{columns_of}
use Rattle.mesh_base.specs.declared.definitions.Own.{Own}
use Rattle.mesh_base.specs.declared.expressions.Expr.{fold-roll-Expr, roll-Expr}
use Rattle.mesh_base.specs.declared.expressions.Expr as expr
use Rattle.mesh_base.specs.declared.expressions.Expr.TheOpen.{Between, Col, Macro}
use Rattle.mesh_base.specs.declared.expressions.Var.{Var}
use Rattle.mesh_base.specs.declared.expressions.Var.TheVariants as var
use Rattle.mesh_base.specs.declared.forgets.Forget.{Forget}
use Rattle.mesh_base.specs.declared.snapshots.Ref.{Ref}
use Rattle.mesh_base.specs.declared.snapshots.Snapshot.{Snapshot}
use Rattle.mesh_base.specs.rules.Seen.{column_at, is_select_seen, select_sees, sees, sees_here, when_sees}
use Rattle.mesh_time.specs.Ranges.{Has, IsWithin, is_apart, is_held}
use Rattle.mesh_house_book.specs.Changes.{version_object}
use Rattle.mesh_house_book.specs.declared.book.Book.{Book}
use Rattle.mesh_house_book.specs.declared.versions.Version.{Version}
use Rattle.mesh_house_book.specs.WellFormed.{is_well_formed_book}
use Rattle.mesh_house_book.proofs.Exchanged.{found_key}
use Rattle.mesh_house.specs.declared.objects.Body.TheVariants.{Rows}
use Rattle.mesh_house.specs.declared.objects.Object.{Object}
use Rattle.mesh_house.specs.declared.world.World.{World}
use Rattle.mesh_house.specs.Objects.{is_physical, object_name}
use Rattle.mesh_house.specs.World.{object_at, version_of}
use Rattle.mesh_spec_model.specs.Closures.{Closure, own_of}
use Rattle.mesh_spec_model.specs.Horizons.{Clock, Shows, schedule}
use Rattle.mesh_spec_model.proofs.Moments.{one_floor}
use Rattle.mesh_law_query.proofs.Has.{Has as Has_in, Has_from, Has_to}
use Rattle.mesh_spec_changes.specs.listed.Closing.{IsSnapshot, closing}
use Rattle.mesh_spec_changes.specs.due.Marks.{is_computed, marks}
use Rattle.mesh_spec_changes.specs.due.Parts.{all_parts}
use Rattle.mesh_spec_changes.specs.due.Plans.{holds}
use Rattle.mesh_spec_changes.specs.reuse.Cores.{IsTwin}
use Rattle.mesh_spec_promise.specs.Moved.{moved}
use Rattle.mesh_spec_promise.specs.Sound.{Formed, HasEachOnce, IsBodyOf, IsFullSound, IsIncrementalSound, IsMade, IsTableSound, Uses, lies_among, table_rows}
use Rattle.mesh_spec_promise.proofs.Ends.{found_contained}
use Rattle.mesh_spec_changes.specs.steady.Arrives.{Arrives, KeepsUnits, StaysStatic}
use Rattle.mesh_spec_changes.specs.steady.Even.{is_even}
use Rattle.mesh_spec_changes.specs.steady.Steady.{is_steady}
use Rattle.mesh_law_steady.specs.Projects.{IsSteadyBook}
use Rattle.mesh_law_steady.proofs.Examples.{after, before, daily, day, each_once, it_binds, its_day, keeps, on_wednesday, orders, the_first_day, totals, within}
use Rattle.mesh_law_steady.proofs.Ticks.{at_midnight, midnight_in_2024, midnight_is_read}
use Rattle.mesh_law_steady.proofs.Worlds.{nothing_moves}

-- 2024-01-03T00:00:00
abbrev midnight : ℤ
midnight = pos 1_704_240_000

abbrev object : List ℕ → Name
object model = record { schema = codes "s__shop"; model = model }

abbrev ref : List ℕ → ℕ → Ref
ref model n = record { name = record { schema = codes "shop"; model = model }; fingerprint = n ∷ [] }

abbrev snapshot : Own → List Ref → ℕ → Snapshot
snapshot own parents rank = record { name = own.name; fingerprint = 1 ∷ []; own = own; parents = parents; rank = rank; object = object own.name.model; expires = pos 0 }

abbrev daily_snapshot : Snapshot
daily_snapshot = snapshot (own_of daily) [] 0

abbrev totals_snapshot : Snapshot
totals_snapshot = snapshot (own_of totals) (ref (codes "daily") 1 ∷ []) 1

abbrev all : List Snapshot
all = daily_snapshot ∷ totals_snapshot ∷ []

abbrev daily_version : Version
daily_version = record { object = daily_snapshot.object; made = true; ranges = the_first_day ∷ []; marks = None }

abbrev totals_version : Version
totals_version = record { object = totals_snapshot.object; made = true; ranges = []; marks = Some (midnight ∷ midnight ∷ []) }

abbrev book : Book
book = record { version = 2; moment = midnight; snapshots = all; versions = daily_version ∷ totals_version ∷ []; environments = [] }

abbrev table : Snapshot → Object
table s = record { name = s.object; columns = columns_of s.own; body = Rows [] }

abbrev w : World
w = record { sources = before; objects = table daily_snapshot ∷ table totals_snapshot ∷ []; views = []; book = book }

-- the book is well formed
its_day_sees : (tables : List (List Column)) → sees tables its_day ≡ column_at tables 0 day
unfolding its_day roll-Expr denote.Hole.Carrier.roll
its_day_sees tables = fold-roll-Expr Bool Bool (sees_here tables) when_sees (Col 0 day)

column_sees : (tables : List (List Column)) → sees tables (expr.Col 0 day) ≡ column_at tables 0 day
unfolding roll-Expr denote.Hole.Carrier.roll
column_sees tables = fold-roll-Expr Bool Bool (sees_here tables) when_sees (Col 0 day)

macro_sees : (tables : List (List Column)) (m : Var) → sees tables (expr.Macro m) ≡ true
unfolding roll-Expr denote.Hole.Carrier.roll
macro_sees tables m = fold-roll-Expr Bool Bool (sees_here tables) when_sees (Macro m)

within_sees : (tables : List (List Column)) → sees tables within ≡ (column_at tables 0 day && true && true)
unfolding within roll-Expr denote.Hole.Carrier.roll
within_sees tables =
    fold-roll-Expr Bool Bool (sees_here tables) when_sees (Between (expr.Col 0 day) (expr.Macro var.StartDate) (expr.Macro var.EndDate))
    ∙ (λ i. column_sees tables i && macro_sees tables var.StartDate i && macro_sees tables var.EndDate i)

well : is_well_formed_book book ≡ true
unfolding is_cron is_set some_below has count_below has_date has_day is_select_seen select_sees
well = simp (its_day_sees, within_sees) refl

-- what holds of both snapshots holds of each that the book has, and so it is of versions and objects
each_snapshot : (P : Snapshot → Type 0) → P daily_snapshot → P totals_snapshot → (s : Snapshot) → IsSnapshot all s → P s
each_snapshot P one other s known = go (Has_from all s (found_contained ref_cmp snapshot_ref (snapshot_ref s) s all known))
  where
    go : Has_in s all → P s
    go (inl e) = subst P e one
    go (inr (inl e)) = subst P e other
    go (inr (inr h)) = absurd h

each_version : (P : Name → Version → Type 0) → P daily_snapshot.object daily_version → P totals_snapshot.object totals_version → (name : Name) (v : Version) → version_of book name ≡ Some v → P name v
each_version P one other name v e =
    subst (λ n. P n v) (found_key name_cmp version_object names_exact name v book.versions e) (go (Has_from book.versions v (found_contained name_cmp version_object name v book.versions e)))
  where
    go : Has_in v book.versions → P (version_object v) v
    go (inl e) = subst (λ z. P (version_object z) z) e one
    go (inr (inl e)) = subst (λ z. P (version_object z) z) e other
    go (inr (inr h)) = absurd h

each_object : (P : Name → Object → Type 0) → P daily_snapshot.object (table daily_snapshot) → P totals_snapshot.object (table totals_snapshot) → (name : Name) (o : Object) → object_at w name ≡ Some o → P name o
each_object P one other name o e = physical (is_physical name) e
  where
    go : Has_in o w.objects → P (object_name o) o
    go (inl e) = subst (λ z. P (object_name z) z) e one
    go (inr (inl e)) = subst (λ z. P (object_name z) z) e other
    go (inr (inr h)) = absurd h

    physical : (b : Bool) → cond b (found name_cmp object_name name w.objects) None ≡ Some o → P name o
    physical true f = subst (λ n. P n o) (found_key name_cmp object_name names_exact name o w.objects f) (go (Has_from w.objects o (found_contained name_cmp object_name name o w.objects f)))
    physical false f = absurd (cc)

some_is : {X : Type 0} (x y : X) → ◌≡◌ {A = Option X} (Some x) (Some y) → x ≡ y
some_is x y e = cc

-- the two objects are two
apart : {P : Type 0} → daily_snapshot.object ≡ totals_snapshot.object → P
apart e = let clash : true ≡ false = ap (λ n. is_eq (name_cmp n daily_snapshot.object)) e in absurd (cc)

-- a second that is recorded lies in the first day
in_first : (us : List Bounds) (t : ℤ) → Has daily_version.ranges t → Contains us the_first_day → (u : Bounds) × Contains us u × IsTrue (is_held daily_version.ranges u.start u.end) × IsWithin u.start u.end t
in_first us t (inl in_it) there = (the_first_day, there, refl, in_it)
in_first us t (inr none) there = absurd none

daily_once : HasEachOnce (closing all daily_snapshot)
daily_once a b at_a at_b e = sym (only a (Has_from (daily ∷ []) a at_a)) ∙ only b (Has_from (daily ∷ []) b at_b)
  where
    only : (c : Closure) → Has_in c (daily ∷ []) → daily ≡ c
    only c (inl e) = e
    only c (inr h) = absurd h

-- snapshots of one name that are twins
abbrev Twins : Snapshot → Snapshot → Type 0
Twins s s' = (s.name ≡ s'.name) × IsTwin (closing all s) (closing all s')

-- what a clock that shows midnight says of the two models
module _ (clock : Clock) (shows : Shows clock midnight) where
  tick : clock at_midnight ≡ midnight
  tick = one_floor at_midnight midnight (clock at_midnight) midnight (shows at_midnight midnight_is_read) midnight_in_2024

  units_are : schedule clock daily ≡ schedule on_wednesday daily
  units_are = ap (λ z. schedule (λ cron. z) daily) tick

  marks_are : marks clock totals ≡ midnight ∷ midnight ∷ []
  marks_are = ap (λ z. marks (λ cron. z) totals) tick

  first_day : Contains (schedule clock daily) the_first_day
  first_day = subst (λ us. Contains us the_first_day) (sym units_are) (Has_to (schedule on_wednesday daily) the_first_day (inl refl))

  daily_table : IsIncrementalSound clock all_parts before (table_rows w daily_snapshot.object) daily_snapshot.object (closing all daily_snapshot) daily_snapshot.own daily_version
  daily_table = record {
    units = λ t there. in_first (schedule clock daily) t there first_day;
    within = λ made rows e. subst (All (lies_among daily_snapshot.own (schedule clock daily))) (some_is [] rows e) (All-nil (lies_among daily_snapshot.own (schedule clock daily)));
    pieces = λ made u known held off. absurd (cc);
  }

  totals_table : IsFullSound clock all_parts before (table_rows w totals_snapshot.object) totals_snapshot.object (closing all totals_snapshot) totals_version
  totals_table = record {
    no_later = λ old e. subst (λ ms. AllZip (λ m n. m ≤ℤ n) ms (marks clock totals)) (some_is (midnight ∷ midnight ∷ []) old e)
        (subst (AllZip (λ m n. m ≤ℤ n) (midnight ∷ midnight ∷ [])) (sym marks_are) (le_says midnight midnight refl, (le_says midnight midnight refl, tt)));
    rows = λ same off. absurd (cc);
  }

formed : Formed w
formed = record {
  typed = record {
    sources = refl;
    plain = refl;
    objects = refl;
    physical = refl;
    views = refl;
    ranges = each_version (λ name v. IsTrue (is_apart v.ranges)) refl refl;
    crons = each_snapshot (λ s. IsTrue (is_cron s.own.cron)) midnight_is_read midnight_is_read;
  };
  book = record {
    well_formed = well;
    names = each_snapshot (λ s. HasEachOnce (closing all s)) daily_once each_once;
    versions = each_version (λ name v. Uses book name) (record { snapshot = daily_snapshot; kept = refl; uses = refl }) (record { snapshot = totals_snapshot; kept = refl; uses = refl });
    ranges = each_version (λ name v. v.made ≡ false → v.ranges ≡ []) (λ e. absurd (cc)) (λ e. absurd (cc));
    marks = each_version (λ name v. v.made ≡ false → v.marks ≡ None) (λ e. absurd (cc)) (λ e. absurd (cc));
    shared = λ s s' k k' e. each_snapshot (λ s. (s' : Snapshot) → IsSnapshot all s' → s.object ≡ s'.object → Twins s s')
        (each_snapshot (λ s'. daily_snapshot.object ≡ s'.object → Twins daily_snapshot s') (λ e. (refl, refl)) (λ e. apart e))
        (each_snapshot (λ s'. totals_snapshot.object ≡ s'.object → Twins totals_snapshot s') (λ e. apart (sym e)) (λ e. (refl, refl))) s k s' k' e;
    alone = λ s s' k k' e. each_snapshot (λ s. s.own.kind ≡ kind.View → snapshot_ref s ≡ snapshot_ref s') (λ v. absurd (cc)) (λ v. absurd (cc)) s k;
  };
  tables = λ clock shows s known v e. each_snapshot (λ s. (v : Version) → version_of book s.object ≡ Some v → IsTableSound clock all_parts w s v s.own.kind)
      (λ v e. subst (λ v. IsTableSound clock all_parts w daily_snapshot v daily_snapshot.own.kind) (some_is daily_version v e) (daily_table clock shows))
      (λ v e. subst (λ v. IsTableSound clock all_parts w totals_snapshot v totals_snapshot.own.kind) (some_is totals_version v e) (totals_table clock shows)) s known v e;
  objects = record {
    named = each_object (λ name o. Uses book name) (record { snapshot = daily_snapshot; kept = refl; uses = refl }) (record { snapshot = totals_snapshot; kept = refl; uses = refl });
    bodies = each_snapshot (λ s. ForSome (object_at w s.object) (λ o. IsBodyOf all s s.own.kind o.body))
        (λ o e. subst (λ (o : Object). IsBodyOf all daily_snapshot daily_snapshot.own.kind o.body) (some_is (table daily_snapshot) o e) tt)
        (λ o e. subst (λ (o : Object). IsBodyOf all totals_snapshot totals_snapshot.own.kind o.body) (some_is (table totals_snapshot) o e) tt);
    made = λ s known v e made. each_snapshot (λ s. IsMade w s)
        (record { object = table daily_snapshot; stands = refl; columns = refl; targets = λ view. absurd (cc) })
        (record { object = table totals_snapshot; stands = refl; columns = refl; targets = λ view. absurd (cc) }) s known;
  };
  views = record {
    views = λ name target e. absurd (cc);
    entries = λ e known. absurd (cc);
    parents = λ e known. absurd (cc);
    previous = λ e known. absurd (cc);
    final = λ e known. absurd (cc);
  };
}

-- each model is steady and even
steady : IsSteadyBook book
steady = record {
  steady = each_snapshot (λ s. is_computed s.own.kind ≡ true → is_steady (closing all s) ≡ true) (λ computed. ap (λ b. (b && true) && true) it_binds) (λ computed. refl);
  even = each_snapshot (λ s. is_even (closing all s) ≡ true) refl refl;
}

-- the order of the third day may arrive
arrives : Arrives w after
arrives = record {
  static = each_snapshot (λ s. All (StaysStatic before after) s.own.sources) (All-cons (StaysStatic before after) orders [] (λ none. absurd (cc)) (All-nil (StaysStatic before after))) (All-nil (StaysStatic before after));
  timed = λ clock shows. each_snapshot (λ s. is_incremental s.own.kind ≡ true → All (KeepsUnits before after (schedule clock (closing all s))) s.own.sources)
      (λ timed. subst (λ us. All (KeepsUnits before after us) (orders ∷ [])) (sym (units_are clock shows)) (All-cons (KeepsUnits before after (schedule on_wednesday daily)) orders [] keeps (All-nil (KeepsUnits before after (schedule on_wednesday daily)))))
      (λ timed. absurd (cc));
}

-- the first day is recorded, and nothing moves then or later
it_is_recorded : holds book daily_snapshot.object the_first_day ≡ true
it_is_recorded = refl

nothing_moves_here : (t : ℤ) → midnight ≤ℤ t → (clock later : Clock) → Shows clock midnight → Shows later t → (p : Forget) → moved w clock later after p ≡ false
nothing_moves_here t le clock later now then_ p = nothing_moves all_parts w formed steady t le clock later now then_ after arrives p

-- A warehouse of the three models whose units aren't even: an hour of the last is recorded, and moves six hours
-- later, though each model is steady and there are no sources.
use Rattle.std.proofs.Common.{◌≡◌, ℕ, ℤ, pos, ◌≤ℤ◌, Bool, true, false, cond, not, ◌&&◌, inl, inr, List, [], ◌∷◌, refl, sym, ap, ◌∙◌, subst, IsTrue}
use Rattle.std.specs.Prelude.{codes}
use Rattle.std.specs.List.{All, Contains}
use Rattle.std.specs.Option.{ForSome}
use Rattle.std.specs.Ordering.{is_eq}
use Rattle.std.specs.declared.option.Option.{Option}
use Rattle.std.specs.declared.option.Option.TheVariants.{None, Some}
use Rattle.std.proofs.lemmas.List.Elements.{All-nil}
use Rattle.std.proofs.lemmas.Bool.{not-false as is_so}
use Rattle.mesh_list.specs.Keyed.{found}
use Rattle.mesh_base_values.specs.Crons.{count_below, has, has_date, has_day, is_cron, is_set, some_below}
use Rattle.mesh_base_values.specs.Names.{name_cmp}
use Rattle.mesh_base_values.specs.NameOrder.{names_exact}
use Rattle.mesh_base_values.specs.declared.times.Bounds.{Bounds}
use Rattle.mesh_base_values.specs.declared.values.Column.{Column}
use Rattle.mesh_base_values.specs.declared.values.Name.{Name}
use Rattle.mesh_base_values.proofs.Tests.{le_says}
use Rattle.mesh_base.specs.Keys.{ref_cmp, snapshot_ref}
use Rattle.mesh_base.specs.Outputs.{columns_of}
use Rattle.mesh_base.specs.declared.definitions.Own.{Own}
use Rattle.mesh_base.specs.declared.expressions.Expr.{fold-roll-Expr, roll-Expr}
use Rattle.mesh_base.specs.declared.expressions.Expr as expr
use Rattle.mesh_base.specs.declared.expressions.Expr.TheOpen.{Between, Col, Macro}
use Rattle.mesh_base.specs.declared.expressions.Var.{Var}
use Rattle.mesh_base.specs.declared.expressions.Var.TheVariants as var
use Rattle.mesh_base.specs.declared.forgets.Forget.{Forget}
use Rattle.mesh_base.specs.declared.forgets.Forget.TheVariants.{Range}
use Rattle.mesh_base.specs.declared.jobs.Input.{Input}
use Rattle.mesh_base.specs.declared.snapshots.Ref.{Ref}
use Rattle.mesh_base.specs.declared.snapshots.Snapshot.{Snapshot}
use Rattle.mesh_base.specs.rules.Seen.{column_at, is_select_seen, select_sees, sees, sees_here, when_sees}
use Rattle.mesh_time.specs.Ranges.{Has, IsWithin, is_apart, is_held}
use Rattle.mesh_house_book.specs.Changes.{version_object}
use Rattle.mesh_house_book.specs.declared.book.Book.{Book}
use Rattle.mesh_house_book.specs.declared.versions.Version.{Version}
use Rattle.mesh_house_book.specs.WellFormed.{is_well_formed_book}
use Rattle.mesh_house_book.proofs.Exchanged.{found_key}
use Rattle.mesh_house.specs.declared.objects.Body.TheVariants.{Rows}
use Rattle.mesh_house.specs.declared.objects.Object.{Object}
use Rattle.mesh_house.specs.declared.world.World.{World}
use Rattle.mesh_house.specs.Objects.{is_physical, object_name}
use Rattle.mesh_house.specs.World.{object_at, version_of}
use Rattle.mesh_spec_model.specs.Closures.{Closure, own_of, standing}
use Rattle.mesh_spec_model.specs.Horizons.{Clock, Shows, schedule}
use Rattle.mesh_spec_model.specs.Scratch.{piece}
use Rattle.mesh_spec_model.proofs.Clocks.{shown}
use Rattle.mesh_law_query.proofs.Has.{Has as Has_in, Has_from}
use Rattle.mesh_spec_changes.specs.listed.Closing.{IsSnapshot, closing}
use Rattle.mesh_spec_changes.specs.due.Parts.{Parts, all_parts, same_name, same_second}
use Rattle.mesh_spec_changes.specs.due.Plans.{holds}
use Rattle.mesh_spec_changes.specs.reuse.Cores.{IsTwin}
use Rattle.mesh_spec_promise.specs.Moved.{is_unit_of, moved, same_bag, unit_moves}
use Rattle.mesh_spec_promise.specs.Sound.{Formed, HasEachOnce, IsBodyOf, IsIncrementalSound, IsMade, IsTableSound, Sound, Uses, lies_among, table_rows}
use Rattle.mesh_spec_promise.proofs.Bags.{bag_is_same}
use Rattle.mesh_spec_promise.proofs.Ends.{found_contained}
use Rattle.mesh_spec_promise.proofs.Seconds.{any_of}
use Rattle.mesh_spec_changes.specs.steady.Arrives.{Arrives}
use Rattle.mesh_spec_changes.specs.steady.Steady.{bounds, is_steady}
use Rattle.mesh_spec_changes.proofs.steady.Arriving.{as_they_are}
use Rattle.mesh_law_steady.proofs.Ticks.{hour_is_read, is_later, is_then, midnight_is_read, six_is_read}
use Rattle.mesh_law_steady.proofs.Uneven.{bound_by, column_t, days, first, first_hour, hour, hours, hours_again, it_binds, it_moves, name, second, start_epoch, t, third, ticks_now, ticks_then, within}
use Rattle.mesh_law_steady.proofs.Units.{none_any}

abbrev ref : List ℕ → Ref
ref model = record { name = name model; fingerprint = 1 ∷ [] }

abbrev snapshot : Own → List Ref → ℕ → Snapshot
snapshot own parents rank = record { name = own.name; fingerprint = 1 ∷ []; own = own; parents = parents; rank = rank; object = record { schema = codes "s__"; model = own.name.model }; expires = pos 0 }

abbrev a : Snapshot
a = snapshot first [] 0

abbrev b : Snapshot
b = snapshot second (ref (codes "a") ∷ []) 1

abbrev c : Snapshot
c = snapshot third (ref (codes "b") ∷ []) 2

abbrev all : List Snapshot
all = a ∷ b ∷ c ∷ []

-- only the last has a table
abbrev version : Version
version = record { object = c.object; made = true; ranges = hour ∷ []; marks = None }

-- at 1970-01-02T00:00:00
abbrev book : Book
book = record { version = 2; moment = pos 86_400; snapshots = all; versions = version ∷ []; environments = [] }

abbrev table : Object
table = record { name = c.object; columns = columns_of third; body = Rows [] }

abbrev w : World
w = record { sources = []; objects = table ∷ []; views = []; book = book }

-- the book is well formed
start_sees : (tables : List (List Column)) → sees tables start_epoch ≡ true
unfolding start_epoch roll-Expr denote.Hole.Carrier.roll
start_sees tables = fold-roll-Expr Bool Bool (sees_here tables) when_sees (Macro var.StartEpoch)

t_sees : (tables : List (List Column)) → sees tables column_t ≡ column_at tables 0 t
unfolding column_t roll-Expr denote.Hole.Carrier.roll
t_sees tables = fold-roll-Expr Bool Bool (sees_here tables) when_sees (Col 0 t)

column_sees : (tables : List (List Column)) → sees tables (expr.Col 0 t) ≡ column_at tables 0 t
unfolding roll-Expr denote.Hole.Carrier.roll
column_sees tables = fold-roll-Expr Bool Bool (sees_here tables) when_sees (Col 0 t)

macro_sees : (tables : List (List Column)) (m : Var) → sees tables (expr.Macro m) ≡ true
unfolding roll-Expr denote.Hole.Carrier.roll
macro_sees tables m = fold-roll-Expr Bool Bool (sees_here tables) when_sees (Macro m)

within_sees : (tables : List (List Column)) → sees tables within ≡ (column_at tables 0 t && true && true)
unfolding within roll-Expr denote.Hole.Carrier.roll
within_sees tables =
    fold-roll-Expr Bool Bool (sees_here tables) when_sees (Between (expr.Col 0 t) (expr.Macro var.StartEpoch) (expr.Macro var.EndEpoch))
    ∙ (λ i. column_sees tables i && macro_sees tables var.StartEpoch i && macro_sees tables var.EndEpoch i)

well : is_well_formed_book book ≡ true
unfolding is_cron is_set some_below has count_below has_date has_day is_select_seen select_sees
well = simp (start_sees, t_sees, within_sees) refl

-- what holds of the three snapshots, of the version and of the object
each_snapshot : (P : Snapshot → Type 0) → P a → P b → P c → (s : Snapshot) → IsSnapshot all s → P s
each_snapshot P on_a on_b on_c s known = go (Has_from all s (found_contained ref_cmp snapshot_ref (snapshot_ref s) s all known))
  where
    go : Has_in s all → P s
    go (inl e) = subst P e on_a
    go (inr (inl e)) = subst P e on_b
    go (inr (inr (inl e))) = subst P e on_c
    go (inr (inr (inr h))) = absurd h

each_version : (P : Name → Version → Type 0) → P c.object version → (n : Name) (v : Version) → version_of book n ≡ Some v → P n v
each_version P one n v e = subst (λ m. P m v) (found_key name_cmp version_object names_exact n v book.versions e) (go (Has_from book.versions v (found_contained name_cmp version_object n v book.versions e)))
  where
    go : Has_in v book.versions → P (version_object v) v
    go (inl e) = subst (λ z. P (version_object z) z) e one
    go (inr h) = absurd h

each_object : (P : Name → Object → Type 0) → P c.object table → (n : Name) (o : Object) → object_at w n ≡ Some o → P n o
each_object P one n o e = physical (is_physical n) e
  where
    go : Has_in o w.objects → P (object_name o) o
    go (inl e) = subst (λ z. P (object_name z) z) e one
    go (inr h) = absurd h

    physical : (q : Bool) → cond q (found name_cmp object_name n w.objects) None ≡ Some o → P n o
    physical true f = subst (λ m. P m o) (found_key name_cmp object_name names_exact n o w.objects f) (go (Has_from w.objects o (found_contained name_cmp object_name n o w.objects f)))
    physical false f = absurd (cc)

some_is : {X : Type 0} (x y : X) → ◌≡◌ {A = Option X} (Some x) (Some y) → x ≡ y
some_is x y e = cc

-- a model is known by its name, and a snapshot by its object
abbrev model_of : Name → Closure
model_of n = cond (is_eq (name_cmp n (name (codes "a")))) hours (cond (is_eq (name_cmp n (name (codes "b")))) days hours_again)

its_model : (d : Closure) → Has_in d (hours_again ∷ days ∷ hours ∷ []) → model_of (own_of d).name ≡ d
its_model d (inl e) = subst (λ z. model_of (own_of z).name ≡ z) e refl
its_model d (inr (inl e)) = subst (λ z. model_of (own_of z).name ≡ z) e refl
its_model d (inr (inr (inl e))) = subst (λ z. model_of (own_of z).name ≡ z) e refl
its_model d (inr (inr (inr h))) = absurd h

once : (d : Closure) → ((x : Closure) → Has_in x (standing d) → Has_in x (hours_again ∷ days ∷ hours ∷ [])) → HasEachOnce d
once d among x y at_x at_y e = sym (its_model x (among x (Has_from (standing d) x at_x))) ∙ ap model_of e ∙ its_model y (among y (Has_from (standing d) y at_y))

abbrev snapshot_of : Name → Snapshot
snapshot_of n = cond (is_eq (name_cmp n a.object)) a (cond (is_eq (name_cmp n b.object)) b c)

its_snapshot : (s : Snapshot) → IsSnapshot all s → snapshot_of s.object ≡ s
its_snapshot = each_snapshot (λ s. snapshot_of s.object ≡ s) refl refl refl

one_snapshot : (s s' : Snapshot) → IsSnapshot all s → IsSnapshot all s' → s.object ≡ s'.object → s ≡ s'
one_snapshot s s' k k' e = sym (its_snapshot s k) ∙ ap snapshot_of e ∙ its_snapshot s' k'

-- the hour is one of the last model's, by a clock that shows the book's moment
hour_then : (clock : Clock) → Shows clock (pos 86_400) → Contains (schedule clock hours_again) hour
hour_then clock shows = let later = shown (pos 108_000) is_later in first_hour clock later.0 (ticks_then clock shows) (ticks_now later.0 later.1)

a_unit : (clock : Clock) → Shows clock (pos 86_400) → is_unit_of (schedule clock hours_again) hour ≡ true
a_unit clock shows = any_of (λ (v : Bounds). same_second v.start hour.start && same_second v.end hour.end) (schedule clock hours_again) hour (hour_then clock shows) refl

-- a second that is recorded lies in the hour
in_hour : (us : List Bounds) (z : ℤ) → Has version.ranges z → Contains us hour → (u : Bounds) × Contains us u × IsTrue (is_held version.ranges u.start u.end) × IsWithin u.start u.end z
in_hour us z (inl in_it) there = (hour, there, refl, in_it)
in_hour us z (inr none) there = absurd none

last_table : (clock : Clock) → Shows clock (pos 86_400) → IsIncrementalSound clock all_parts [] (table_rows w c.object) c.object (closing all c) c.own version
last_table clock shows = record {
  units = λ z there. in_hour (schedule clock hours_again) z there (hour_then clock shows);
  within = λ made rows e. subst (All (lies_among c.own (schedule clock hours_again))) (some_is [] rows e) (All-nil (lies_among c.own (schedule clock hours_again)));
  pieces = λ made u known held off. absurd (cc);
}

formed : Formed w
formed = record {
  typed = record {
    sources = refl;
    plain = refl;
    objects = refl;
    physical = refl;
    views = refl;
    ranges = each_version (λ n v. IsTrue (is_apart v.ranges)) refl;
    crons = each_snapshot (λ s. IsTrue (is_cron s.own.cron)) six_is_read midnight_is_read hour_is_read;
  };
  book = record {
    well_formed = well;
    names = each_snapshot (λ s. HasEachOnce (closing all s)) (once hours (λ x h. inr (inr h))) (once days (λ x h. inr h)) (once hours_again (λ x h. h));
    versions = each_version (λ n v. Uses book n) (record { snapshot = c; kept = refl; uses = refl });
    ranges = each_version (λ n v. v.made ≡ false → v.ranges ≡ []) (λ e. absurd (cc));
    marks = each_version (λ n v. v.made ≡ false → v.marks ≡ None) (λ e. absurd (cc));
    shared = λ s s' k k' e. subst (λ z. (s.name ≡ z.name) × IsTwin (closing all s) (closing all z)) (one_snapshot s s' k k' e) (refl, refl);
    alone = λ s s' k k' e v. ap snapshot_ref (one_snapshot s s' k k' e);
  };
  tables = λ clock shows. each_snapshot (λ s. (v : Version) → version_of book s.object ≡ Some v → IsTableSound clock all_parts w s v s.own.kind) (λ v e. absurd (cc)) (λ v e. absurd (cc))
      (λ v e. subst (λ v. IsTableSound clock all_parts w c v c.own.kind) (some_is version v e) (last_table clock shows));
  objects = record {
    named = each_object (λ n o. Uses book n) (record { snapshot = c; kept = refl; uses = refl });
    bodies = each_snapshot (λ s. ForSome (object_at w s.object) (λ o. IsBodyOf all s s.own.kind o.body)) (λ o e. absurd (cc)) (λ o e. absurd (cc))
        (λ o e. subst (λ (o : Object). IsBodyOf all c c.own.kind o.body) (some_is table o e) tt);
    made = each_snapshot (λ s. (v : Version) → version_of book s.object ≡ Some v → v.made ≡ true → IsMade w s) (λ v e. absurd (cc)) (λ v e. absurd (cc))
        (λ v e made. record { object = table; stands = refl; columns = refl; targets = λ view. absurd (cc) });
  };
  views = record {
    views = λ name target e. absurd (cc);
    entries = λ e known. absurd (cc);
    parents = λ e known. absurd (cc);
    previous = λ e known. absurd (cc);
    final = λ e known. absurd (cc);
  };
}

steady : (s : Snapshot) → IsSnapshot all s → is_steady (closing all s) ≡ true
steady = each_snapshot (λ s. is_steady (closing all s) ≡ true) refl (bound_by (bounds 0 t within) it_binds) (bound_by (bounds 0 t within) it_binds)

not_both : (p q : Bool) → p ≡ true → (p && q) ≡ false → q ≡ false
not_both true q e h = h
not_both false q e h = absurd (cc)

-- what stays is one bag
stays : (clock later : Clock) → Shows clock (pos 86_400) → moved w clock later [] (Range c.object hour.start hour.end) ≡ false → same_bag (piece [] clock hours_again hour) (piece [] later hours_again hour) ≡ true
stays clock later shows nothing =
    let each = none_any (λ (s : Snapshot). same_name s.object c.object && unit_moves w clock later [] s hour s.own.kind) all nothing in
    let recorded = not_both (is_unit_of (schedule clock hours_again) hour) (holds book c.object hour && not (same_bag (piece [] clock hours_again hour) (piece [] later hours_again hour))) (a_unit clock shows) each.1.1.0 in
    is_so (same_bag (piece [] clock hours_again hour) (piece [] later hours_again hour)) recorded

pub hours_over_days_over_hours_move_a_world :
    ¬ ((x : Parts) (w : World) → Sound x w → ((s : Snapshot) → IsSnapshot w.book.snapshots s → is_steady (closing w.book.snapshots s) ≡ true) → (z : ℤ) → w.book.moment ≤ℤ z → (clock later : Clock) → Shows clock w.book.moment → Shows later z
    → (after : List Input) → Arrives w after → (p : Forget) → moved w clock later after p ≡ false)
hours_over_days_over_hours_move_a_world law =
    let clock = shown (pos 86_400) is_then in
    let later = shown (pos 108_000) is_later in
    let nothing = law all_parts w formed steady (pos 108_000) (le_says (pos 86_400) (pos 108_000) refl) clock.0 later.0 clock.1 later.1 [] (as_they_are w) (Range c.object hour.start hour.end) in
    it_moves clock.0 later.0 (ticks_then clock.0 clock.1) (ticks_now later.0 later.1)
    (bag_is_same (piece [] clock.0 hours_again hour) (piece [] later.0 hours_again hour) (stays clock.0 later.0 clock.1 nothing))

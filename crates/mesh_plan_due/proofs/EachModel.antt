-- What a plan's models are computed again of, from what is known of each.
use Rattle.std.proofs.Common.{◌≡◌, ℕ, zero, suc, ◌+◌, ◌<◌, ℤ, pos, Bool, true, false, not, ◌&&◌, ◌||◌, cond, List, [], ◌∷◌, ◌++◌, map, length, take, get_or, refl, sym, ap, ◌∙◌, arith, append-nil}
use Rattle.std.specs.List.{flat_map, list_any, slice_get}
use Rattle.std.specs.declared.option.Option.{Option}
use Rattle.std.specs.declared.option.Option.TheVariants.{Some}
use Rattle.std.proofs.lemmas.List.{take_more}
use Rattle.std.proofs.lemmas.Option.{slice_get_read, slice_get_within, get_or_from_slice_get}
use Rattle.std.proofs.lemmas.Grind.{flat_map-append}
use Rattle.mesh_base_values.specs.declared.kinds.Kind.{Kind}
use Rattle.mesh_base_values.specs.declared.kinds.Kind.TheVariants.{Full, View, Seed, Incremental}
use Rattle.mesh_base_values.specs.declared.times.Bounds.{Bounds}
use Rattle.mesh_base_values.specs.declared.values.Name.{Name}
use Rattle.mesh_base.specs.declared.definitions.Own.{Own}
use Rattle.mesh_base.specs.declared.forgets.Forget.{Forget}
use Rattle.mesh_base.specs.declared.forgets.Restate.{Restate}
use Rattle.mesh_base.specs.declared.plans.Entry.{Entry}
use Rattle.mesh_base.specs.declared.snapshots.Node.{Node}
use Rattle.mesh_house_book.specs.declared.book.Book.{Book}
use Rattle.mesh_house_book.specs.declared.versions.Version.{Version}
use Rattle.mesh_house.specs.World.{version_of}
use Rattle.mesh_spec_model.specs.Closures.{Closure, closures, own_of}
use Rattle.mesh_spec_model.specs.Horizons.{Clock, horizon, units_from}
use Rattle.mesh_spec_changes.specs.due.Dues.{again, again_of, again_units, is_open as is_open_unit, is_restated, restates, touches_days}
use Rattle.mesh_spec_changes.specs.due.Parts.{unit_of}
use Rattle.mesh_spec_changes.specs.due.Plans.{Planned, holds, planned, planned_by, ranges_of}
use Rattle.mesh_plan_due.specs.declared.stands.Stand.{Stand}
use Rattle.mesh_plan_due.specs.Stands.{is_again, is_open, parts_again, parts_by, stand, stand_of, units_again}
use Rattle.mesh_plan_due.proofs.Nodes.{known_of, node_there, number_of, closure_at}

-- a unit is open, and is computed again, by how it stands
opens : (h n t : Bool) → (not h || (n && (t && h))) ≡ is_open (stand_of h n t)
opens false n t = refl
opens true false t = refl
opens true true false = refl
opens true true true = refl

agains : (h n t near : Bool) → ((n && (t && h)) || (h && (not (n && (t && h)) && near))) ≡ is_again near (stand_of h n t)
agains false false t near = refl
agains false true false near = refl
agains false true true near = refl
agains true false t near = refl
agains true true false near = refl
agains true true true near = refl

module _ (b : Book) (r : Option Restate) (p : Planned) where
  abbrev stands : Bounds → Stand
  stands = stand (restates r p.closure) r (ranges_of (version_of b p.object))

  near : (n : ℕ) (us : List Bounds) → list_any (is_open_unit b r p) (take n us) ≡ list_any is_open (take n (map stands us))
  near zero us = refl
  near (suc n) [] = refl
  near (suc n) (u ∷ us) = λ i. opens (holds b p.object u) (restates r p.closure) (touches_days r u) i || near n us i

  units_are : (n : ℕ) (us : List Bounds) → again_units n b r p us ≡ units_again n (restates r p.closure) r (ranges_of (version_of b p.object)) us
  units_are n [] = refl
  units_are n (u ∷ us) =
      (λ i. cond (is_restated b r p u || (holds b p.object u && (not (is_restated b r p u) && near n us i))) (u ∷ units_are n us i) (units_are n us i))
      ∙ ap (λ x. cond x (u ∷ units_again n (restates r p.closure) r (ranges_of (version_of b p.object)) us) (units_again n (restates r p.closure) r (ranges_of (version_of b p.object)) us))
      (agains (holds b p.object u) (restates r p.closure) (touches_days r u) (list_any is_open (take n (map stands us))))

  pub parts_are : (clock : Clock) → own_of p.closure ≡ p.node.own → (kind : Kind)
      → again_of clock b r p kind ≡ parts_by p.node.own p.object (horizon clock p.closure) (restates r p.closure) r (version_of b p.object) kind
  parts_are clock own (Incremental time lookback) =
      ap (map (unit_of p.object)) ((λ i. again_units lookback b r p (units_from (own i).start (own i).unit (horizon clock p.closure)))
      ∙ units_are lookback (units_from p.node.own.start p.node.own.unit (horizon clock p.closure)))
  parts_are clock own Full = refl
  parts_are clock own View = refl
  parts_are clock own Seed = refl

-- the models of a plan, one at a time
pub planned_at : (ns : List Node) (cs : List Closure) (es : List Entry) (k : ℕ) (n : Node) (c : Closure) (e : Entry) → slice_get ns k ≡ Some n → slice_get cs k ≡ Some c → slice_get es k ≡ Some e
    → slice_get (planned_by ns cs es) k ≡ Some (record { node = n; closure = c; object = e.object })
planned_at [] cs es k n c e f g h = absurd (cc)
planned_at (m ∷ ns) [] es k n c e f g h = absurd (cc)
planned_at (m ∷ ns) (d ∷ cs) [] k n c e f g h = absurd (cc)
planned_at (m ∷ ns) (d ∷ cs) (x ∷ es) zero n c e f g h =
    let first : m ≡ n = cc in
    let second : d ≡ c = cc in
    let third : x ≡ e = cc in λ i. Some (record { node = first i; closure = second i; object = (third i).object })
planned_at (m ∷ ns) (d ∷ cs) (x ∷ es) (suc k) n c e f g h = planned_at ns cs es k n c e f g h

pub planned_long : (ns : List Node) (cs : List Closure) (es : List Entry) → length cs ≡ length ns → length es ≡ length ns → length (planned_by ns cs es) ≡ length ns
planned_long [] cs es f g = refl
planned_long (n ∷ ns) [] es f g = absurd (omega (arith, f))
planned_long (n ∷ ns) (c ∷ cs) [] f g = absurd (omega (arith, g))
planned_long (n ∷ ns) (c ∷ cs) (e ∷ es) f g = let more = planned_long ns cs es (omega (arith, f)) (omega (arith, g)) in omega (arith, more)

-- a model of a plan, with what is known of it
pub record Known (clock : Clock) (nodes : List Node) (entries : List Entry) (i : ℕ) (own : Own) (object : Name) (h : ℤ) : Type 0 where
  pub model : Planned
  pub at : slice_get (planned nodes entries) i ≡ Some model
  pub closure_there : slice_get (closures nodes) i ≡ Some model.closure
  pub node_own : model.node.own ≡ own
  pub closure_own : own_of model.closure ≡ model.node.own
  pub its_object : model.object ≡ object
  pub its_horizon : horizon clock model.closure ≡ h

module _ (clock : Clock) (nodes : List Node) (hs : List ℤ) (all : hs ≡ map (horizon clock) (closures nodes)) (entries : List Entry) (i : ℕ) (n : Node) (inside : i < length nodes) (here : n ≡ get_or nodes i n)
    (e : Entry) (long : length entries ≡ length nodes) (entry : e ≡ get_or entries i e) where
  pub model_at : Known clock nodes entries i n.own e.object (get_or hs i (pos 0))
  model_at =
      let (c, there, own) = closure_at nodes i n (node_there nodes i n inside here) in
      let entry_there : slice_get entries i ≡ Some e = slice_get_read entries (length entries) i e refl (omega (arith, long, inside)) entry in
      record {
        model = record { node = n; closure = c; object = e.object };
        at = planned_at nodes (closures nodes) entries i n c e (node_there nodes i n inside here) there entry_there;
        closure_there = there;
        node_own = refl;
        closure_own = own;
        its_object = refl;
        its_horizon = sym (number_of (horizon clock) (closures nodes) hs all i c there);
      }

-- one model more
pub take_one : {X : Type 0} (xs : List X) (i : ℕ) (x : X) → slice_get xs i ≡ Some x → take (i + 1) xs ≡ take i xs ++ x ∷ []
take_one xs i x e = take_more xs i x (slice_get_within xs i x e) ∙ ap (λ y. take i xs ++ y ∷ []) (get_or_from_slice_get xs i x x e)

pub flat_more : {X Y : Type 0} (f : X → List Y) (xs : List X) (i : ℕ) (x : X) → slice_get xs i ≡ Some x → flat_map f (take (i + 1) xs) ≡ flat_map f (take i xs) ++ f x
flat_more f xs i x e = ap (flat_map f) (take_one xs i x e) ∙ flat_map-append f (take i xs) (x ∷ []) ∙ ap (λ l. flat_map f (take i xs) ++ l) (append-nil (f x))

module _ (clock : Clock) (b : Book) (r : Option Restate) (nodes : List Node) (hs : List ℤ) (all : hs ≡ map (horizon clock) (closures nodes)) (entries : List Entry) (i : ℕ) (n : Node) (inside : i < length nodes)
    (here : n ≡ get_or nodes i n) (e : Entry) (long : length entries ≡ length nodes) (entry : e ≡ get_or entries i e) (flags : List Bool) (named : flags ≡ map (restates r) (closures nodes)) where
  abbrev its_parts : Planned → List Forget
  its_parts p = again_of clock b r p p.node.own.kind

  pub again_more : (flag : Bool) → slice_get flags i ≡ Some flag → (object : Name) → object ≡ e.object → (h : ℤ) → h ≡ get_or hs i (pos 0) → (v : Option Version) → v ≡ version_of b object
      → (made new : List Forget) → made ≡ again clock b r (take i (planned nodes entries)) → new ≡ made ++ parts_again n.own object h flag r v → new ≡ again clock b r (take (i + 1) (planned nodes entries))
  again_more flag at object same_object h same_h v same_v made new was is =
      let k = model_at clock nodes hs all entries i n inside here e long entry in
      let p : Planned = k.model in
      let its_flag : flag ≡ restates r p.closure = known_of (restates r) (closures nodes) flags named i flag p.closure at k.closure_there in
      let objects : object ≡ p.object = same_object ∙ sym k.its_object in
      let seconds : h ≡ horizon clock p.closure = same_h ∙ sym k.its_horizon in
      let owns : n.own ≡ p.node.own = sym k.node_own in
      is
      ∙ (λ j. was j ++ parts_by (owns j) (objects j) (seconds j) (its_flag j) r ((same_v ∙ ap (version_of b) objects) j) (owns j).kind)
      ∙ ap (λ l. again clock b r (take i (planned nodes entries)) ++ l) (sym (parts_are b r p clock k.closure_own p.node.own.kind))
      ∙ sym (flat_more its_parts (planned nodes entries) i p k.at)

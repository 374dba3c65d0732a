-- Lists of changes that are made one after another, world by world.
use Rattle.std.proofs.Common.{◌≡◌, ℕ, ℤ, Bool, true, false, cond, List, [], ◌∷◌, ◌++◌, length, map, Some, None, refl, sym, ap, ◌∙◌, arith, append_assoc, length-append}
use Rattle.std.specs.Prelude.{◌&&◌, not}
use Rattle.std.specs.List.{flat_map}
use Rattle.std.specs.declared.option.Option.{Option}
use Rattle.std.proofs.lemmas.List.{append-nil}
use Rattle.mesh_base_values.specs.declared.kinds.Kind.{Kind}
use Rattle.mesh_base_values.specs.declared.kinds.Kind.TheVariants.{Full, View, Seed, Incremental}
use Rattle.mesh_base_values.specs.declared.values.Cell.{Cell}
use Rattle.mesh_base_values.specs.declared.values.Column.{Column}
use Rattle.mesh_base_values.specs.declared.values.Name.{Name}
use Rattle.mesh_base.specs.declared.plans.Due.{Due}
use Rattle.mesh_base.specs.declared.plans.Due.TheVariants.{Whole, Unit as OfUnit}
use Rattle.mesh_base.specs.Outputs.{columns_of}
use Rattle.mesh_base.specs.declared.definitions.Own.{Own}
use Rattle.mesh_house_book.specs.Changes.{make_table as table_made, make_view as view_made}
use Rattle.mesh_house.specs.declared.world.Change.TheVariants.{MakeTable, MakeView}
use Rattle.mesh_base_values.specs.declared.values.Pair.{Pair}
use Rattle.mesh_house_book.specs.declared.book.Book.{Book}
use Rattle.mesh_house.specs.declared.objects.Body.{Body}
use Rattle.mesh_house.specs.declared.objects.Body.TheVariants.{Rows, Stored}
use Rattle.mesh_house.specs.declared.objects.Object.{Object}
use Rattle.mesh_house.specs.declared.world.Change.{Change}
use Rattle.mesh_house.specs.declared.world.World.{World}
use Rattle.mesh_house.specs.House.{Told}
use Rattle.mesh_house.specs.Objects.{is_physical}
use Rattle.mesh_house.specs.Runs.{IsRun, IsPrefixRun}
use Rattle.mesh_house.specs.Step.{filled as filled_body, filled_at, run, step, with_book, with_object, written_at}
use Rattle.mesh_house.specs.World.{object_at}
use Rattle.mesh_house.proofs.Runs.{run-append}
use Rattle.mesh_spec_changes.specs.due.Plans.{Planned}
use Rattle.mesh_spec_changes.specs.Changes.{makes, parents_in, target_of}
use Rattle.mesh_exec_works.specs.Written.{written}

-- one list after another
pub run_then : (f g : List Change) (w : World) (k : ℕ) (b c : Told) → IsRun f w k b → IsRun g (run w f) b.calls c → IsRun (f ++ g) w k c
run_then f g w k b c p q = record {
  world = q.world ∙ ap Some (sym (run-append w f g));
  calls = omega (arith, q.calls, p.calls, length-append f g);
}

pub prefix_then : (f g rest : List Change) (w : World) (k : ℕ) (b c : Told) → IsRun f w k b → IsPrefixRun g (run w f) b.calls c → IsPrefixRun (f ++ (g ++ rest)) w k c
prefix_then f g rest w k b c p q = record {
  made = f ++ q.made;
  rest = q.rest ++ rest;
  parts = ap (λ (l : List Change). f ++ (l ++ rest)) q.parts ∙ regroup f q.made q.rest rest;
  world = q.world ∙ ap Some (sym (run-append w f q.made));
  sure = f ++ q.sure;
  tail = q.tail;
  cut = ap (λ (l : List Change). f ++ l) q.cut ∙ sym (append_assoc f q.sure q.tail);
  more = q.more;
  one = q.one;
  next = omega (arith, q.next, length-append q.rest rest);
  calls = omega (arith, q.calls, p.calls, length-append f q.made);
}
  where
    regroup : (x y z v : List Change) → x ++ ((y ++ z) ++ v) ≡ (x ++ y) ++ (z ++ v)
    regroup x y z v = simp append_assoc

-- a prefix of a list is one of a longer list
pub prefix_more : (g rest : List Change) (w : World) (k : ℕ) (c : Told) → IsPrefixRun g w k c → IsPrefixRun (g ++ rest) w k c
prefix_more g rest w k c q = record {
  made = q.made;
  rest = q.rest ++ rest;
  parts = ap (λ (l : List Change). l ++ rest) q.parts ∙ append_assoc q.made q.rest rest;
  world = q.world;
  sure = q.sure;
  tail = q.tail;
  cut = q.cut;
  more = q.more;
  one = q.one;
  next = omega (arith, q.next, length-append q.rest rest);
  calls = q.calls;
}

-- all of a list is a prefix of a longer one
pub whole_prefix : (f rest : List Change) (w : World) (k : ℕ) (c : Told) → IsRun f w k c → IsPrefixRun (f ++ rest) w k c
whole_prefix f rest w k c p = record {
  made = f;
  rest = rest;
  parts = refl;
  world = p.world;
  sure = f;
  tail = [];
  cut = sym (append-nil f);
  more = 0;
  one = omega arith;
  next = omega arith;
  calls = omega (arith, p.calls);
}

-- nothing of a list was made
pub none_made : (list : List Change) (w : World) (k : ℕ) (c : Told) → c.world ≡ Some w → c.calls ≡ k → IsPrefixRun list w k c
none_made list w k c world calls = record {
  made = [];
  rest = list;
  parts = refl;
  world = world;
  sure = [];
  tail = [];
  cut = refl;
  more = 0;
  one = omega arith;
  next = omega arith;
  calls = omega (arith, calls);
}

-- sources stay where an object is made or filled
either_sources : (b : Bool) (w : World) (c : Change) → (step w c).sources ≡ w.sources → (run w (cond b [] (c ∷ []))).sources ≡ w.sources
either_sources true w c h = refl
either_sources false w c h = h

make_sources : (b : Bool) (w : World) (o : Object) (k : Book) → (cond b (with_book (with_object w o) k) w).sources ≡ w.sources
make_sources true w o k = refl
make_sources false w o k = refl

table_step : (w : World) (name : Name) (columns : List Column) → (step w (MakeTable name columns)).sources ≡ w.sources
table_step w name columns = make_sources (is_physical name) w (record { name = name; columns = columns; body = Rows [] }) (table_made w.book name)

view_step : (w : World) (name : Name) (columns : List Column) (own : Own) (targets : List Pair) → (step w (MakeView name columns own targets)).sources ≡ w.sources
view_step w name columns own targets = make_sources (is_physical name) w (record { name = name; columns = columns; body = Stored own targets }) (view_made w.book name)

pub making_sources : (w : World) (all : List Planned) (m : Planned) (k : Kind) (made due : Bool) → (run w (makes made all m k due)).sources ≡ w.sources
making_sources w all m View made due =
    either_sources (made && not due) w (MakeView m.object (columns_of m.node.own) m.node.own (map target_of (parents_in all m))) (view_step w m.object (columns_of m.node.own) m.node.own (map target_of (parents_in all m)))
making_sources w all m Full made due = either_sources made w (MakeTable m.object (columns_of m.node.own)) (table_step w m.object (columns_of m.node.own))
making_sources w all m Seed made due = either_sources made w (MakeTable m.object (columns_of m.node.own)) (table_step w m.object (columns_of m.node.own))
making_sources w all m (Incremental time lookback) made due = either_sources made w (MakeTable m.object (columns_of m.node.own)) (table_step w m.object (columns_of m.node.own))

body_sources : (b : Body) (columns : List Column) (w : World) (name : Name) (rows : List (List Cell)) → (filled_body b columns w name rows).sources ≡ w.sources
body_sources (Rows old) columns w name rows = refl
body_sources (Stored own targets) columns w name rows = refl

filled_sources : (o : Option Object) (w : World) (name : Name) (rows : List (List Cell)) → (filled_at o w name rows).sources ≡ w.sources
filled_sources None w name rows = refl
filled_sources (Some o) w name rows = body_sources o.body o.columns w name rows

range_sources : (o : Option Object) (w : World) (time : List ℕ) (start end : ℤ) (rows : List (List Cell)) → (written_at o w time start end rows).sources ≡ w.sources
range_sources None w time start end rows = refl
range_sources (Some o) w time start end rows = refl

pub written_sources : (w : World) (m : Planned) (k : Kind) (d : Due) (rows : List (List Cell)) → (run w (written m k d rows)).sources ≡ w.sources
written_sources w m (Incremental time lookback) (OfUnit place start end) rows = range_sources (object_at w m.object) w time start end rows
written_sources w m (Incremental time lookback) (Whole place marks) rows = refl
written_sources w m View (Whole place marks) rows = refl
written_sources w m View (OfUnit place start end) rows = refl
written_sources w m Full (Whole place marks) rows = filled_sources (object_at w m.object) w m.object rows
written_sources w m Full (OfUnit place start end) rows = refl
written_sources w m Seed (Whole place marks) rows = filled_sources (object_at w m.object) w m.object rows
written_sources w m Seed (OfUnit place start end) rows = refl

pub each_sources : (f : Due → List Change) → ((w : World) (d : Due) → (run w (f d)).sources ≡ w.sources) → (w : World) (ds : List Due) → (run w (flat_map f ds)).sources ≡ w.sources
each_sources f h w [] = refl
each_sources f h w (d ∷ ds) = ap (λ (v : World). v.sources) (run-append w (f d) (flat_map f ds)) ∙ each_sources f h (run w (f d)) ds ∙ h w d

-- there are as many changes, whatever the rows are
pub written_many : (m : Planned) (k : Kind) (d : Due) (rows other : List (List Cell)) → length (written m k d rows) ≡ length (written m k d other)
written_many m (Incremental time lookback) (OfUnit place start end) rows other = refl
written_many m (Incremental time lookback) (Whole place marks) rows other = refl
written_many m View (Whole place marks) rows other = refl
written_many m View (OfUnit place start end) rows other = refl
written_many m Full (Whole place marks) rows other = refl
written_many m Full (OfUnit place start end) rows other = refl
written_many m Seed (Whole place marks) rows other = refl
written_many m Seed (OfUnit place start end) rows other = refl

pub each_many : (f g : Due → List Change) → ((d : Due) → length (f d) ≡ length (g d)) → (ds : List Due) → length (flat_map f ds) ≡ length (flat_map g ds)
each_many f g h [] = refl
each_many f g h (d ∷ ds) = omega (arith, h d, each_many f g h ds, length-append (f d) (flat_map f ds), length-append (g d) (flat_map g ds))

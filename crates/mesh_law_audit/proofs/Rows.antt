-- Over models that are up to date an audit's rows are those from scratch, perhaps in another order.
use Rattle.std.proofs.Common.{◌≡◌, Bool, true, false, cond, ◌||◌, List, [], ◌∷◌, length, map, Some, refl, sym, ap, ◌∙◌, subst, arith}
use Rattle.std.specs.List.{All, AllByRecursion}
use Rattle.std.specs.Option.{option_and_then, option_map}
use Rattle.std.specs.Ordering.{is_eq}
use Rattle.std.proofs.lemmas.Bool.{or_right as later}
use Rattle.std.proofs.lemmas.Cmp.{tied_itself}
use Rattle.std.proofs.lemmas.List.Elements.{All-cons, All-nil}
use Rattle.mesh_base_values.specs.Bag.{IsSameBag}
use Rattle.mesh_base_values.specs.NameOrder.{names_exact, names_total}
use Rattle.mesh_base_values.specs.Names.{name_cmp}
use Rattle.mesh_base_values.specs.declared.values.Cell.{Cell}
use Rattle.mesh_base_values.specs.declared.values.Name.{Name}
use Rattle.mesh_base_values.proofs.Equals.{equal_of}
use Rattle.mesh_base.specs.Outputs.{columns_of}
use Rattle.mesh_base.specs.declared.definitions.Own.{Own}
use Rattle.mesh_base.specs.declared.jobs.Input.{Input}
use Rattle.mesh_base.specs.declared.plans.Entry.{Entry}
use Rattle.mesh_base.specs.declared.queries.Query.{Query}
use Rattle.mesh_base.specs.declared.snapshots.Node.{Node}
use Rattle.mesh_base.specs.rules.Proper.{is_among}
use Rattle.mesh_spec_query.specs.Sel.{Sel}
use Rattle.mesh_spec_model.specs.Closures.{Closure, closures, own_of}
use Rattle.mesh_spec_model.specs.Horizons.{Clock, Shows}
use Rattle.mesh_spec_model.specs.Scratch.{from_scratch, no_bounds, table_of}
use Rattle.mesh_law_query.specs.Alike.{IsSameTable, named, names}
use Rattle.mesh_law_query.proofs.Bags.{sel_bag}
use Rattle.mesh_house.specs.declared.world.World.{World}
use Rattle.mesh_spec_changes.specs.due.Parts.{Parts}
use Rattle.mesh_spec_changes.specs.due.Plans.{Planned, planned, planned_by}
use Rattle.mesh_spec_changes.specs.shown.Shown.{each_there, object_rows}
use Rattle.mesh_spec_promise.specs.Current.{IsReadable}
use Rattle.mesh_spec_promise.specs.Sound.{Sound}
use Rattle.mesh_spec_promise.proofs.Tables.{closed_own}
use Rattle.mesh_spec_promise.proofs.Views.{IsOne, object_shown}
use Rattle.mesh_plan.proofs.Models.{closures_are, closures_long}
use Rattle.mesh_audit.specs.declared.audits.Audit.{Audit}
use Rattle.mesh_audit.specs.Audited.{Placed, asked, asked_tables, audit_rows, is_asked, placed, scratch_rows, scratch_table, shown_table}
use Rattle.mesh_law_audit.specs.UpToDate.{AreUpToDate}

-- what holds of each name that is among some holds of all of these
each_among : (P : Name → Type 0) (all : List Name) → ((name : Name) → is_among all name ≡ true → P name) → All P all
each_among P [] h = All-nil P
each_among P (n ∷ all) h =
    All-cons P n all (h n (ap (λ (b : Bool). b || is_among all n) (ap is_eq (tied_itself names_total n))))
    (each_among P all (λ name k. h name (later (is_eq (name_cmp n name)) (is_among all name) k)))

-- one table more on both sides
one_more : (name : Name) (t s : Input) → IsOne t s → (ts us : List Input) → IsSameTable (named ts name) (named us name) → IsSameTable (named (t ∷ ts) name) (named (s ∷ us) name)
one_more name t s one ts us same = go (is_eq (name_cmp t.name name)) (is_eq (name_cmp s.name name)) (ap (λ (n : Name). is_eq (name_cmp n name)) one.name)
  where
    go : (b c : Bool) → b ≡ c → IsSameTable (cond b (Some t) (named ts name)) (cond c (Some s) (named us name))
    go true true e = (one.columns, one.rows)
    go false false e = same
    go true false e = absurd (cc)
    go false true e = absurd (cc)

-- one that has another name
other_name : (name : Name) (s : Input) → is_eq (name_cmp s.name name) ≡ false → (ts us : List Input) → IsSameTable (named ts name) (named us name) → IsSameTable (named ts name) (named (s ∷ us) name)
other_name name s other ts us same = subst (λ (b : Bool). IsSameTable (named ts name) (cond b (Some s) (named us name))) (sym other) same

-- a name that isn't among some is none of them
apart : (all : List Name) (here gone : Name) → is_among all here ≡ true → is_among all gone ≡ false → is_eq (name_cmp gone here) ≡ false
apart all here gone yes_here no_gone = go (is_eq (name_cmp gone here)) refl
  where
    go : (b : Bool) → is_eq (name_cmp gone here) ≡ b → b ≡ false
    go false e = refl
    go true e = absurd (let clash : false ≡ true = sym no_gone ∙ ap (is_among all) (names_exact gone here (equal_of (name_cmp gone here) e)) ∙ yes_here in cc)

-- a planned model beside its object
abbrev pub place : Planned → Placed
place p = record { node = p.node; object = p.object }

placed_by : (ns : List Node) (cs : List Closure) (es : List Entry) → length cs ≡ length ns → map place (planned_by ns cs es) ≡ placed ns es
placed_by [] cs es e = refl
placed_by (n ∷ ns) [] es e = absurd (omega (arith, e))
placed_by (n ∷ ns) (c ∷ cs) [] e = refl
placed_by (n ∷ ns) (c ∷ cs) (x ∷ es) e = ap (λ (l : List Placed). record { node = n; object = x.object } ∷ l) (placed_by ns cs es (omega (arith, e)))

module _ (x : Parts) (w : World) (clock : Clock) (sound : Sound x w) (now : Shows clock w.book.moment) where
  -- the table of a model that is up to date
  record Table (p : Planned) : Type 0 where
    table : Input
    shown : shown_table w (place p) ≡ Some table
    same : IsOne table (scratch_table w.sources clock p.closure)
    named_so : (own_of p.closure).name ≡ p.node.own.name

  table_shown : (p : Planned) → IsReadable clock x w.book p → Table p
  table_shown p h =
      let s = h.done.snapshot in
      let rows = object_shown x w clock sound now s h.all in
      let own : own_of p.closure ≡ p.node.own = ap own_of (sym h.done.closure ∙ (closed_own w.book.snapshots s.rank s).1) ∙ h.done.own in
      record {
        table = table_of p.node.own rows.0;
        shown = ap (λ (n : Name). option_map (table_of p.node.own) (object_rows w n)) (sym h.done.object) ∙ ap (option_map (table_of p.node.own)) rows.1;
        same = record {
          name = ap (λ (o : Own). o.name) (sym own);
          columns = ap columns_of (sym own);
          rows = subst (λ (c : Closure). IsSameBag rows.0 (from_scratch w.sources clock c)) h.done.closure rows.2;
        };
        named_so = ap (λ (o : Own). o.name) own;
      }

  module _ (q : Query) where
    abbrev scratch : List Planned → List Input
    scratch ps = map (scratch_table w.sources clock) (map (λ (p : Planned). p.closure) ps)

    -- what a query finds of some models under the names that it has
    abbrev Read : List Planned → Type 0
    Read ps =
        (ts : List Input) × (asked_tables w (map place ps) q ≡ Some ts)
        × ((name : Name) → is_among (names q) name ≡ true → IsSameTable (named ts name) (named (scratch ps) name))

    one_read : (p : Planned) (ps : List Planned) → Table p → (b : Bool) → is_asked q (place p) ≡ b → Read ps → Read (p ∷ ps)
    one_read p ps t true is (ts, there, same) = (
      t.table ∷ ts,
      ap (λ (b : Bool). each_there (map (shown_table w) (cond b (place p ∷ asked (map place ps) q) (asked (map place ps) q)))) is
          ∙ (λ i. option_and_then (λ u. option_map (λ us. u ∷ us) (there i)) (t.shown i)),
      λ name k. one_more name t.table (scratch_table w.sources clock p.closure) t.same ts (scratch ps) (same name k),
    )
    one_read p ps t false is (ts, there, same) = (
      ts,
      ap (λ (b : Bool). each_there (map (shown_table w) (cond b (place p ∷ asked (map place ps) q) (asked (map place ps) q)))) is ∙ there,
      λ name k.
          other_name name (scratch_table w.sources clock p.closure) (ap (λ (n : Name). is_eq (name_cmp n name)) t.named_so ∙ apart (names q) name p.node.own.name k is) ts (scratch ps) (same name k),
    )

    read : (ps : List Planned) → AllByRecursion (IsReadable clock x w.book) ps → Read ps
    read [] h = ([], refl, λ name k. (refl, λ row. refl))
    read (p ∷ ps) h = one_read p ps (table_shown p h.0) (is_asked q (place p)) refl (read ps h.1)

-- a plan's models stand beside their objects
pub places : (nodes : List Node) (entries : List Entry) → map place (planned nodes entries) ≡ placed nodes entries
places nodes entries = placed_by nodes (closures nodes) entries (closures_long nodes)

-- an audit's rows
pub rows_found : (clock : Clock) (x : Parts) (w : World) (nodes : List Node) (entries : List Entry) → AreUpToDate clock x w nodes entries → (a : Audit)
    → (rows : List (List Cell)) × (audit_rows w (placed nodes entries) a ≡ Some rows) × IsSameBag rows (scratch_rows a nodes w.sources clock)
rows_found clock x w nodes entries h a =
    let q = a.query in
    let ps = planned nodes entries in
    let there = scratch x w clock h.sound h.now q ps in
    let (ts, shown, same) = read x w clock h.sound h.now q ps h.models in (
      Sel q ts no_bounds,
      ap (λ (l : List Placed). audit_rows w l a) (sym (places nodes entries)) ∙ ap (option_map (λ (tables : List Input). Sel q tables no_bounds)) shown,
      subst (λ (cs : List Closure). IsSameBag (Sel q ts no_bounds) (Sel q (map (scratch_table w.sources clock) cs) no_bounds)) (closures_are nodes entries h.as_many)
          (sel_bag q ts there (each_among (λ name. IsSameTable (named ts name) (named there name)) (names q) same) no_bounds),
    )

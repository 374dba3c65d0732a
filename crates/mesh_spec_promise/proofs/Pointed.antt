-- A world stays well kept where a view of a pending environment is pointed at the object of one of its entries.
use Rattle.std.proofs.Common.{◌≡◌, Bool, true, false, cond, Some, refl, sym, ◌∙◌, ap}
use Rattle.std.specs.Cmp.{Equal-is}
use Rattle.std.specs.Ordering.{is_eq}
use Rattle.mesh_list.proofs.Ascends.{ascends-placed}
use Rattle.mesh_base_values.specs.Names.{name_cmp}
use Rattle.mesh_base_values.specs.NameOrder.{names_exact, names_total}
use Rattle.mesh_base_values.specs.declared.kinds.Kind.{Kind}
use Rattle.mesh_base_values.specs.declared.kinds.Kind.TheVariants.{Full, View, Seed, Incremental}
use Rattle.mesh_base.specs.declared.snapshots.Env.{Env}
use Rattle.mesh_base.specs.declared.snapshots.Ref.{Ref}
use Rattle.mesh_base.specs.declared.snapshots.Snapshot.{Snapshot}
use Rattle.mesh_base_values.specs.declared.values.Name.{Name}
use Rattle.mesh_house_book.specs.declared.versions.Version.{Version}
use Rattle.mesh_house_book.specs.WellFormed.{snapshot_at}
use Rattle.mesh_base.specs.rules.Proper.{is_plain_schema}
use Rattle.mesh_spec_model.specs.Horizons.{Clock}
use Rattle.mesh_house.specs.declared.world.ViewOf.{ViewOf}
use Rattle.mesh_house.specs.declared.world.World.{World}
use Rattle.mesh_house.specs.declared.world.Change.TheVariants.{PointView}
use Rattle.mesh_house.specs.Step.{step}
use Rattle.mesh_house.specs.World.{view_name, view}
use Rattle.mesh_house.proofs.After.{view-pointed}
use Rattle.mesh_spec_changes.specs.Environments.{IsEnv, env_at, view_in}
use Rattle.mesh_spec_changes.specs.due.Parts.{Parts}
use Rattle.mesh_spec_promise.specs.Sound.{Sound, IsEntry, IsTyped, IsTableSound, AreObjectsSound, AreViewsSound}
use Rattle.mesh_spec_promise.proofs.Fits.{plain_ref}
use Rattle.mesh_spec_promise.proofs.ViewNames.{view_names}

module _ (x : Parts) (w : World) (sound : Sound x w) (e : Env) (known : IsEnv w.book e) (pending : e.pending ≡ true) (r : Ref) (entry : IsEntry e r) (s : Snapshot) (is : snapshot_at w.book.snapshots r ≡ Some s) where
  abbrev name_of : Name
  name_of = view_in e.name r.name

  abbrev after : World
  after = step w (PointView name_of s.object)

  by_view : {P : Type 0} (name target : Name) → view after name ≡ Some target → (name_of ≡ name → s.object ≡ target → P) → (view w name ≡ Some target → P) → P
  by_view {P} name target at f g = go (is_eq (name_cmp name_of name)) refl (sym (view-pointed w name_of s.object name) ∙ at)
    where
      go : (b : Bool) → is_eq (name_cmp name_of name) ≡ b → cond b (Some s.object) (view w name) ≡ Some target → P
      go true q h = f (names_exact name_of name ((Equal-is (name_cmp name_of name)).0 q)) (let same : s.object ≡ target = cc in same)
      go false q h = g h

  typed_after : IsTyped after
  typed_after =
      let t = sound.typed in
      let pointed : ViewOf = record { view = name_of; target = s.object } in
      record {
        sources = t.sources;
        plain = t.plain;
        objects = t.objects;
        physical = t.physical;
        views = ascends-placed name_cmp names_total view_name pointed w.views t.views;
        ranges = t.ranges;
        crons = t.crons;
      }

  table_after : (clock : Clock) (q : Snapshot) (v : Version) (kind : Kind) → IsTableSound clock x w q v kind → IsTableSound clock x after q v kind
  table_after clock q v (Incremental time lookback) h = h
  table_after clock q v Full h = h
  table_after clock q v Seed h = h
  table_after clock q v View h = tt

  objects_after : AreObjectsSound after
  objects_after =
      let o = sound.objects in
      record {
        named = o.named;
        bodies = o.bodies;
        made = λ q known' v at m. let i = o.made q known' v at m in record { object = i.object; stands = i.stands; columns = i.columns; targets = i.targets };
      }

  -- the view of an entry of another environment keeps its target
  others_stay : (f : Env) → IsEnv w.book f → f.pending ≡ false → (q : Ref) → is_plain_schema q.name.schema ≡ true → (t : Name) → view w (view_in f.name q.name) ≡ Some t → view after (view_in f.name q.name) ≡ Some t
  others_stay f kf final q plain t at = view-pointed w name_of s.object (view_in f.name q.name) ∙ go (is_eq (name_cmp name_of (view_in f.name q.name))) refl
    where
      go : (b : Bool) → is_eq (name_cmp name_of (view_in f.name q.name)) ≡ b → cond b (Some s.object) (view w (view_in f.name q.name)) ≡ Some t
      go false d = at
      go true d =
          let plain_r = plain_ref w.book r s sound.book.well_formed is in
          let names = view_names e.name f.name r.name q.name plain_r plain (names_exact name_of (view_in f.name q.name) ((Equal-is (name_cmp name_of (view_in f.name q.name))).0 d)) in
          let same : e ≡ f = let both : Some e ≡ Some f = sym known ∙ ap (env_at w.book) names.0 ∙ kf in cc in
          absurd (let clash : true ≡ false = sym pending ∙ ap (λ (g : Env). g.pending) same ∙ final in cc)

  views_after : AreViewsSound after
  views_after =
      let v = sound.views in
      record {
        views = λ name target at. by_view name target at
            (λ named object. record { env = e; known = known; entry = r; of = entry; snapshot = s; is = is; view = sym named; object = sym object })
            (λ before. let i = v.views name target before in record { env = i.env; known = i.known; entry = i.entry; of = i.of; snapshot = i.snapshot; is = i.is; view = i.view; object = i.object });
        entries = v.entries;
        parents = v.parents;
        previous = v.previous;
        final = λ f kf final q k t at.
            others_stay f kf final q (plain_ref w.book q t sound.book.well_formed at) t.object (v.final f kf final q k t at);
      }

  pub view_pointed : Sound x after
  view_pointed = record {
    typed = typed_after;
    book = sound.book;
    tables = λ clock shows q kq v at. table_after clock q v q.own.kind (sound.tables clock shows q kq v at);
    objects = objects_after;
    views = views_after;
  }

-- A world stays well kept where a view of a pending environment goes.
use Rattle.std.proofs.Common.{◌≡◌, Bool, true, false, cond, Some, None, refl, sym, ◌∙◌, ap}
use Rattle.std.specs.Cmp.{Equal-is}
use Rattle.std.specs.Ordering.{is_eq}
use Rattle.mesh_list.specs.Keyed.{found}
use Rattle.mesh_list.proofs.Standing.{ascends-without}
use Rattle.mesh_base_values.specs.Names.{name_cmp}
use Rattle.mesh_base_values.specs.NameOrder.{names_exact, names_total}
use Rattle.mesh_base_values.specs.declared.kinds.Kind.{Kind}
use Rattle.mesh_base_values.specs.declared.kinds.Kind.TheVariants.{Full, View, Seed, Incremental}
use Rattle.mesh_base_values.specs.declared.values.Name.{Name}
use Rattle.mesh_base.specs.declared.snapshots.Env.{Env}
use Rattle.mesh_base.specs.declared.snapshots.Ref.{Ref}
use Rattle.mesh_base.specs.declared.snapshots.Snapshot.{Snapshot}
use Rattle.mesh_house_book.specs.declared.versions.Version.{Version}
use Rattle.mesh_base.specs.rules.Proper.{is_plain_schema}
use Rattle.mesh_spec_model.specs.Horizons.{Clock}
use Rattle.mesh_house.specs.declared.world.World.{World}
use Rattle.mesh_house.specs.declared.world.Change.TheVariants.{DropView}
use Rattle.mesh_house.specs.Step.{step}
use Rattle.mesh_house.specs.World.{target_of, view_name, view}
use Rattle.mesh_spec_changes.specs.Environments.{IsEnv, env_at, view_in}
use Rattle.mesh_spec_changes.specs.due.Parts.{Parts}
use Rattle.mesh_spec_promise.specs.Sound.{Sound, IsTyped, IsTableSound, AreObjectsSound, AreViewsSound}
use Rattle.mesh_spec_promise.proofs.Fits.{plain_ref}
use Rattle.mesh_spec_promise.proofs.ViewNames.{view_names}
use Rattle.mesh_law_changes.proofs.Rising.{found-without}

module _ (x : Parts) (w : World) (sound : Sound x w) (e : Env) (known : IsEnv w.book e) (pending : e.pending ≡ true) (m : Name) (plain : is_plain_schema m.schema ≡ true) where
  abbrev gone : Name
  gone = view_in e.name m

  abbrev after : World
  after = step w (DropView gone)

  view_after : (name : Name) → view after name ≡ cond (is_eq (name_cmp gone name)) None (view w name)
  view_after name =
      ap target_of (found-without name_cmp names_total names_exact view_name gone name w.views sound.typed.views) ∙ go (is_eq (name_cmp gone name))
    where
      go : (b : Bool) → target_of (cond b None (found name_cmp view_name name w.views)) ≡ cond b None (view w name)
      go true = refl
      go false = refl

  was_there : (name target : Name) → view after name ≡ Some target → view w name ≡ Some target
  was_there name target at = go (is_eq (name_cmp gone name)) (sym (view_after name) ∙ at)
    where
      go : (b : Bool) → cond b None (view w name) ≡ Some target → view w name ≡ Some target
      go true h = absurd (let f : None ≡ Some target = h in cc)
      go false h = h

  -- the view of a finalized environment stays
  others_stay : (f : Env) → IsEnv w.book f → f.pending ≡ false → (q : Ref) → is_plain_schema q.name.schema ≡ true → (t : Name) → view w (view_in f.name q.name) ≡ Some t → view after (view_in f.name q.name) ≡ Some t
  others_stay f kf ended q its t at = view_after (view_in f.name q.name) ∙ go (is_eq (name_cmp gone (view_in f.name q.name))) refl
    where
      go : (b : Bool) → is_eq (name_cmp gone (view_in f.name q.name)) ≡ b → cond b None (view w (view_in f.name q.name)) ≡ Some t
      go false d = at
      go true d =
          let names = view_names e.name f.name m q.name plain its (names_exact gone (view_in f.name q.name) ((Equal-is (name_cmp gone (view_in f.name q.name))).0 d)) in
          let same : e ≡ f = let both : Some e ≡ Some f = sym known ∙ ap (env_at w.book) names.0 ∙ kf in cc in
          absurd (let clash : true ≡ false = sym pending ∙ ap (λ (g : Env). g.pending) same ∙ ended in cc)

  typed_after : IsTyped after
  typed_after =
      let t = sound.typed in
      record {
        sources = t.sources;
        plain = t.plain;
        objects = t.objects;
        physical = t.physical;
        views = ascends-without name_cmp names_total view_name gone w.views t.views;
        ranges = t.ranges;
        crons = t.crons;
      }

  table_after : (clock : Clock) (q : Snapshot) (v : Version) (kind : Kind) → IsTableSound clock x w q v kind → IsTableSound clock x after q v kind
  table_after clock q v (Incremental time lookback) h = h
  table_after clock q v Full h = h
  table_after clock q v Seed h = h
  table_after clock q v View h = tt

  objects_after : AreObjectsSound after
  objects_after =
      let o = sound.objects in
      record {
        named = o.named;
        bodies = o.bodies;
        made = λ q known' v at n. let i = o.made q known' v at n in record { object = i.object; stands = i.stands; columns = i.columns; targets = i.targets };
      }

  views_after : AreViewsSound after
  views_after =
      let v = sound.views in
      record {
        views = λ name target at. let i = v.views name target (was_there name target at) in record { env = i.env; known = i.known; entry = i.entry; of = i.of; snapshot = i.snapshot; is = i.is; view = i.view; object = i.object };
        entries = v.entries;
        parents = v.parents;
        previous = v.previous;
        final = λ f kf ended q k t at. others_stay f kf ended q (plain_ref w.book q t sound.book.well_formed at) t.object (v.final f kf ended q k t at);
      }

  pub view_dropped : Sound x after
  view_dropped = record {
    typed = typed_after;
    book = sound.book;
    tables = λ clock shows q kq v at. table_after clock q v q.own.kind (sound.tables clock shows q kq v at);
    objects = objects_after;
    views = views_after;
  }

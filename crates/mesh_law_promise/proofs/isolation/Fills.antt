-- What makes and fills a plan's models is about their objects alone.
use Rattle.std.proofs.Common.{◌≡◌, Bool, true, false, List, [], ◌∷◌, Some, None, inl, inr, refl, subst}
use Rattle.std.specs.List.{flat_map}
use Rattle.std.specs.Option.{option_map}
use Rattle.std.specs.declared.option.Option.{Option}
use Rattle.mesh_base_values.specs.declared.kinds.Kind.{Kind}
use Rattle.mesh_base_values.specs.declared.kinds.Kind.TheVariants.{Full, View, Seed, Incremental}
use Rattle.mesh_base_values.specs.declared.values.Name.{Name}
use Rattle.mesh_base.specs.declared.forgets.Forget.{Forget}
use Rattle.mesh_base.specs.declared.forgets.Forget.TheVariants.{Marks, Range}
use Rattle.mesh_base.specs.declared.jobs.Input.{Input}
use Rattle.mesh_house_book.specs.declared.book.Book.{Book}
use Rattle.mesh_spec_model.specs.Horizons.{Clock}
use Rattle.mesh_law_query.proofs.Has.{Has}
use Rattle.mesh_law_query.proofs.Lists.{Each, Each_imp}
use Rattle.mesh_house.specs.Step.{run}
use Rattle.mesh_house.specs.World.{version_of}
use Rattle.mesh_house.specs.declared.world.Change.{Change}
use Rattle.mesh_house.specs.declared.world.Change.TheVariants.{MakeTable, MakeView, RecordMarks, RecordRange, ReplaceRows, WriteRange}
use Rattle.mesh_house.specs.declared.world.World.{World}
use Rattle.mesh_spec_changes.specs.due.Dues.{due}
use Rattle.mesh_spec_changes.specs.due.Parts.{object_of}
use Rattle.mesh_spec_changes.specs.due.Plans.{Planned, is_made}
use Rattle.mesh_spec_changes.proofs.due.Later.{Each_both}
use Rattle.mesh_spec_changes.specs.Changes.{executes, fill, fills, followed, is_any, makes, tables_for}
use Rattle.mesh_law_changes.specs.along.Filled.{making_of}
use Rattle.mesh_law_steps.proofs.opens.Again.{due_object}

-- changes that make or fill this object, or record what it has
abbrev pub IsOfObject : Name → Change → Type 0
IsOfObject name (MakeTable object columns) = object ≡ name
IsOfObject name (MakeView object columns own targets) = object ≡ name
IsOfObject name (ReplaceRows object rows) = object ≡ name
IsOfObject name (WriteRange object time start end rows) = object ≡ name
IsOfObject name (RecordRange object start end) = object ≡ name
IsOfObject name (RecordMarks object marks) = object ≡ name
IsOfObject name other = ⊥

-- what holds of each item that a list has
pub each_has : {X : Type 0} (P : X → Type 0) (xs : List X) → ((x : X) → Has x xs → P x) → Each P xs
each_has P [] h = tt
each_has P (x ∷ xs) h = (h x (inl refl), each_has P xs (λ y k. h y (inr k)))

made_of : (all : List Planned) (p : Planned) (kind : Kind) (made is_due : Bool) → Each (IsOfObject p.object) (makes made all p kind is_due)
made_of all p View true true = (refl, tt)
made_of all p View true false = tt
made_of all p View false is_due = (refl, tt)
made_of all p Full true is_due = tt
made_of all p Full false is_due = (refl, tt)
made_of all p Seed true is_due = tt
made_of all p Seed false is_due = (refl, tt)
made_of all p (Incremental time lookback) true is_due = tt
made_of all p (Incremental time lookback) false is_due = (refl, tt)

-- what makes a model's object
pub making_its : (clock : Clock) (b : Book) (forgets : List Forget) (all : List Planned) (p : Planned) → Each (IsOfObject p.object) (making_of clock b forgets all p)
making_its clock b forgets all p = made_of all p p.node.own.kind (is_made (version_of b p.object)) (is_any (due clock b forgets p))

fill_its : (clock : Clock) (p : Planned) (kind : Kind) (tables : List Input) (q : Forget) → object_of q ≡ p.object → Each (IsOfObject p.object) (fill clock p kind tables q)
fill_its clock p (Incremental time lookback) tables (Range object start end) e = (e, (e, tt))
fill_its clock p (Incremental time lookback) tables (Marks object) e = tt
fill_its clock p View tables (Range object start end) e = tt
fill_its clock p View tables (Marks object) e = (e, tt)
fill_its clock p Full tables (Range object start end) e = tt
fill_its clock p Full tables (Marks object) e = (e, (e, tt))
fill_its clock p Seed tables (Range object start end) e = tt
fill_its clock p Seed tables (Marks object) e = (e, (e, tt))

all_fill : (clock : Clock) (p : Planned) (kind : Kind) (tables : List Input) (qs : List Forget) → ((q : Forget) → Has q qs → object_of q ≡ p.object)
    → Each (IsOfObject p.object) (flat_map (fill clock p kind tables) qs)
all_fill clock p kind tables [] h = tt
all_fill clock p kind tables (q ∷ qs) h =
    Each_both (IsOfObject p.object) (fill clock p kind tables q) (flat_map (fill clock p kind tables) qs)
    (fill_its clock p kind tables q (h q (inl refl))) (all_fill clock p kind tables qs (λ r k. h r (inr k)))

fills_of : (clock : Clock) (w : World) (all : List Planned) (p : Planned) (qs : List Forget) → ((q : Forget) → Has q qs → object_of q ≡ p.object) → (filled : List Change)
    → fills clock w all p qs ≡ Some filled → Each (IsOfObject p.object) filled
fills_of clock w all p [] h filled e = let none : [] ≡ filled = cc in subst (Each (IsOfObject p.object)) none tt
fills_of clock w all p (q ∷ qs) h filled e = go (tables_for w all p p.node.own.kind) e
  where
    go : (o : Option (List Input)) → option_map (λ tables. flat_map (fill clock p p.node.own.kind tables) (q ∷ qs)) o ≡ Some filled → Each (IsOfObject p.object) filled
    go None f = absurd (let clash : None ≡ Some filled = f in cc)
    go (Some tables) f =
        let same : flat_map (fill clock p p.node.own.kind tables) (q ∷ qs) ≡ filled = cc in
        subst (Each (IsOfObject p.object)) same (all_fill clock p p.node.own.kind tables (q ∷ qs) h)

-- what fills it
pub fills_its : (clock : Clock) (b : Book) (forgets : List Forget) (w : World) (all : List Planned) (p : Planned) (filled : List Change)
    → fills clock w all p (due clock b forgets p) ≡ Some filled → Each (IsOfObject p.object) filled
fills_its clock b forgets w all p filled e = fills_of clock w all p (due clock b forgets p) (λ q h. due_object clock b forgets p p.node.own.kind q h) filled e

-- what holds of these changes of all models, and of the last ones, holds of all
pub executes_each : (P : Change → Type 0) (clock : Clock) (b : Book) (forgets : List Forget) (all : List Planned) (last : List Change) → Each P last → (ps : List Planned)
    → ((p : Planned) → Has p ps → (c : Change) → IsOfObject p.object c → P c)
    → (w : World) → Each P (executes clock b forgets all last ps w)
executes_each P clock b forgets all last ends [] its w = ends
executes_each P clock b forgets all last ends (p ∷ ps) its w =
    Each_both P making (followed (run w making) (fills clock (run w making) all p (due clock b forgets p)) (executes clock b forgets all last ps))
    (each_of making (making_its clock b forgets all p))
    (go (fills clock (run w making) all p (due clock b forgets p)) refl (λ v. executes_each P clock b forgets all last ends ps (λ q h. its q (inr h)) v))
  where
    making : List Change
    making = making_of clock b forgets all p

    each_of : (cs : List Change) → Each (IsOfObject p.object) cs → Each P cs
    each_of cs h = Each_imp (IsOfObject p.object) P (its p (inl refl)) cs h

    go : (o : Option (List Change)) → fills clock (run w making) all p (due clock b forgets p) ≡ o → ((v : World) → Each P (executes clock b forgets all last ps v))
        → Each P (followed (run w making) o (executes clock b forgets all last ps))
    go None e more = tt
    go (Some filled) e more =
        Each_both P filled (executes clock b forgets all last ps (run (run w making) filled))
        (each_of filled (fills_its clock b forgets (run w making) all p filled e)) (more (run (run w making) filled))

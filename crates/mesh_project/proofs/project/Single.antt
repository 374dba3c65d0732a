-- Files mean one thing: one project, or one first fault. Only want of memory and a failing folder say nothing.
use Rattle.std.proofs.Common.{◌≡◌, ℕ, List, [], get_or, map, Result, Ok, Err, refl, sym, ◌∙◌, ap, subst}
use Rattle.std.proofs.lemmas.List.Elements.{Contains-get_or}
use Rattle.mesh_base_values.specs.declared.values.Name.{Name}
use Rattle.mesh_io.specs.declared.files.File.{File}
use Rattle.mesh_query_tokens.specs.declared.faults.FaultKind.{FaultKind}
use Rattle.mesh_base.specs.rules.Proper.{ProjectNodes}
use Rattle.mesh_project.specs.declared.order.readers.Ranked.{Ranked}
use Rattle.mesh_project.specs.declared.order.readers.Reader.{Reader}
use Rattle.mesh_project.specs.order.Order.{AreCyclic, IsOrder}
use Rattle.mesh_project.proofs.order.Uniqueness.{cycles_one, no_cycle, orders_one}
use Rattle.mesh_project_files.specs.declared.faults.LoadFault.{LoadFault}
use Rattle.mesh_project_files.specs.declared.faults.LoadFault.TheVariants.{Fault, Folder, Memory}
use Rattle.mesh_project_files.specs.declared.project.ProjectFiles.{ProjectFiles}
use Rattle.mesh_project_files.specs.Loading.{◌>>=◌, Gives}
use Rattle.mesh_project_files.proofs.Once.{IsNews, Once, given, once, once_behind}
use Rattle.mesh_project_files.proofs.Unique.{all_once}
use Rattle.mesh_project.specs.nodes.Nodes.{nodes_of}
use Rattle.mesh_project.specs.project.Project.{IsLoaded, IsMade, IsMeant, IsOrdered, checked, cycle, meaning, reader_of}

-- an order and a cycle don't go together
never_both : (models : List Reader) (order : List Ranked) (names : List Name) → IsOrder models order → AreCyclic models names → ⊥
never_both models order names is cyclic =
    let none : Name = record { schema = []; model = [] } in
    let one = (cyclic.exactly (get_or names 0 none)).0 (Contains-get_or names 0 none cyclic.some) in
    no_cycle models order is one.0 one.1 one.3

order_once : (models : List Reader) (a b : Result (List Ranked) LoadFault) → IsOrdered models a → IsOrdered models b → Once a b
order_once models (Ok x) (Ok y) h k n m = ap (λ z. Ok z) (orders_one models x y h k)
order_once models (Ok x) (Err (Fault file at kind)) h k n m = absurd (never_both models x k.0 h k.1)
order_once models (Ok x) (Err Folder) h k n m = absurd k
order_once models (Ok x) (Err Memory) h k n m = absurd m
order_once models (Err (Fault file at kind)) (Ok y) h k n m = absurd (never_both models y h.0 k h.1)
order_once models (Err (Fault file at kind)) (Err (Fault other to what)) h k n m = ap (λ z. Err z) (h.2 ∙ ap cycle (cycles_one models h.0 k.0 h.1 k.1) ∙ sym k.2)
order_once models (Err (Fault file at kind)) (Err Folder) h k n m = absurd k
order_once models (Err (Fault file at kind)) (Err Memory) h k n m = absurd m
order_once models (Err Folder) b h k n m = absurd h
order_once models (Err Memory) b h k n m = absurd n

module _ (files : ProjectFiles) where
  abbrev behind : Result (Unit {0}) LoadFault → Result (List Ranked) LoadFault → Result ProjectNodes LoadFault
  behind r order = r >>= λ alone. order >>= λ ranked. nodes_of files.sources files.models ranked >>= λ nodes. Ok (record { nodes = nodes })

  meaning_once : (g k : Result (List Ranked) LoadFault) → Once g k → Once (meaning files g) (meaning files k)
  meaning_once g k same = by_check (checked files)
    where
      by_check : (r : Result (Unit {0}) LoadFault) → Once (behind r g) (behind r k)
      by_check (Ok u) = once_behind (λ ranked. nodes_of files.sources files.models ranked >>= λ nodes. Ok (record { nodes = nodes })) g k same
      by_check (Err fault) = λ n m. refl

  pub meant_once : (a b : Result ProjectNodes LoadFault) → IsMeant files a → IsMeant files b → Once a b
  meant_once a b h k = once a b (meaning files h.0) (meaning files k.0) (meaning_once h.0 k.0 (order_once (map reader_of files.models) h.0 k.0 h.1 k.1)) h.2 k.2

-- whether a fault is news doesn't depend on what was asked for
news : (X Y : Type 0) (f : LoadFault) → IsNews {X = X} (Err f) → IsNews {X = Y} (Err f)
news X Y (Fault file at kind) n = tt
news X Y Folder n = absurd n
news X Y Memory n = absurd n

ends : (a : Result ProjectNodes LoadFault) (f : LoadFault) → IsNews a → Gives a (Err f) → IsNews {X = ProjectFiles} (Err f)
ends a f n g = news ProjectNodes ProjectFiles f (subst (λ z. IsNews z) (sym (given a (Err f) n g)) n)

made_once : (r s : Result ProjectFiles LoadFault) (a b : Result ProjectNodes LoadFault) → Once r s → IsMade r a → IsMade s b → Once a b
made_once (Ok p) (Ok q) a b same h k n m =
    let both : Ok p ≡ Ok q = same tt tt in
    let one : p ≡ q = cc in
    meant_once p a b h (subst (λ x. IsMeant x b) (sym one) k) n m
made_once (Ok p) (Err f) a b same h k n m = absurd (let wrong : Ok p ≡ Err f = same tt (ends b f m k) in cc)
made_once (Err f) (Ok q) a b same h k n m = absurd (let wrong : Err f ≡ Ok q = same (ends a f n h) tt in cc)
made_once (Err f) (Err g) a b same h k n m =
    let both : Err f ≡ Err g = same (ends a f n h) (ends b g m k) in
    let one : f ≡ g = cc in
    sym (given a (Err f) n h) ∙ ap (λ x. Err x) one ∙ given b (Err g) m k

pub loaded_once : (fs : List File) (dir : List ℕ) (a b : Result ProjectNodes LoadFault) → IsLoaded fs dir a → IsLoaded fs dir b → Once a b
loaded_once fs dir a b h k = made_once h.0 k.0 a b (all_once fs dir h.0 k.0 h.1 k.1) h.2 k.2

pub one_project : (fs : List File) (dir : List ℕ) (a b : ProjectNodes) → IsLoaded fs dir (Ok a) → IsLoaded fs dir (Ok b) → a ≡ b
one_project fs dir a b h k = let same : Ok a ≡ Ok b = loaded_once fs dir (Ok a) (Ok b) h k tt tt in cc

pub never_faulty : (fs : List File) (dir : List ℕ) (a : ProjectNodes) (file : List ℕ) (at : ℕ) (kind : FaultKind) → IsLoaded fs dir (Ok a) → IsLoaded fs dir (Err (Fault file at kind)) → ⊥
never_faulty fs dir a file at kind h k = let wrong : Ok a ≡ Err (Fault file at kind) = loaded_once fs dir (Ok a) (Err (Fault file at kind)) h k tt tt in cc

pub one_fault : (fs : List File) (dir : List ℕ) (file other : List ℕ) (at to : ℕ) (kind what : FaultKind) → IsLoaded fs dir (Err (Fault file at kind)) → IsLoaded fs dir (Err (Fault other to what))
    → (file ≡ other) × (at ≡ to) × (kind ≡ what)
one_fault fs dir file other at to kind what h k =
    let both : Err (Fault file at kind) ≡ Err (Fault other to what) = loaded_once fs dir (Err (Fault file at kind)) (Err (Fault other to what)) h k tt tt in
    (cc, cc, cc)

-- What is read of a body is what it says.
use Rattle.std.proofs.Common.{◌≡◌, Some, None, refl}
use Rattle.std.specs.Prelude.{◌↔◌, Result, Ok, Err, IfOk}
use Rattle.std.specs.declared.option.Option.{Option}
use Rattle.mesh_canon_words.specs.declared.fault.CanonFault.{CanonFault}
use Rattle.mesh_canon_words.specs.declared.fault.CanonFault.TheVariants.{NotCanonical, Memory}
use Rattle.mesh_canon_words.specs.Words.{Gives}
use Rattle.mesh_keep_house.specs.stored.Faults.{of_read}
use Rattle.mesh_keep_house.specs.stored.Loads.{Takes}

-- the reader finds only what fits and has the body, and finds it wherever there is one
pub takes : {A : Type 0} (Here : Type 0) (Fits Is : A → Type 0) (said : Option A) → ((x : A) → (said ≡ Some x) ↔ (Here × Fits x × Is x)) → Here → (result : Result A CanonFault) → IfOk result Is → IfOk result Fits → ((x : A) → Fits x → Is x → Gives (λ y. y) result (Some x)) → Takes said (of_read result)
takes Here Fits Is said exact here (Ok x) found fits only = (exact x).1 (here, fits, found)
takes Here Fits Is None exact here (Err NotCanonical) found fits only = refl
takes Here Fits Is (Some y) exact here (Err NotCanonical) found fits only =
    let h = (exact y).0 refl in
    let e : Some y ≡ None = only y h.1 h.2 in
    absurd (cc)
takes Here Fits Is said exact here (Err Memory) found fits only = tt

-- the same where everything fits
pub takes_any : {A : Type 0} (Here : Type 0) (Is : A → Type 0) (said : Option A) → ((x : A) → (said ≡ Some x) ↔ (Here × Is x)) → Here → (result : Result A CanonFault) → IfOk result Is → ((x : A) → Is x → Gives (λ y. y) result (Some x)) → Takes said (of_read result)
takes_any Here Is said exact here (Ok x) found only = (exact x).1 (here, found)
takes_any Here Is None exact here (Err NotCanonical) found only = refl
takes_any Here Is (Some y) exact here (Err NotCanonical) found only =
    let h = (exact y).0 refl in
    let e : Some y ≡ None = only y h.1 in
    absurd (cc)
takes_any Here Is said exact here (Err Memory) found only = tt

-- Why records aren't read.
use Rattle.std.specs.Prelude.{Result, Ok, Err}
use Rattle.mesh_canon_words.specs.declared.fault.CanonFault.{CanonFault}
use Rattle.mesh_canon_words.specs.declared.fault.CanonFault.TheVariants as canon
use Rattle.mesh_keep.specs.declared.keeper.KeepFail.{KeepFail}
use Rattle.mesh_keep.specs.declared.keeper.KeepFail.TheVariants as keep
use Rattle.mesh_keep_house.specs.declared.stored.fault.LoadFail.{LoadFail}
use Rattle.mesh_keep_house.specs.declared.stored.fault.LoadFail.TheVariants.{Failed, Memory, Unread}

-- a body that isn't one is a record that wasn't read
abbrev pub of_canon : CanonFault → LoadFail
of_canon canon.NotCanonical = Unread
of_canon canon.Memory = Memory

abbrev pub of_keep : KeepFail → LoadFail
of_keep keep.Failed = Failed
of_keep keep.Memory = Memory

-- what was read of a body, as what is read of a record
abbrev pub of_read : {A : Type 0} → Result A CanonFault → Result A LoadFail
of_read (Ok x) = Ok x
of_read (Err fault) = Err (of_canon fault)

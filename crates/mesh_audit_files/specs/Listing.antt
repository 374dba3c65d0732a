-- A listing as the code has it.
use Rattle.mesh_audit_files.specs.declared.listings.Listing.{Listing}
use Rattle.mesh_audit_files.specs.Listings.{Listed}

-- an entry with its model and file
abbrev pub plain : Listing → Listed
plain l = record { model = l.model.now; file = l.file.now; entry = l.entry }

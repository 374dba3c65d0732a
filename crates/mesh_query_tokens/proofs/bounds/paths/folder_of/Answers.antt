use Rattle.std.proofs.Common.{◌∙◌, sym, ap}
use borrow.Author.Tests.{eq-eqb, ne_eqb}
use Rattle.mesh_query_tokens.specs.bounds.Paths.{folder_of}
use Rattle.mesh_query_tokens.proofs.bounds.Folders.{folder_slash, folder_other}
use Rattle.mesh_query_tokens.proofs.bounds.paths.folder_of.Goals as goal

pub returns-then-byte-eq47 : goal.returns-then-byte-eq47
returns-then-byte-eq47 c =
    sym (folder_slash c.pop.new.self c.in-Some.byte (eq-eqb _ 47 c.if-byte-eq47.true)) ∙ ap folder_of (sym c.in-Some.ensures) ∙ c.loop-byte.invariant

pub loop-byte-preserved : goal.loop-byte-preserved
loop-byte-preserved c =
    sym (folder_other c.pop.new.self c.in-Some.byte (ne_eqb _ 47 c.if-byte-eq47.false)) ∙ ap folder_of (sym c.in-Some.ensures) ∙ c.loop-byte.invariant

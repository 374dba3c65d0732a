use Rattle.std.proofs.Common.{false, List, refl, sym, ◌∙◌, ap}
use Rattle.mesh_list.specs.Keyed.{exchanged}
use Rattle.mesh_base.specs.declared.snapshots.Ref.{Ref}
use Rattle.mesh_base_values.specs.Names.{text_cmp}
use Rattle.mesh_base.specs.Keys.{env_name}
use Rattle.mesh_house_book.specs.Changes.{as_final}
use Rattle.mesh_house_book.proofs.Exchanged.{env_absent, env_changed}
use Rattle.mesh_house_book.proofs.book.Book.finalize.Goals as goal

pub returns-in-None-clause-ok : goal.returns-in-None-clause-ok
returns-in-None-clause-ok c =
    env_absent as_final c.args.self.now c.args.name.now c.in_ok-blank.blank c.in_ok-blank.ensures c.exchange.new.self (sym c.exchange.ensures.value ∙ c.in-None.is) c.exchange.ensures.rest

pub returns-in-Some-clause-ok : goal.returns-in-Some-clause-ok
returns-in-Some-clause-ok c =
    env_changed as_final c.args.self.now c.args.name.now c.in_ok-blank.blank c.in_ok-blank.ensures c.in-Some.env c.exchange.new.self c.exchange-in-Some.new.self (sym c.exchange.ensures.value ∙ c.in-Some.is) refl c.exchange.ensures.rest
    (c.exchange-in-Some.ensures.rest ∙ ap (λ (r : List Ref). exchanged text_cmp env_name (record { name = c.in-Some.env.name; pending = false; list = c.in-Some.env.list; previous = r; expires = c.in-Some.env.expires }) c.exchange.new.self) c.new.ensures)

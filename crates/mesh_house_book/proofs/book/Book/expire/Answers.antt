use Rattle.std.proofs.Common.{refl, sym, ◌∙◌}
use Rattle.mesh_house_book.specs.Changes.{as_expired}
use Rattle.mesh_house_book.proofs.Exchanged.{env_absent, env_changed}
use Rattle.mesh_house_book.proofs.book.Book.expire.Goals as goal

pub returns-in-None-clause-ok : goal.returns-in-None-clause-ok
returns-in-None-clause-ok c =
    env_absent as_expired c.args.self.now c.args.name.now c.in_ok-blank.blank c.in_ok-blank.ensures c.exchange.new.self (sym c.exchange.ensures.value ∙ c.in-None.is) c.exchange.ensures.rest

pub returns-in-Some-clause-ok : goal.returns-in-Some-clause-ok
returns-in-Some-clause-ok c =
    env_changed as_expired c.args.self.now c.args.name.now c.in_ok-blank.blank c.in_ok-blank.ensures c.in-Some.env c.exchange.new.self c.exchange-in-Some.new.self (sym c.exchange.ensures.value ∙ c.in-Some.is) refl c.exchange.ensures.rest
    (c.exchange-in-Some.ensures.rest)

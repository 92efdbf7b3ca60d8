use Rattle.std.proofs.Common.{sym}
use Rattle.capnp_structs.proofs.NamesMet.{name_met}
use Rattle.capnp_structs.proofs.names.is_first.Goals as goal

pub returns-clause-met : goal.returns-clause-met
returns-clause-met c = name_met c.args.met.now c.insert.new.self c.args.brand c.args.name.now c.in_ok-insert.ensures.updates (sym c.if-contains_key.ensures)

use Rattle.std.proofs.Common.{sym}
use Rattle.capnp_structs.proofs.NamesMet.{name_met}
use Rattle.capnp_versions.proofs.Indexed.{met_before}
use Rattle.capnp_versions.proofs.names.meet.Goals as goal

pub returns-then-contains_key-clause-met : goal.returns-then-contains_key-clause-met
returns-then-contains_key-clause-met c = met_before c.args.index.now c.args.brand c.args.name.now (sym c.if-contains_key.ensures)

pub returns-clause-met : goal.returns-clause-met
returns-clause-met c = name_met c.args.index.now c.insert.new.self c.args.brand c.args.name.now c.in_ok-insert.ensures.updates (sym c.if-contains_key.ensures)

-- Whether the set is built in or in a file decides; what the show of either promises of its
-- refusals, kind by kind, is what the refused task says.
use Rattle.std.proofs.Common.{rules}
use Rattle.capnp_show_engine.proofs.Outcomes.{all_five, all_four}
use Rattle.capnp_show_engine.proofs.command.show_asked.Goals as goal

pub returns-in-BuiltIn-clause-refused : goal.returns-in-BuiltIn-clause-refused
returns-in-BuiltIn-clause-refused g c =
    rw c.in-BuiltIn.is (all_four _ _ _ _ c.show_built_in.result (search rules) c.show_built_in.ensures.refused c.show_built_in.ensures.read_failed c.show_built_in.ensures.write_failed c.show_built_in.ensures.beginning)

pub returns-in-InFile-clause-refused : goal.returns-in-InFile-clause-refused
returns-in-InFile-clause-refused g c =
    rw c.in-InFile.is (all_five _ _ _ _ c.show_with_file.result c.show_with_file.ensures.refused c.show_with_file.ensures.read_failed c.show_with_file.ensures.write_failed c.show_with_file.ensures.beginning c.show_with_file.ensures.first)

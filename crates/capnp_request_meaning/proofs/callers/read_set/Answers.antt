-- The law, at what was read.
use Rattle.capnp_schema.specs.Schema.{seen_schemas}
use Rattle.capnp_request.specs.Handles.{root_record}
use Rattle.capnp_request.specs.StructsSeen.{seen_notes}
use Rattle.capnp_request_meaning.proofs.callers.read_set.Goals as goal

pub returns-clause-meant : goal.returns-clause-meant
returns-clause-meant c =
    c.set_means_its_request.ensures.records (root_record c.args.reader) c.args.strict (seen_schemas c.in_ok-made.made.nodes.items c.in_ok-made.made.brands.items c.in_ok-made.made.enums.items) (seen_notes c.in_ok-made.made.notes.items) c.in_ok-made.ensures.read

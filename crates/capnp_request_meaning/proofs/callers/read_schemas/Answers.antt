-- What is found in the set that was read, which is the checked one.
use Rattle.std.proofs.Common.{subst, sym}
use Rattle.capnp_schema.specs.Schema.{seen_schemas}
use Rattle.capnp_request.specs.Handles.{root_record}
use Rattle.capnp_request.specs.StructsSeen.{seen_notes}
use Rattle.capnp_request_meaning.specs.Laws.{FindsRequested}
use Rattle.capnp_request_meaning.proofs.RecordsFound.{finds_requested}
use Rattle.capnp_request_meaning.proofs.callers.read_schemas.Goals as goal

pub returns : goal.returns
returns c = record {
  found = subst (FindsRequested (root_record c.args.reader)) (sym c.in_ok-schemas.ensures.set)
      (finds_requested (root_record c.args.reader) c.args.strict (seen_schemas c.in_ok-made.made.nodes.items c.in_ok-made.made.brands.items c.in_ok-made.made.enums.items) (seen_notes c.in_ok-made.made.notes.items) c.in_ok-made.ensures.meant c.in_ok-schemas.ensures.accepted);
}

-- The node, its display name and the name by this are found in this order, and the first failure refuses the entry.
-- The entry goes before the holders.
use Rattle.std.proofs.Common.{◌∷◌, map}
use Rattle.std.proofs.lemmas.Result.{err_from_is_err_and}
use Rattle.capnp_schema.specs.Schema.{seen_node}
use Rattle.capnp_request.specs.Steps.Seen.{record_seen}
use Rattle.capnp_request.specs.Steps.EntriesSeen.{seen_entry}
use Rattle.capnp_request.specs.Names.{dotted_of}
use Rattle.capnp_request.specs.Steps.NamesMade.{texts}
use Rattle.capnp_request.specs.Steps.Nodes.{nodes_of}
use Rattle.capnp_request.specs.Reading.{node_said}
use Rattle.capnp_request.proofs.OrderMade.{entry_missing, entry_named, entry_unnamed, entry_unread}
use Rattle.capnp_request.proofs.names.Names.struct_name.Goals as goal

pub returns-in_err-node-clause-refused : goal.returns-in_err-node-clause-refused
returns-in_err-node-clause-refused c = λ hs h.
    let p = err_from_is_err_and c.from_residual.result c.from_residual.ensures.1 in
    rw (p.1, p.2) (λ is. entry_missing (nodes_of c.args.nodes.now) (map seen_node c.args.named.structs.now) (texts c.args.named.enums.now) hs (seen_entry c.args.entry.now) _ c.in_err-node.ensures.missing c.in_err-node.ensures.kinds)

pub returns-in_err-display-clause-refused : goal.returns-in_err-display-clause-refused
returns-in_err-display-clause-refused c = λ hs h.
    let p = err_from_is_err_and c.from_residual-in_err-display.result c.from_residual-in_err-display.ensures.1 in
    rw (p.1, p.2) (λ is. entry_unread (nodes_of c.args.nodes.now) (map seen_node c.args.named.structs.now) (texts c.args.named.enums.now) hs (seen_entry c.args.entry.now) (node_said (record_seen c.in_ok-node.node)) c.in_ok-node.ensures.read _ c.in_err-display.ensures.refused)

pub returns-in_err-name-clause-refused : goal.returns-in_err-name-clause-refused
returns-in_err-name-clause-refused c = λ hs h.
    let p = err_from_is_err_and c.from_residual-in_err-name.result c.from_residual-in_err-name.ensures.1 in
    rw (p.1, p.2) (λ is. entry_unnamed (nodes_of c.args.nodes.now) (map seen_node c.args.named.structs.now) (texts c.args.named.enums.now) hs (seen_entry c.args.entry.now) (node_said (record_seen c.in_ok-node.node)) c.in_ok-node.ensures.read _ c.in_ok-display.ensures.read _ (c.in_err-name.ensures.refused hs h is))

pub returns-clause-done : goal.returns-clause-done
returns-clause-done c = λ hs h. (
  record { id = c.args.entry.now.id; dotted = dotted_of c.in_ok-display.display.now } ∷ hs,
  c.in_ok-name.ensures.held hs h,
  entry_named (nodes_of c.args.nodes.now) (map seen_node c.args.named.structs.now) (texts c.args.named.enums.now) hs (seen_entry c.args.entry.now) (node_said (record_seen c.in_ok-node.node)) c.in_ok-node.ensures.read _ c.in_ok-display.ensures.read _ (c.in_ok-name.ensures.read hs h),
)

-- The map has the first node of each id among those before the index, and one more node keeps it so.
-- Past the last it is the map of all that is read.
use Rattle.std.proofs.Common.{arith, ap, sym, ◌∙◌, ◌≡◌, List, length, Ok}
use Rattle.capnp_request.specs.Steps.Seen.{record_seen}
use Rattle.capnp_request.specs.Steps.Nodes.{nodes_of}
use Rattle.capnp_request.specs.Reading.{nodes_in}
use Rattle.capnp_request.specs.Scopes.{node_named}
use Rattle.capnp_request.specs.Terms.{SchemaNode}
use Rattle.capnp_request.proofs.NodesListed.{all_read, node_unread, nodes_made, nodes_read, nodes_unread, one_read, section_record}
use Rattle.capnp_request.proofs.NodesRead.{id_read}
use Rattle.capnp_request.proofs.Refused.{err_if}
use Rattle.capnp_request.proofs.schema_nodes.SchemaNodes.of_request.Goals as goal

pub returns-in_err-listed-clause-refused : goal.returns-in_err-listed-clause-refused
returns-in_err-listed-clause-refused c = err_if _ c.from_residual.result _ c.from_residual.ensures.1 (λ n. nodes_unread (record_seen c.args.request) _ c.in_err-listed.ensures.refused)

pub returns-in_err-reader-clause-refused : goal.returns-in_err-reader-clause-refused
returns-in_err-reader-clause-refused c =
    err_if _ c.from_residual-in_err-reader.result _ c.from_residual-in_err-reader.ensures.1 (λ n.
    nodes_read (record_seen c.args.request) c.in_ok-listed.listed c.in_ok-listed.ensures.read
    ∙ node_unread c.in_ok-listed.listed c.loop-index.by_id c.loop-index.index c.loop-index.invariant c.in_ok-listed.ensures.elements (omega arith) _ c.in_err-reader.ensures.refused)

pub loop-index-preserved : goal.loop-index-preserved
loop-index-preserved c =
    one_read c.in_ok-listed.listed c.loop-index.by_id c.loop-index.index c.loop-index.invariant c.in_ok-listed.ensures.elements (omega arith) (record_seen c.in_ok-reader.reader) c.in_ok-reader.ensures.read
    c.u64_at-id.result (id_read (record_seen c.in_ok-reader.reader) c.u64_at-id.result c.u64_at-id.ensures) c.keep_first.new.by_id c.in_ok-reader.reader.sections c.in_ok-keep_first.ensures.kept
    (section_record c.in_ok-reader.reader c.in_ok-reader.ensures.record)

pub returns-clause-nodes : goal.returns-clause-nodes
unfolding nodes_of
returns-clause-nodes c =
    let read : nodes_in (record_seen c.args.request) ≡ Ok c.loop-index.invariant.nodes = nodes_read (record_seen c.args.request) c.in_ok-listed.listed c.in_ok-listed.ensures.read ∙ all_read c.in_ok-listed.listed c.loop-index.by_id c.loop-index.index c.loop-index.invariant (omega arith) in
    record {
      read = read ∙ ap (λ (ns : List SchemaNode). Ok ns) (sym (nodes_made (record_seen c.args.request) _ read));
      count = let few : c.len-count.result ≡ c.loop-index.index = omega (arith, c.len-count.ensures) in few ∙ (sym c.loop-index.invariant.count ∙ ap length (sym (nodes_made (record_seen c.args.request) _ read)));
      by_id = λ id. c.loop-index.invariant.by_id id ∙ ap (λ (ns : List SchemaNode). node_named ns id) (sym (nodes_made (record_seen c.args.request) _ read));
    }

pub returns-clause-read : goal.returns-clause-read
unfolding nodes_of
returns-clause-read c =
    let read : nodes_in (record_seen c.args.request) ≡ Ok c.loop-index.invariant.nodes = nodes_read (record_seen c.args.request) c.in_ok-listed.listed c.in_ok-listed.ensures.read ∙ all_read c.in_ok-listed.listed c.loop-index.by_id c.loop-index.index c.loop-index.invariant (omega arith) in
    read ∙ ap (λ (ns : List SchemaNode). Ok ns) (sym (nodes_made (record_seen c.args.request) _ read))

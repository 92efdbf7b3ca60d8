-- The scopes gathered, before those from this id outwards, are all of the node's.
-- The way ends at an id of no node, at one met before, or without a step left.
use Rattle.std.proofs.Common.{ℕ, arith, ap, sym, ◌-◌, ◌+◌, ◌∙◌, Ok}
use Rattle.capnp_request.specs.Steps.Seen.{record_seen}
use Rattle.capnp_request.specs.Steps.Nodes.{nodes_of}
use Rattle.capnp_request.specs.Reading.{node_said}
use Rattle.capnp_request.proofs.NodesRead.{parameters_read, parameters_unread, scope_read}
use Rattle.capnp_request.proofs.Refused.{err_if}
use Rattle.capnp_request.proofs.ScopesRead.{all_scopes, met_again, no_node, one_out, parameters_unread as scope_unread}
use Rattle.capnp_request.proofs.schema_nodes.SchemaNodes.generic_scopes.Goals as goal

pub returns-in_default-clause-read : goal.returns-in_default-clause-read
returns-in_default-clause-read c = no_node (nodes_of c.args.self.now) c.args.id c.loop-distance.scopes.items c.loop-distance.way (c.args.self.now.count - c.loop-distance.distance) c.loop-distance.distance c.loop-distance.id c.loop-distance.invariant c.in_default.ensures.read

pub returns-then-not-is_new-clause-read : goal.returns-then-not-is_new-clause-read
returns-then-not-is_new-clause-read c = met_again (nodes_of c.args.self.now) c.args.id c.loop-distance.scopes.items c.loop-distance.way (c.args.self.now.count - c.loop-distance.distance) c.loop-distance.distance c.loop-distance.id c.loop-distance.invariant c.in_ok-is_new.is_new (c.in_ok-is_new.ensures.new c.loop-distance.invariant.ids c.loop-distance.invariant.are_met) c.if-not-is_new.true

pub returns-in_err-listed-clause-refused : goal.returns-in_err-listed-clause-refused
returns-in_err-listed-clause-refused c =
    err_if _ c.from_residual-in_err-listed.result _ c.from_residual-in_err-listed.ensures.1 (λ n.
    scope_unread (nodes_of c.args.self.now) c.args.id c.loop-distance.scopes.items c.loop-distance.way (c.args.self.now.count - c.loop-distance.distance) c.loop-distance.distance c.loop-distance.id c.loop-distance.invariant (node_said (record_seen c.in-Some.node)) c.in-Some.ensures.read c.in_ok-is_new.is_new (c.in_ok-is_new.ensures.new c.loop-distance.invariant.ids c.loop-distance.invariant.are_met) c.if-not-is_new.false (c.args.self.now.count - (c.loop-distance.distance + 1)) (omega arith) _
    (parameters_unread (record_seen c.in-Some.node) _ c.in_err-listed.ensures.refused))

pub loop-distance-preserved : goal.loop-distance-preserved
loop-distance-preserved c =
    one_out (nodes_of c.args.self.now) c.args.id c.loop-distance.scopes.items c.loop-distance.way (c.args.self.now.count - c.loop-distance.distance) c.loop-distance.distance c.loop-distance.id c.loop-distance.invariant (node_said (record_seen c.in-Some.node)) c.in-Some.ensures.read c.in_ok-is_new.is_new (c.in_ok-is_new.ensures.new c.loop-distance.invariant.ids c.loop-distance.invariant.are_met) c.if-not-is_new.false (c.args.self.now.count - (c.loop-distance.distance + 1)) (omega arith)
    c.meet.new.self (c.in_ok-is_new.ensures.met c.loop-distance.invariant.ids c.loop-distance.invariant.are_met) c.u64_at-id.result (scope_read (record_seen c.in-Some.node) c.u64_at-id.result c.u64_at-id.ensures)
    c.len.result (parameters_read (record_seen c.in-Some.node) c.in_ok-listed.listed c.in_ok-listed.ensures.read ∙ ap (λ (n : ℕ). Ok n) (sym c.len.ensures))
    c.add_scope.new.scopes.items c.in_ok-add_scope.ensures.added

pub returns-clause-read : goal.returns-clause-read
returns-clause-read c = all_scopes (nodes_of c.args.self.now) c.args.id c.loop-distance.scopes.items c.loop-distance.way (c.args.self.now.count - c.loop-distance.distance) c.loop-distance.distance c.loop-distance.id c.loop-distance.invariant (omega arith)

-- The node is a struct and no group: its scopes are taken with nothing bound, and then it gets a number.
-- Either's refusal is the root's.
use Rattle.std.proofs.Common.{◌≡◌, rules, true}
use Rattle.std.proofs.lemmas.Result.{err_from_is_err_and}
use Rattle.capnp_request.specs.Steps.Seen.{record_seen}
use Rattle.capnp_request.specs.Steps.Done.{between}
use Rattle.capnp_request.specs.Steps.Nodes.{nodes_of}
use Rattle.capnp_request.specs.Reading.{node_said}
use Rattle.capnp_request.specs.Types.{is_root}
use Rattle.capnp_request.specs.Work.{nothing_seen}
use Rattle.capnp_request.proofs.RootsNamed.{root_numbered, root_unnumbered, root_unscoped}
use Rattle.capnp_request.proofs.roots.number_root.Goals as goal

pub returns-in_err-scopes-clause-done : goal.returns-in_err-scopes-clause-done
returns-in_err-scopes-clause-done c =
    let is : is_root (node_said (record_seen c.args.node)).kind ≡ true = search rules in
    let p = err_from_is_err_and c.from_residual.result c.from_residual.ensures.1 in
    rw (p.1, p.2) (λ h. root_unscoped (nodes_of c.args.context.nodes.now) c.args.context.strict c.args.id _ (between c.args.entries.now) is _ (c.in_err-scopes.ensures.refused h))

pub returns-in_err-_number-clause-done : goal.returns-in_err-_number-clause-done
returns-in_err-_number-clause-done c =
    let is : is_root (node_said (record_seen c.args.node)).kind ≡ true = search rules in
    let p = err_from_is_err_and c.from_residual-in_err-_number.result c.from_residual-in_err-_number.ensures.1 in
    rw (p.1, p.2) (λ h. root_unnumbered (nodes_of c.args.context.nodes.now) c.args.context.strict c.args.id _ (between c.args.entries.now) is _ c.in_ok-scopes.ensures.read _ (c.in_err-_number.ensures.refused h nothing_seen))

pub returns-clause-done : goal.returns-clause-done
returns-clause-done c =
    let is : is_root (node_said (record_seen c.args.node)).kind ≡ true = search rules in
    root_numbered (nodes_of c.args.context.nodes.now) c.args.context.strict c.args.id _ (between c.args.entries.now) is _ c.in_ok-scopes.ensures.read _ _ (c.in_ok-_number.ensures.done nothing_seen)

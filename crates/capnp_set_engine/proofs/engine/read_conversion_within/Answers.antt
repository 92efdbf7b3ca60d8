-- The message's root is entered as the struct that a request is read from, so what is converted is the request.
-- Each refusal is of stream, root or request, or its lists are too large; none is a device's.
use Rattle.std.proofs.Common.{sym}
use Rattle.std.proofs.lemmas.Result.{err_from_is_err_and}
use Rattle.capnp_wire.specs.Message.{received_tree}
use Rattle.capnp_wire.specs.Standing.{levels_of, struct_of, tree_of}
use Rattle.capnp_sets.specs.Facts.RootRead.{root_entered}
use Rattle.capnp_set_engine.proofs.Made.{conversion_is, each_answer, each_refusal, each_refusal_of, request_seen, unread_within}
use Rattle.capnp_set_engine.proofs.Refusals.{of_request, root_of_read, stream_of_read}
use Rattle.capnp_set_engine.proofs.engine.read_conversion_within.Goals as goal

pub returns-clause-converted : goal.returns-clause-converted
returns-clause-converted c =
    let root = root_entered c.args.bytes.now (received_tree c.in_ok-reader.reader) (tree_of c.get_root.result) (levels_of c.get_root.result) (struct_of c.in_ok-root.root) c.in_ok-reader.ensures c.get_root.ensures.tree c.get_root.ensures.levels c.in_ok-root.ensures.read in
    let seen = request_seen c.in_ok-root.root (levels_of c.get_root.result) c.in_ok-root.ensures.levels c.get_root.ensures.levels in
    each_answer c.read_request_within.result (λ made h. record { root = struct_of c.in_ok-root.root; request = sym root; converted = conversion_is c.args.strict _ (struct_of c.in_ok-root.root) _ seen h }) c.read_request_within.ensures.read

pub returns-clause-refused : goal.returns-clause-refused
returns-clause-refused c =
    let root = root_entered c.args.bytes.now (received_tree c.in_ok-reader.reader) (tree_of c.get_root.result) (levels_of c.get_root.result) (struct_of c.in_ok-root.root) c.in_ok-reader.ensures c.get_root.ensures.tree c.get_root.ensures.levels c.in_ok-root.ensures.read in
    let seen = request_seen c.in_ok-root.root (levels_of c.get_root.result) c.in_ok-root.ensures.levels c.get_root.ensures.levels in
    each_refusal_of c.read_request_within.result (λ e h k m. unread_within c.args.limit c.args.strict c.args.bytes.now _ (struct_of c.in_ok-root.root) e.kind seen (sym root) k (h m)) c.read_request_within.ensures.refused c.read_request_within.ensures.kinds

pub returns-clause-of_no_device : goal.returns-clause-of_no_device
returns-clause-of_no_device c = each_refusal c.read_request_within.result (λ e h. of_request c.args.strict e.kind h) c.read_request_within.ensures.kinds

pub returns-in_err-root-clause-of_no_device : goal.returns-in_err-root-clause-of_no_device
returns-in_err-root-clause-of_no_device c =
    let p = err_from_is_err_and c.from_residual-in_err-root.result c.from_residual-in_err-root.ensures.1 in rw (p.1, p.2)
    (root_of_read (tree_of c.get_root.result) (levels_of c.get_root.result) _ c.get_root.ensures.levels c.in_err-root.ensures.read)

pub returns-in_err-reader-clause-of_no_device : goal.returns-in_err-reader-clause-of_no_device
returns-in_err-reader-clause-of_no_device c =
    let p = err_from_is_err_and c.from_residual.result c.from_residual.ensures.1 in rw (p.1, p.2)
    (stream_of_read c.args.bytes.now _ c.in_err-reader.ensures)

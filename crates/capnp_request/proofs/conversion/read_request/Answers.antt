-- The nodes are read, the roots numbered from no entries, and all is made from these.
-- Whichever is refused refuses the conversion.
use Rattle.std.proofs.Common.{◌∙◌, ap, sym}
use Rattle.std.proofs.lemmas.Result.{err_from_is_err_and}
use Rattle.capnp_request.specs.Handles.{root_record}
use Rattle.capnp_request.specs.Steps.Nodes.{nodes_of}
use Rattle.capnp_request.specs.Order.{name_files, result_of}
use Rattle.capnp_request.specs.Parts.{request_read_at}
use Rattle.capnp_request.specs.Reading.{id_said, nodes_in, whole_list}
use Rattle.capnp_request.specs.Work.{nothing_seen}
use Rattle.capnp_request.specs.Steps.Work.{named_with}
use Rattle.capnp_request.proofs.OrderMade.{nodes_refused, roots_named, roots_refused}
use Rattle.capnp_request.specs.Steps.Seen.{record_seen}
use Rattle.capnp_request.proofs.conversion.read_request.Goals as goal

pub returns-in_err-nodes-clause-refused : goal.returns-in_err-nodes-clause-refused
unfolding record_seen
returns-in_err-nodes-clause-refused c =
    let p = err_from_is_err_and c.from_residual.result c.from_residual.ensures.1 in
    rw (p.1, p.2) (λ is. nodes_refused (whole_list 1 (id_said 1) (request_read_at 0 1 (root_record c.args.reader))) (nodes_in (root_record c.args.reader)) c.args.strict _ (c.in_err-nodes.ensures.refused is))

pub returns-in_err-number_roots-clause-refused : goal.returns-in_err-number_roots-clause-refused
unfolding record_seen
returns-in_err-number_roots-clause-refused c =
    let p = err_from_is_err_and c.from_residual-in_err-number_roots.result c.from_residual-in_err-number_roots.ensures.1 in
    rw (p.1, p.2) (λ is. roots_refused (whole_list 1 (id_said 1) (request_read_at 0 1 (root_record c.args.reader))) (nodes_in (root_record c.args.reader)) c.args.strict (nodes_of c.in_ok-nodes.nodes) c.in_ok-nodes.ensures.read _ (ap (name_files (nodes_of c.in_ok-nodes.nodes) c.args.strict (whole_list 1 (id_said 1) (request_read_at 0 1 (root_record c.args.reader)))) (sym (ap (λ n. named_with n nothing_seen) c.new-entries.ensures.nothing)) ∙ c.in_err-number_roots.ensures.done is))

pub returns-in_err-made-clause-refused : goal.returns-in_err-made-clause-refused
unfolding record_seen
returns-in_err-made-clause-refused c =
    let p = err_from_is_err_and c.from_residual-in_err-made.result c.from_residual-in_err-made.ensures.1 in
    rw (p.1, p.2) (λ is. roots_named (whole_list 1 (id_said 1) (request_read_at 0 1 (root_record c.args.reader))) (nodes_in (root_record c.args.reader)) c.args.strict (nodes_of c.in_ok-nodes.nodes) c.in_ok-nodes.ensures.read _ _ (ap (name_files (nodes_of c.in_ok-nodes.nodes) c.args.strict (whole_list 1 (id_said 1) (request_read_at 0 1 (root_record c.args.reader)))) (sym (ap (λ n. named_with n nothing_seen) c.new-entries.ensures.nothing)) ∙ c.in_ok-number_roots.ensures.done) ∙ ap result_of (c.in_err-made.ensures.refused is))

pub returns-clause-read : goal.returns-clause-read
unfolding record_seen
returns-clause-read c = roots_named (whole_list 1 (id_said 1) (request_read_at 0 1 (root_record c.args.reader))) (nodes_in (root_record c.args.reader)) c.args.strict (nodes_of c.in_ok-nodes.nodes) c.in_ok-nodes.ensures.read _ _ (ap (name_files (nodes_of c.in_ok-nodes.nodes) c.args.strict (whole_list 1 (id_said 1) (request_read_at 0 1 (root_record c.args.reader)))) (sym (ap (λ n. named_with n nothing_seen) c.new-entries.ensures.nothing)) ∙ c.in_ok-number_roots.ensures.done) ∙ c.in_ok-made.ensures.read

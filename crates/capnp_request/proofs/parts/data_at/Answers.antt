-- What is read is what the record holds at the field; both outcomes follow from it.
use Rattle.capnp_request.specs.Steps.Seen.{record_seen}
use Rattle.capnp_request.specs.Parts.{request_read_at}
use Rattle.capnp_request.proofs.PartsRead.{there}
use Rattle.capnp_request.proofs.PointersSeen.{data_refused, data_taken, refused_kinds}
use Rattle.capnp_request.proofs.parts.data_at.Goals as goal

pub returns-clause-read : goal.returns-clause-read
returns-clause-read c = data_taken c.data_at.result (request_read_at c.args.brand c.args.index (record_seen c.args.reader)) (there c.args.brand c.args.index c.sections_at-sections.ensures.record c.data_at.ensures)

pub returns-clause-refused : goal.returns-clause-refused
returns-clause-refused c = data_refused c.data_at.result (request_read_at c.args.brand c.args.index (record_seen c.args.reader)) (there c.args.brand c.args.index c.sections_at-sections.ensures.record c.data_at.ensures)

pub returns-clause-kinds : goal.returns-clause-kinds
returns-clause-kinds c =
    refused_kinds c.data_at.result c.args.reader c.args.brand c.args.index
    (data_refused c.data_at.result (request_read_at c.args.brand c.args.index (record_seen c.args.reader)) (there c.args.brand c.args.index c.sections_at-sections.ensures.record c.data_at.ensures))

-- What is read is what the record holds at the field; both outcomes follow from it.
use Rattle.capnp_request.specs.Steps.Seen.{record_seen}
use Rattle.capnp_request.specs.Parts.{request_read_at}
use Rattle.capnp_request.proofs.PartsRead.{there}
use Rattle.capnp_request.proofs.PointersSeen.{text_refused, text_taken, refused_kinds}
use Rattle.capnp_request.proofs.parts.text_at.Goals as goal

pub returns-clause-read : goal.returns-clause-read
returns-clause-read c = text_taken c.text_at.result (request_read_at c.args.brand c.args.index (record_seen c.args.reader)) (there c.args.brand c.args.index c.sections_at-sections.ensures.record c.text_at.ensures)

pub returns-clause-refused : goal.returns-clause-refused
returns-clause-refused c = text_refused c.text_at.result (request_read_at c.args.brand c.args.index (record_seen c.args.reader)) (there c.args.brand c.args.index c.sections_at-sections.ensures.record c.text_at.ensures)

pub returns-clause-kinds : goal.returns-clause-kinds
returns-clause-kinds c =
    refused_kinds c.text_at.result c.args.reader c.args.brand c.args.index
    (text_refused c.text_at.result (request_read_at c.args.brand c.args.index (record_seen c.args.reader)) (there c.args.brand c.args.index c.sections_at-sections.ensures.record c.text_at.ensures))

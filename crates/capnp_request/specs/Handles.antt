-- The record of a compiler's request.
use Rattle.capnp_wire.specs.declared.struct_reader.StructReader.{StructReader}
use Rattle.capnp_records.specs.Record.{Record}
use Rattle.capnp_known.specs.Known.{record_in}
use Rattle.capnp_request.specs.RequestSet.{request_set}

-- the record of a struct that is read as a request's: as one of brand 0 of the request set
abbrev pub root_record : StructReader → Record
root_record s = record_in request_set 0 s

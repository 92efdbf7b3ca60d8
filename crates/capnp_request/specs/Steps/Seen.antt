-- What the handles of a request's structs and lists stand for: steps of the code.
use Rattle.std.specs.Prelude.{ℕ, ◌≡◌}
use Rattle.capnp_wire.specs.Standing.{list_levels, list_of}
use Rattle.capnp_schema.specs.Schema.{VoidValue}
use Rattle.capnp_records.specs.Default.{read_of}
use Rattle.capnp_records.specs.Facts.ListValues.{below_of}
use Rattle.capnp_records.specs.Reading.{element_value}
use Rattle.capnp_records.specs.Record.{Left, Record, Value}
use Rattle.capnp_known.specs.Known.{list_in, record_in}
use Rattle.capnp_request.specs.Parts.{request_struct}
use Rattle.capnp_request.specs.RequestSet.{request_set}
use Rattle.capnp_request.specs.declared.handles.RequestList.{RequestList}
use Rattle.capnp_request.specs.declared.handles.RequestRecord.{RequestRecord}

unfoldable pub record_seen : RequestRecord → Record
record_seen s = record_in request_set s.brand s.sections

-- a struct of a brand of the request set
pub record IsRequestRecord (b : ℕ) (s : RequestRecord) : Type 0 where
  pub number : s.brand ≡ b

abbrev pub list_seen : RequestList → Value
list_seen l = list_in request_set (request_struct l.brand) l.elements

-- element i of a list
abbrev pub element_in : RequestList → ℕ → Value
element_in l i = element_value request_set (list_of l.elements) (below_of request_set (list_of l.elements)) (Left (list_levels l.elements)) (request_struct l.brand) i

-- the read of element i
abbrev pub element_seen : RequestList → ℕ → Value
element_seen l i = read_of request_set VoidValue (request_struct l.brand) (element_in l i)

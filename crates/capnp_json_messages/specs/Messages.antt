-- The message that a JSON text stands for.
use Rattle.std.specs.Prelude.{ℕ, ◌-◌, Bool, IsTrue, List, max, min}
use Rattle.capnp_wire.specs.Edits.{is_struct, struct_in}
use Rattle.capnp_wire.specs.Locate.{words_past_format}
use Rattle.capnp_wire.specs.Tree.{Tree}
use Rattle.capnp_wire.specs.WellFormed.{IsWellFormed}
use Rattle.capnp_schema.specs.StructHandles.{number_of, set_of}
use Rattle.capnp_schema.specs.declared.schema.structs.StructSchema.{StructSchema}
use Rattle.capnp_records.specs.Reading.{reads}
use Rattle.capnp_records.specs.Record.{Record}
use Rattle.capnp_slots.specs.Standing.{IsUnder}
use Rattle.capnp_from_json.specs.Errors.{Read}
use Rattle.capnp_from_json.specs.Records.{Rules, record_of_json}
use Rattle.capnp_json_messages.specs.Walks.{IsRead}

-- the record of a text under a schema
abbrev pub text_record : StructSchema → List ℕ → Rules → Read Record
text_record schema text rules = record_of_json rules (number_of schema) text

-- the most words that a message has by the limit that is asked for: 0 stands for 1, and no message has more than the format says
abbrev pub most_words : (limit : ℕ) → ℕ
most_words limit = min (max limit 1) (words_past_format - 1)

-- a root: a struct with at least its schema's sections, well-formed, whose record is that of the text
pub record IsRootOf (schema : StructSchema) (strict : Bool) (text : List ℕ) (t : Tree) : Type 0 where
  pub here : IsTrue (is_struct t)
  pub room : IsUnder schema (struct_in t)
  pub formed : IsWellFormed t
  pub is : IsRead (set_of schema) strict (text_record schema text) (reads (set_of schema) (struct_in t) (number_of schema))

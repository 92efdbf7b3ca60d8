-- What the code has made so far, as the definition sees it.
use Rattle.std.specs.Prelude.{List}
use Rattle.capnp_schema.specs.Schema.{Schemas, seen_schemas}
use Rattle.capnp_request.specs.Conversion.{Note}
use Rattle.capnp_request.specs.StructsSeen.{seen_notes}
use Rattle.capnp_request.specs.declared.conversion.Converted.{Converted}

-- the lists and notes of an answer
abbrev pub seen_lists : Converted → Schemas × List Note
seen_lists made = (seen_schemas made.nodes.items made.brands.items made.enums.items, seen_notes made.notes.items)

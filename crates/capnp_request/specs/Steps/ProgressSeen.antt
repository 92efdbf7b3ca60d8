-- What the code has made so far, as the definition sees it: steps of the code.
use Rattle.std.specs.Prelude.{List, Bool, true, false, map, string_bytes}
use Rattle.capnp_schema.specs.Schema.{seen_brand, seen_enum, seen_node}
use Rattle.capnp_request.specs.Steps.Seen.{record_seen}
use Rattle.capnp_request.specs.Names.{Holder}
use Rattle.capnp_request.specs.Steps.NamesMade.{texts}
use Rattle.capnp_request.specs.Order.{Begun, Made}
use Rattle.capnp_request.specs.Reading.{node_said}
use Rattle.capnp_request.specs.StructsSeen.{seen_notes}
use Rattle.capnp_request.specs.Work.{Work, work_of}
use Rattle.capnp_request.specs.declared.conversion.NextStruct.{NextStruct}
use Rattle.capnp_request.specs.declared.conversion.Progress.{Progress}

-- what is made so far, where these have the dotted names
abbrev pub made_of : Progress → List Holder → Made
made_of p holders = record {
  nodes = map seen_node p.made.nodes.items;
  brands = map seen_brand p.made.brands.items;
  enums = map seen_enum p.made.enums.items;
  notes = seen_notes p.made.notes.items;
  enum_names = texts p.enum_names.items;
  holders = holders;
}

-- what an entry begins with
abbrev pub begun_of : Progress → List Holder → NextStruct → Begun
begun_of p holders next = record { enum_names = texts p.enum_names.items; name = string_bytes next.name; holders = holders; node = node_said (record_seen next.place.node) }

-- the rest of the work, where there is more
abbrev pub work_rest : (more : Bool) → (Made → Work Made) → Made → Work Made
work_rest true again m = again m
work_rest false again m = work_of m

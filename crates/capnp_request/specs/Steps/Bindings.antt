-- What the code keeps of the bindings of an entry, as the definition sees it.
use Rattle.std.specs.Prelude.{List, [], map}
use Rattle.capnp_schema.specs.Types.{seen_type}
use Rattle.capnp_request.specs.Work.{Bound, MarkedType, Seen}
use Rattle.capnp_request.specs.declared.entries.BoundScope.{BoundScope}
use Rattle.capnp_request.specs.declared.marks.MarkedType.{MarkedType as MarkedRecord}
use Rattle.capnp_request.specs.declared.notes.Seen.{Seen as SeenRecord}
use Rattle.capnp_request.specs.declared.schema_nodes.GenericScope.{GenericScope}

abbrev pub seen_marked : MarkedRecord → MarkedType
seen_marked t = record { type = seen_type t.standing; is_float = t.is_float }

abbrev pub seen_bound : BoundScope → Bound
seen_bound b = record { scope = b.id; distance = b.distance; parameters = b.parameters; types = map seen_marked b.types.items }

abbrev pub bounds : List BoundScope → List Bound
bounds scopes = map seen_bound scopes

-- what was seen of a type
abbrev pub flags : SeenRecord → Seen
flags seen = record { float32 = seen.float32; float64 = seen.float64; interface = seen.interface }

-- a scope of a node, with nothing bound
abbrev pub with_nothing : GenericScope → Bound
with_nothing scope = record { scope = scope.id; distance = scope.distance; parameters = scope.parameters; types = [] }

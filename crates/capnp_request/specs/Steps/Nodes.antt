-- The schema nodes of a request: those that it lists, and the look-up of one by its id.
use Rattle.std.specs.Prelude.{ℕ, ◌≡◌, Bool, true, false, List, [], length, nat_eq, Option, Some, None, option_map, Ok, Err}
use Rattle.std.specs.HashMap.{get}
use Rattle.capnp_wire.specs.declared.struct_reader.StructReader.{StructReader}
use Rattle.capnp_request.specs.Steps.Seen.{record_seen}
use Rattle.capnp_request.specs.RequestSet.{request_set}
use Rattle.capnp_records.specs.Record.{Record}
use Rattle.capnp_known.specs.Known.{record_in}
use Rattle.capnp_request.specs.Reading.{node_said, nodes_in}
use Rattle.capnp_request.specs.Scopes.{node_named}
use Rattle.capnp_request.specs.Terms.{Said, SchemaNode}
use Rattle.capnp_request.specs.declared.schema_nodes.SchemaNodes.{SchemaNodes}

-- the record of a node, by its sections
unfoldable pub node_record : StructReader → Record
node_record s = record_in request_set 2 s

abbrev pub or_none : {A : Type 0} → Said (List A) → List A
or_none (Ok xs) = xs
or_none (Err kind) = []

-- the nodes that the request lists
unfoldable pub nodes_of : SchemaNodes → List SchemaNode
nodes_of nodes = or_none (nodes_in (record_seen nodes.request))

-- what a map has of an id after a node of that id, or of another, was met
abbrev pub first_kept : Option StructReader → (same : Bool) → StructReader → Option StructReader
first_kept (Some x) same new = Some x
first_kept None true new = Some new
first_kept None false new = None

-- All can be read, and the map says which has an id.
pub record AreNodes (nodes : SchemaNodes) : Type 0 where
  pub read : nodes_in (record_seen nodes.request) ≡ Ok (nodes_of nodes)
  pub count : nodes.count ≡ length (nodes_of nodes)
  pub by_id : (id : ℕ) → option_map (λ (s : StructReader). node_said (node_record s)) (get nat_eq nodes.by_id id) ≡ node_named (nodes_of nodes) id

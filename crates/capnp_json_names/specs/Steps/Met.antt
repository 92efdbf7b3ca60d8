-- What is told of a node and of an enum in which names meet.
use Rattle.std.specs.Prelude.{ℕ, ◌≡◌, Some}
use Rattle.capnp_schema.specs.Schema.{Enum, Node}
use Rattle.capnp_json_names.specs.Meetings.{enum_pair, node_pair}
use Rattle.capnp_json_names.specs.Met.{enumerant_name_at, field_name_at}
use Rattle.capnp_json_names.specs.declared.names.NamesMeet.{NamesMeet}

-- these are told of a pair of a node, and of an enum
pub record IsMetFields (n : Node) (m : NamesMeet) : Type 0 where
  pub pair : ℕ × ℕ
  pub is : node_pair n ≡ Some pair
  pub place : m.place.now ≡ n.display_name
  pub first : m.first.now ≡ field_name_at n.fields pair.0
  pub second : m.second.now ≡ field_name_at n.fields pair.1

pub record IsMetEnumerants (e : Enum) (m : NamesMeet) : Type 0 where
  pub pair : ℕ × ℕ
  pub is : enum_pair e ≡ Some pair
  pub place : m.place.now ≡ e.display_name
  pub first : m.first.now ≡ enumerant_name_at e.enumerants pair.0
  pub second : m.second.now ≡ enumerant_name_at e.enumerants pair.1

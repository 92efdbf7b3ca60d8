-- What is told of names that meet.
use Rattle.std.specs.Prelude.{ℕ, ◌≡◌, List, [], slice_get, Option, Some}
use Rattle.std.specs.Option.{option_map, unwrap_or}
use Rattle.capnp_schema.specs.Schema.{Enumerant, Field, Schemas, enum_at, node_at}
use Rattle.capnp_json_names.specs.Meetings.{EnumerantsMeet, FieldsMeet, Meeting}
use Rattle.capnp_json_names.specs.declared.names.NamesMeet.{NamesMeet}

-- the own name of a field and of an enumerant, by its index; none past the end
abbrev pub field_name_at : List Field → ℕ → List ℕ
field_name_at fields i = unwrap_or (option_map (λ (f : Field). f.name) (slice_get fields i)) []

abbrev pub enumerant_name_at : List Enumerant → ℕ → List ℕ
enumerant_name_at xs i = unwrap_or (option_map (λ (x : Enumerant). x.name) (slice_get xs i)) []

-- the display name of the struct, group or enum, and the own names of both
abbrev pub met_place : Schemas → Meeting → List ℕ
met_place set (FieldsMeet n i j) = (node_at set n).display_name
met_place set (EnumerantsMeet e i j) = (enum_at set e).display_name

abbrev pub first_name : Schemas → Meeting → List ℕ
first_name set (FieldsMeet n i j) = field_name_at (node_at set n).fields i
first_name set (EnumerantsMeet e i j) = enumerant_name_at (enum_at set e).enumerants i

abbrev pub second_name : Schemas → Meeting → List ℕ
second_name set (FieldsMeet n i j) = field_name_at (node_at set n).fields j
second_name set (EnumerantsMeet e i j) = enumerant_name_at (enum_at set e).enumerants j

-- this is told of what meets in a set
pub record IsMet (set : Schemas) (asked : Option Meeting) (m : NamesMeet) : Type 0 where
  pub meeting : Meeting
  pub is : asked ≡ Some meeting
  pub place : m.place.now ≡ met_place set meeting
  pub first : m.first.now ≡ first_name set meeting
  pub second : m.second.now ≡ second_name set meeting

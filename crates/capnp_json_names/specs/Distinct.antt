-- Sets whose names in JSON are apart, and what the first meeting of a set says.
use Rattle.std.specs.Prelude.{ℕ, ◌<◌, ◌≤◌, ◌≡◌, ◌⊎◌, ◌↔◌, ⊤, length, Some, None}
use Rattle.capnp_schema.specs.Schema.{Schemas, enum_at, node_at}
use Rattle.capnp_json_names.specs.Labels.{AreApart, Meet, enumerant_labels, field_labels}
use Rattle.capnp_json_names.specs.Meetings.{EnumerantsMeet, FieldsMeet, Meeting, meeting_of}

-- In each struct and group no two fields have one name in JSON of which an annotation gives one, and in each enum no two enumerants.
pub record HasJsonNames (set : Schemas) : Type 0 where
  pub fields : (n : ℕ) → n < length set.nodes → AreApart (field_labels (node_at set n).fields)
  pub enumerants : (e : ℕ) → e < length set.enums → AreApart (enumerant_labels (enum_at set e).enumerants)

-- these two of the set do
abbrev pub IsMeeting : Schemas → Meeting → Type 0
IsMeeting set (FieldsMeet n i j) = (n < length set.nodes) × Meet (field_labels (node_at set n).fields) i j
IsMeeting set (EnumerantsMeet e i j) = (e < length set.enums) × Meet (enumerant_labels (enum_at set e).enumerants) i j

-- by the number of the struct or enum, then by the first and by the second index
abbrev pub IsNoLater : (a b c : ℕ) → (x y z : ℕ) → Type 0
IsNoLater a b c x y z = (a < x) ⊎ ((a ≡ x) × ((b < y) ⊎ ((b ≡ y) × (c ≤ z))))

-- a meeting stands before another or is the same; structs come first
abbrev pub Precedes : Meeting → Meeting → Type 0
Precedes (FieldsMeet n i j) (FieldsMeet m k l) = IsNoLater n i j m k l
Precedes (FieldsMeet n i j) (EnumerantsMeet e k l) = ⊤
Precedes (EnumerantsMeet e k l) (FieldsMeet n i j) = ⊥
Precedes (EnumerantsMeet e i j) (EnumerantsMeet d k l) = IsNoLater e i j d k l

pub record IsFirstMeeting (set : Schemas) (m : Meeting) : Type 0 where
  pub meets : IsMeeting set m
  pub first : (n : Meeting) → IsMeeting set n → Precedes m n

-- No names meet in a set just where its names in JSON are apart.
abbrev pub NoneMeetWhereApart : Type 0
NoneMeetWhereApart = (set : Schemas) → (meeting_of set ≡ None) ↔ HasJsonNames set

-- What meets is the first that does.
abbrev pub FirstMeetingIsFirst : Type 0
FirstMeetingIsFirst = (set : Schemas) (m : Meeting) → meeting_of set ≡ Some m → IsFirstMeeting set m

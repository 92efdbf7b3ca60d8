-- The first two names of a set that meet in JSON: structs come before enums, each by its number, and there the first that an
-- annotation names as another is named, with the first other. Own names of fields are distinct in an accepted set, so a name that
-- no annotation gives need be looked at for those alone that one gives.
use Rattle.std.specs.Prelude.{ℕ, zero, suc, List, Bool, true, false, not, ◌&&◌, ◌==◌, cond, bytes_eq, length, slice_get, Option, Some, None}
use Rattle.std.specs.Option.{option_map}
use Rattle.capnp_schema.specs.Schema.{Enum, Node, Schemas, enum_at, node_at}
use Rattle.capnp_json_names.specs.Labels.{Label, enumerant_labels, field_labels}

-- ---- the first of so many ----

abbrev pub or_else : {A : Type 0} → Option A → Option A → Option A
or_else (Some x) other = Some x
or_else None other = other

-- what the first index has, from one on, that has something
abbrev pub first_from : {A : Type 0} → (ℕ → Option A) → (first left : ℕ) → Option A
first_from f i zero = None
first_from f i (suc left) = or_else (f i) (first_from f (suc i) left)

abbrev pub first_of : {A : Type 0} → (ℕ → Option A) → (count : ℕ) → Option A
first_of f count = first_from f 0 count

-- ---- in a struct or an enum ----

-- index j, where the label there has the name and another index than i
abbrev pub other_at : (i : ℕ) → (name : List ℕ) → (j : ℕ) → Option Label → Option ℕ
other_at i name j None = None
other_at i name j (Some x) = cond (not (j == i) && bytes_eq x.name name) (Some j) None

-- the first other index of that name
abbrev pub other_of : List Label → (i : ℕ) → (name : List ℕ) → Option ℕ
other_of labels i name = first_of (λ j. other_at i name j (slice_get labels j)) (length labels)

-- it with the first one, where an annotation gives that its name
abbrev pub pair_if : (is_given : Bool) → (i : ℕ) → Option ℕ → Option (ℕ × ℕ)
pair_if false i other = None
pair_if true i other = option_map (λ j. (i, j)) other

abbrev pub pair_at : List Label → (i : ℕ) → Option Label → Option (ℕ × ℕ)
pair_at labels i None = None
pair_at labels i (Some x) = pair_if x.is_given i (other_of labels i x.name)

abbrev pub pair_of : List Label → Option (ℕ × ℕ)
pair_of labels = first_of (λ i. pair_at labels i (slice_get labels i)) (length labels)

-- ---- in a set ----

-- two fields of a node, or two enumerants of an enum, by their indices
pub data Meeting : Type 0 where
  FieldsMeet : (node first second : ℕ) → Meeting
  EnumerantsMeet : (number first second : ℕ) → Meeting

-- those of a struct or group, and of an enum
abbrev pub node_pair : Node → Option (ℕ × ℕ)
node_pair n = pair_of (field_labels n.fields)

abbrev pub enum_pair : Enum → Option (ℕ × ℕ)
enum_pair e = pair_of (enumerant_labels e.enumerants)

abbrev pub fields_meeting : Schemas → Option Meeting
fields_meeting set = first_of (λ n. option_map (λ p. FieldsMeet n p.0 p.1) (node_pair (node_at set n))) (length set.nodes)

abbrev pub enumerants_meeting : Schemas → Option Meeting
enumerants_meeting set = first_of (λ e. option_map (λ p. EnumerantsMeet e p.0 p.1) (enum_pair (enum_at set e))) (length set.enums)

abbrev pub meeting_of : Schemas → Option Meeting
meeting_of set = or_else (fields_meeting set) (enumerants_meeting set)

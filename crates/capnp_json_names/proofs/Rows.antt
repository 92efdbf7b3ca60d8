-- Worked rows: names that meet or don't, in structs and enums. The public tool ends on each set of which names of fields meet here.
use Rattle.std.proofs.Common.{◌≡◌, ℕ, refl, List, [], ◌∷◌, false, Some, None, codes}
use Rattle.capnp_schema.specs.Schema.{Annotation, Enum, Enumerant, Field, Node, Schemas, Slot, TextValue, UIntValue, VoidValue, no_types}
use Rattle.capnp_json_fields.specs.Marks.{float_id}
use Rattle.capnp_json_fields.specs.Names.{name_id}
use Rattle.capnp_json_names.specs.Labels.{enumerant_labels, field_labels}
use Rattle.capnp_json_names.specs.Meetings.{EnumerantsMeet, FieldsMeet, meeting_of, other_of, pair_of}
use Rattle.capnp_json_names.specs.Met.{first_name, met_place, second_name}

abbrev named : List ℕ → Annotation
named name = record { id = name_id; value = TextValue name }

abbrev field : List ℕ → List Annotation → Field
field name annotations = record { name = name; discriminant_value = 65535; annotations = annotations; kind = Slot 0 VoidValue }

abbrev enumerant : List ℕ → List Annotation → Enumerant
enumerant name annotations = record { name = name; annotations = annotations }

abbrev node : List ℕ → List Field → Node
node name fields = record {
  id = 1;
  display_name = name;
  annotations = [];
  data_word_count = 0;
  pointer_count = 0;
  is_group = false;
  discriminant_count = 0;
  discriminant_offset = 0;
  fields = fields;
}

abbrev enum : List ℕ → List Enumerant → Enum
enum name enumerants = record { id = 2; display_name = name; annotations = []; enumerants = enumerants; annotation_types = no_types }

abbrev set_of : List Node → List Enum → Schemas
set_of nodes enums = record { nodes = nodes; brands = []; enums = enums }

-- ---- fields ----

abbrev id_name : List Field
id_name = field (codes "id") [] ∷ field (codes "name") [] ∷ []

own_names : pair_of (field_labels id_name) ≡ None
own_names = refl

-- an annotation gives the name of an earlier field, of a later one, and its own
of_an_earlier : pair_of (field_labels (field (codes "id") [] ∷ field (codes "name") [] ∷ field (codes "email") (named (codes "name") ∷ []) ∷ [])) ≡ Some (2, 1)
of_an_earlier = refl

of_a_later : pair_of (field_labels (field (codes "email") (named (codes "name") ∷ []) ∷ id_name)) ≡ Some (0, 2)
of_a_later = refl

its_own : pair_of (field_labels (field (codes "email") (named (codes "email") ∷ []) ∷ id_name)) ≡ None
its_own = refl

-- two annotations give one name; the name of a field that has another in JSON is free
two_given : pair_of (field_labels (field (codes "a") (named (codes "x") ∷ []) ∷ field (codes "b") [] ∷ field (codes "c") (named (codes "x") ∷ []) ∷ [])) ≡ Some (0, 2)
two_given = refl

swapped : pair_of (field_labels (field (codes "a") (named (codes "b") ∷ []) ∷ field (codes "b") (named (codes "a") ∷ []) ∷ [])) ≡ None
swapped = refl

-- the last annotation that has a text counts; one of another id, or without a text, says no name
last_counts : pair_of (field_labels (field (codes "email") (named (codes "name") ∷ named (codes "mail") ∷ []) ∷ id_name)) ≡ None
last_counts = refl

without_a_text : pair_of (field_labels (field (codes "email") (record { id = name_id; value = UIntValue 4 7 } ∷ []) ∷ id_name)) ≡ None
without_a_text = refl

of_another_id : pair_of (field_labels (field (codes "email") (record { id = float_id; value = TextValue (codes "name") } ∷ []) ∷ id_name)) ≡ None
of_another_id = refl

-- letters of another case, and a name that begins alike, are others
other_names : pair_of (field_labels (field (codes "a") (named (codes "Name") ∷ []) ∷ field (codes "b") (named (codes "names") ∷ []) ∷ id_name)) ≡ None
other_names = refl

-- the first of three has two others, of which the first counts
first_other : other_of (field_labels (field (codes "a") [] ∷ field (codes "b") (named (codes "a") ∷ []) ∷ field (codes "c") (named (codes "a") ∷ []) ∷ [])) 2 (codes "a") ≡ Some 0
first_other = refl

first_of_three : pair_of (field_labels (field (codes "a") [] ∷ field (codes "b") (named (codes "a") ∷ []) ∷ field (codes "c") (named (codes "a") ∷ []) ∷ [])) ≡ Some (1, 0)
first_of_three = refl

-- ---- enumerants ----

enumerants_meet : pair_of (enumerant_labels (enumerant (codes "dark") [] ∷ enumerant (codes "dim") (named (codes "dark") ∷ []) ∷ [])) ≡ Some (1, 0)
enumerants_meet = refl

-- own names alone may be alike, unless an annotation is there
own_enumerants : pair_of (enumerant_labels (enumerant (codes "dark") [] ∷ enumerant (codes "dark") [] ∷ [])) ≡ None
own_enumerants = refl

one_annotated : pair_of (enumerant_labels (enumerant (codes "dark") [] ∷ enumerant (codes "dark") (named (codes "dark") ∷ []) ∷ [])) ≡ Some (1, 0)
one_annotated = refl

-- ---- sets ----

abbrev met_fields : List Field
met_fields = field (codes "first") [] ∷ field (codes "last") (named (codes "first") ∷ []) ∷ []

abbrev met_enum : Enum
met_enum = enum (codes "Shade") (enumerant (codes "dark") (named (codes "dim") ∷ []) ∷ enumerant (codes "dim") [] ∷ [])

nothing_meets : meeting_of (set_of (node (codes "A") id_name ∷ node (codes "B") id_name ∷ []) []) ≡ None
nothing_meets = refl

-- of two structs the first, and a struct before an enum
first_struct : meeting_of (set_of (node (codes "A") id_name ∷ node (codes "B") met_fields ∷ node (codes "C") met_fields ∷ []) (met_enum ∷ [])) ≡ Some (FieldsMeet 1 1 0)
first_struct = refl

in_an_enum : meeting_of (set_of (node (codes "A") id_name ∷ []) (enum (codes "Other") [] ∷ met_enum ∷ [])) ≡ Some (EnumerantsMeet 1 0 1)
in_an_enum = refl

-- what is told of them
told_place : met_place (set_of (node (codes "A") met_fields ∷ []) []) (FieldsMeet 0 1 0) ≡ codes "A"
told_place = refl

told_first : first_name (set_of (node (codes "A") met_fields ∷ []) []) (FieldsMeet 0 1 0) ≡ codes "last"
told_first = refl

told_second : second_name (set_of (node (codes "A") met_fields ∷ []) []) (FieldsMeet 0 1 0) ≡ codes "first"
told_second = refl

told_enum : met_place (set_of [] (met_enum ∷ [])) (EnumerantsMeet 0 0 1) ≡ codes "Shade"
told_enum = refl

told_enumerants : second_name (set_of [] (met_enum ∷ [])) (EnumerantsMeet 0 0 1) ≡ codes "dim"
told_enumerants = refl

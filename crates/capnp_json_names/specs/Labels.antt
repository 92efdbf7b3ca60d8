-- What has a name in JSON: fields and enumerants, by their names there.
use Rattle.std.specs.Prelude.{ℕ, ◌≡◌, ◌≢◌, List, Bool, true, map, slice_get, Some}
use Rattle.capnp_schema.specs.Schema.{Enumerant, Field}
use Rattle.capnp_json_fields.specs.Marks.{is_annotated}
use Rattle.capnp_json_fields.specs.Names.{enumerant_name, field_name, name_id}

-- a name in JSON, and whether an annotation `name` is there
pub record Label : Type 0 where
  pub name : List ℕ
  pub is_given : Bool

abbrev pub field_label : Field → Label
field_label f = record { name = field_name f; is_given = is_annotated name_id f.annotations }

abbrev pub enumerant_label : Enumerant → Label
enumerant_label x = record { name = enumerant_name x; is_given = is_annotated name_id x.annotations }

abbrev pub field_labels : List Field → List Label
field_labels fields = map field_label fields

abbrev pub enumerant_labels : List Enumerant → List Label
enumerant_labels xs = map enumerant_label xs

-- Two of them have one name, the first of them by an annotation.
pub record Meet (labels : List Label) (i j : ℕ) : Type 0 where
  pub first : Label
  pub second : Label
  pub at_first : slice_get labels i ≡ Some first
  pub at_second : slice_get labels j ≡ Some second
  pub given : first.is_given ≡ true
  pub same : first.name ≡ second.name
  pub apart : i ≢ j

-- No two do.
abbrev pub AreApart : List Label → Type 0
AreApart labels = (i j : ℕ) → Meet labels i j → ⊥

-- The value that a JSON text stands for, under a field and under a type, and the roots that hold it.
use Rattle.std.specs.Prelude.{ℕ, ◌-◌, ◌≡◌, Bool, IsTrue, List, Result, Ok, Err}
use Rattle.capnp_wire.specs.Edits.{is_struct, struct_in}
use Rattle.capnp_wire.specs.Tree.{Tree}
use Rattle.capnp_wire.specs.WellFormed.{IsWellFormed}
use Rattle.capnp_schema.specs.FieldLists.{index_of, typed_of}
use Rattle.capnp_schema.specs.Types.{SchemaType}
use Rattle.capnp_schema.specs.declared.schema.fields.Field.{Field}
use Rattle.capnp_records.specs.Default.{default_record}
use Rattle.capnp_records.specs.Part.{with_part}
use Rattle.capnp_records.specs.Reading.{reads}
use Rattle.capnp_records.specs.Record.{Endless, MoreValues, NoValues, Value}
use Rattle.capnp_slots.specs.Fields.{IsRoomFor, field_brand, field_set}
use Rattle.capnp_json_text.specs.Values.{Json, json_value}
use Rattle.capnp_json_fields.specs.declared.fields.DataForm.TheVariants.{Array}
use Rattle.capnp_from_json.specs.Errors.{Read, refused}
use Rattle.capnp_from_json.specs.LeafReads.{under}
use Rattle.capnp_from_json.specs.Leaves.{OfElement, Target}
use Rattle.capnp_from_json.specs.Records.{Rules, all_levels, field_target, value_of_json}
use Rattle.capnp_from_json.specs.declared.error.RefusalKind.TheVariants.{NotJson}
use Rattle.capnp_json_messages.specs.Put.{IsListOf}
use Rattle.capnp_json_messages.specs.Rows.{row_set, row_type}
use Rattle.capnp_json_messages.specs.Walks.{IsRead}
use Rattle.capnp_json_messages.specs.declared.row.Row.{Row}

-- the value of a text, of which a root's level is gone
abbrev pub value_in_root : Rules → Target → Result Json ℕ → Read Value
value_in_root rules t (Ok j) = value_of_json rules j (all_levels - 1) t
value_in_root rules t (Err place) = refused NotJson place

-- the value of a text for a field
abbrev pub text_value : Field → List ℕ → Rules → Read Value
text_value f text rules = value_in_root rules (field_target (typed_of f)) (json_value text)

-- a root that is a struct of the field's schema, well-formed, whose record is the default record with the text's value in the field
pub record IsHolderOf (f : Field) (strict : Bool) (text : List ℕ) (t : Tree) : Type 0 where
  pub here : IsTrue (is_struct t)
  pub room : IsRoomFor f (struct_in t)
  pub formed : IsWellFormed t
  pub value : Value
  pub is : IsRead (field_set f) strict (text_value f text) value
  pub holds : reads (field_set f) (struct_in t) (field_brand f) ≡ with_part (default_record (field_set f) Endless (field_brand f)) (typed_of f).field (index_of f) value

-- the value of a text for an element of a list, whose numbers are floats or not
abbrev pub text_element : SchemaType → (is_float : Bool) → List ℕ → Rules → Read Value
text_element e is_float text rules = value_in_root rules (under e OfElement is_float Array) (json_value text)

-- a root that is a list of one element, well-formed, which has the text's value
pub record IsOneOf (row : Row) (strict : Bool) (text : List ℕ) (t : Tree) : Type 0 where
  pub formed : IsWellFormed t
  pub value : Value
  pub is : IsRead (row_set row) strict (text_element (row_type row) row.is_float text) value
  pub list : IsListOf (row_set row) (row_type row) t (MoreValues value NoValues)

-- The items of a struct in which a print stands: of its fields, and of those of a group in it from one on.
use Rattle.std.specs.Prelude.{ℕ, ◌-◌, ◌≡◌, List, [], ◌∷◌, ◌++◌, Bool, true, false, ◌&&◌, codes, drop, Some, None}
use Rattle.capnp_wire.specs.Standing.{struct_levels, struct_of}
use Rattle.capnp_wire.specs.declared.struct_reader.StructReader.{StructReader}
use Rattle.capnp_schema.specs.FieldLists.{typed_of}
use Rattle.capnp_schema.specs.Schema.{Schemas, TypedField, fields_of, is_member, kind_target, node_of}
use Rattle.capnp_schema.specs.declared.schema.fields.Field.{Field}
use Rattle.capnp_records.specs.Part.{is_active}
use Rattle.capnp_records.specs.Reading.{part_of, non_union_parts, union_of, values_of}
use Rattle.capnp_records.specs.Record.{Left, Union, Value, is_there}
use Rattle.capnp_records.specs.Text.{Layout, Out, later, line, member, said_text, separator, shown, text_within}
use Rattle.capnp_dynamic_readers.specs.Pieces.{Taken}
use Rattle.capnp_dynamic_readers.specs.Steps.Pieces.{IsPut}
use Rattle.capnp_dynamic_readers.specs.Steps.Shown.{is_member_shown, part_seen, union_seen}
use Rattle.capnp_dynamic_readers.specs.declared.dynamic_struct.Reader.{Reader as StructHandle}

-- ---- a field ----

abbrev pub has_fields : List TypedField → Bool
has_fields [] = false
has_fields (f ∷ fs) = true

-- a field that is no group
abbrev pub IsSlotField : Field → Type 0
IsSlotField f = kind_target (typed_of f).field.kind (typed_of f).type ≡ None

-- whether a field has an item: a non-union field where it is there, and the active member where it is shown
abbrev pub item_by : (is_member is_active is_shown is_there : Bool) → Bool
item_by true active is_shown there = active && is_shown
item_by false active is_shown there = there

abbrev pub is_item : StructHandle → TypedField → ℕ → Bool
is_item r f i = item_by (is_member f.field) (is_active (union_seen r) i) (is_member_shown r f) (is_there (part_seen r f))

-- what stands before the text of an item
abbrev pub name_text : Layout → (first : Bool) → TypedField → List ℕ
name_text at first f = separator at first ++ (f.field.name ++ codes " = ")

-- and it was put
abbrev pub IsNamePut : Layout → (first : Bool) → TypedField → Taken → Taken → Type 0
IsNamePut at first f old new = IsPut old (said_text (name_text at first f)) new

-- ---- the text that is to come ----

abbrev pub read_part_at : Schemas → StructReader → TypedField → Value
read_part_at set r f = part_of set (Left (struct_levels r)) (struct_of r).bytes (values_of set (struct_of r).pointers) f

abbrev pub union_at : Schemas → StructReader → ℕ → Union
union_at set r b = union_of (read_part_at set r) (node_of set b) (fields_of set b) (struct_of r).bytes

-- the items of a brand from a field on
abbrev pub items_from : ℕ → Schemas → StructReader → Layout → ℕ → ℕ → List Out
items_from left set r at b i =
    shown set (text_within set left) at (drop i (fields_of set b)) i (non_union_parts (read_part_at set r) (drop i (fields_of set b))) (later (member set (text_within set left) at b (union_at set r b)) i)

-- one bracket further out
abbrev pub shallower : Layout → Layout
shallower None = None
shallower (Some n) = Some (n - 1)

abbrev pub closing : Layout → List ℕ
closing at = line (shallower at) ++ codes ")"

-- What a field is, beside its name and its annotations: as it stands on one side of a difference.
use Rattle.std.specs.Prelude.{ℕ, List, ◌++◌, Option, Some, None, codes}
use Rattle.capnp_schema.specs.Plan.{plan_of}
use Rattle.capnp_schema.specs.Schema.{Schemas, TypedField, default_of, kind_target}
use Rattle.capnp_records.specs.Text.{Out, after, said_text}
use Rattle.capnp_json_fields.specs.Marks.{is_float}
use Rattle.capnp_structs.specs.Fields.{member_text, place_text, type_text}
use Rattle.capnp_structs.specs.Values.{default_text}

-- of a slot its type and its place, and its default
abbrev pub slot_head : Schemas → (brand : ℕ) → TypedField → List ℕ
slot_head set b f = type_text (is_float f) set f.type ++ place_text (plan_of set b f).place

abbrev pub slot_side : Schemas → (brand : ℕ) → TypedField → Out
slot_side set b f = after (said_text (slot_head set b f)) (default_text (is_float f) set f.type (default_of f.field))

-- or that it is a group
abbrev pub kind_side : Schemas → (brand : ℕ) → TypedField → Option ℕ → Out
kind_side set b f None = slot_side set b f
kind_side set b f (Some g) = said_text (codes "group")

-- and the value by which a union has it
abbrev pub field_side : Schemas → (brand : ℕ) → TypedField → Out
field_side set b f = after (kind_side set b f (kind_target f.field.kind f.type)) (said_text (member_text (plan_of set b f).member))

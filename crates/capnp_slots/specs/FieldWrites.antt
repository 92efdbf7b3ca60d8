-- What a write makes of a struct by a field's handle, for slots and groups alike.
use Rattle.std.specs.Prelude.{◌≡◌, Bool, true, false, Option, Some, None}
use Rattle.capnp_device.specs.declared.error.ErrorKind.{ErrorKind}
use Rattle.capnp_wire.specs.Tree.{StructTree}
use Rattle.capnp_schema.specs.FieldLists.{typed_of}
use Rattle.capnp_schema.specs.declared.schema.fields.Field.{Field}
use Rattle.capnp_records.specs.Call.{Source}
use Rattle.capnp_records.specs.Step.{is_group_field}
use Rattle.capnp_records.specs.Writes.Overlay.{cleared_content}
use Rattle.capnp_slots.specs.Fields.{slot_with}
use Rattle.capnp_slots.specs.Groups.{group_without}
use Rattle.capnp_slots.specs.GroupSets.{IsGroupSet, given_to_group}
use Rattle.capnp_slots.specs.Inits.{HasInit, IsInitRefusal, init_content}
use Rattle.capnp_slots.specs.Primitives.{given_to}
use Rattle.capnp_slots.specs.Sources.{IsSet, IsSetRefusal}

-- a field cleared: a group with all that is in it, or a slot; and the union switched to it
abbrev pub cleared_field_kind : (group : Bool) → Field → StructTree → StructTree
cleared_field_kind true f s = group_without f s
cleared_field_kind false f s = slot_with f (cleared_content (typed_of f).type) s

abbrev pub field_cleared : Field → StructTree → StructTree
field_cleared f s = cleared_field_kind (is_group_field (typed_of f).field.kind) f s

-- a set of a slot, and the kind of its refusal: it took what is given, or was refused and the struct is as it was
abbrev pub SlotIsSet : Field → Source → StructTree → Option ErrorKind → StructTree → Type 0
SlotIsSet f s old None new = IsSet f s old new
SlotIsSet f s old (Some kind) new = IsSetRefusal (given_to f s) kind × (new ≡ old)

-- a set of a field: a slot's, or a group's, which leaves what was copied before its refusal
abbrev pub KindIsSet : (group : Bool) → Field → Source → StructTree → Option ErrorKind → StructTree → Type 0
KindIsSet true f s old refused new = IsGroupSet f (given_to_group f s) old refused new
KindIsSet false f s old refused new = SlotIsSet f s old refused new

abbrev pub IsFieldSet : Field → Source → StructTree → Option ErrorKind → StructTree → Type 0
IsFieldSet f s old refused new = KindIsSet (is_group_field (typed_of f).field.kind) f s old refused new

-- an init of a slot, and the kind of its refusal: it is new, or was refused and the struct is as it was
abbrev pub SlotIsInit : Field → StructTree → Option ErrorKind → StructTree → Type 0
SlotIsInit f old None new = HasInit f × (new ≡ slot_with f (init_content f) old)
SlotIsInit f old (Some kind) new = IsInitRefusal (typed_of f).type kind × (new ≡ old)

-- an init of a field: a slot's, or a group's, which clears it and is never refused
abbrev pub KindIsInit : (group : Bool) → Field → StructTree → Option ErrorKind → StructTree → Type 0
KindIsInit true f old None new = new ≡ group_without f old
KindIsInit true f old (Some kind) new = ⊥
KindIsInit false f old refused new = SlotIsInit f old refused new

abbrev pub IsFieldInit : Field → StructTree → Option ErrorKind → StructTree → Type 0
IsFieldInit f old refused new = KindIsInit (is_group_field (typed_of f).field.kind) f old refused new

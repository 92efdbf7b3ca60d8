-- Handles of parts of a request's record: steps of the code.
use Rattle.std.specs.Prelude.{ℕ, ◌-◌, ◌≡◌, ◌⊎◌, Bool, true, false, Some}
use Rattle.capnp_wire.specs.Reading.{list_length}
use Rattle.capnp_wire.specs.Standing.{list_of}
use Rattle.capnp_schema.specs.Schema.{FieldKind, Group, Slot, field_at, is_member, Value as SchemaValue}
use Rattle.capnp_schema.specs.Types.{SchemaType}
use Rattle.capnp_records.specs.Facts.ReadFaults.{Sound}
use Rattle.capnp_records.specs.Part.{which_of}
use Rattle.capnp_records.specs.Record.{Values, values_from}
use Rattle.capnp_known.specs.Known as known
use Rattle.capnp_request.specs.RequestSet.{request_set}
use Rattle.capnp_request.specs.Steps.Seen.{element_in, list_seen, record_seen}
use Rattle.capnp_request.specs.declared.handles.RequestList.{RequestList}
use Rattle.capnp_request.specs.declared.handles.RequestRecord.{RequestRecord}

-- field i of such a struct: a non-union one, or the active member
abbrev pub IsRequestFieldActive : ℕ → ℕ → RequestRecord → Type 0
IsRequestFieldActive b i s = (is_member (field_at request_set b i).field ≡ false) ⊎ (which_of (record_seen s) ≡ Some i)

abbrev pub IsRequestField : ℕ → ℕ → SchemaType → Type 0
IsRequestField b i t = known.IsField request_set b i t

-- a slot at a place, in units of its width or among the pointers, with its default
abbrev pub IsRequestSlot : ℕ → ℕ → SchemaType → ℕ → SchemaValue → Type 0
IsRequestSlot b i t place default = known.IsSlot request_set b i t place default

-- the field is a group
abbrev pub is_group_kind : FieldKind → Bool
is_group_kind (Slot offset default) = false
is_group_kind (Group node) = true

abbrev pub IsGroupField : ℕ → ℕ → Type 0
IsGroupField b i = is_group_kind (field_at request_set b i).field.kind ≡ true

-- a list of structs of a brand of the request set, whose faults are those of reads
pub record IsListOf (b : ℕ) (l : RequestList) : Type 0 where
  pub number : l.brand ≡ b
  pub sound : Sound (list_seen l)

-- the elements from i on
unfoldable pub values_left : RequestList → ℕ → Values
values_left l i = values_from (element_in l) i (list_length (list_of l.elements) - i)

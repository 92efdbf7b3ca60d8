-- What a builder stands on while a path is walked, what it sees there, and what a step into a part leaves of the whole.
use Rattle.std.specs.Prelude.{ℕ, ◌<◌, ◌≡◌, ⊤, None}
use Rattle.std.specs.Option.{unwrap_or}
use Rattle.capnp_wire.specs.Tree as tree
use Rattle.capnp_wire.specs.Tree.{Tree, StructTree, empty_struct, nth_tree, nth_struct, struct_count}
use Rattle.capnp_wire.specs.Place.{struct_tree}
use Rattle.capnp_wire.specs.Reading.{element_pointer, element_struct}
use Rattle.capnp_wire.specs.Elements.{with_pointer_element, with_struct_element, HasPointer}
use Rattle.capnp_wire.specs.StructLists.{struct_list_refusal}
use Rattle.capnp_schema.specs.Types.{SchemaType, StructType, ListType, struct_number}
use Rattle.capnp_schema.specs.Schema.{Schemas, VoidValue, FieldKind, Slot, Group, TypedField, field_at, Value as SchemaValue}
use Rattle.capnp_schema.specs.Query.{records_of, field_named}
use Rattle.capnp_records.specs.Record as value
use Rattle.capnp_records.specs.Record.{Endless, Value}
use Rattle.capnp_records.specs.Reading.{value_of, reads}
use Rattle.capnp_records.specs.Call.{PathStep, FieldNumber, FieldNamed, ElementAt}
use Rattle.capnp_records.specs.Writes.Slots.{At, with_content, Fits}
use Rattle.capnp_schema.specs.Plan.{brand_size}
use Rattle.capnp_records.specs.Writes.Fill.{IsAtRest, filled_slot_struct, list_or_default, filled_list}

-- a struct, the struct of a group, or a list
pub data Stand : Type 0 where
  OnStruct : StructTree → Stand
  OnGroup : StructTree → Stand
  OnList : Tree → Stand

abbrev pub seen_stand : Schemas → SchemaType → Stand → Value
seen_stand set t (OnStruct s) = value.Struct (reads set s (struct_number t))
seen_stand set t (OnGroup s) = value.Group (reads set s (struct_number t))
seen_stand set t (OnList x) = value_of set x Endless t

abbrev pub stand_tree : Stand → Tree
stand_tree (OnStruct s) = struct_tree s
stand_tree (OnGroup s) = tree.Null
stand_tree (OnList x) = x

abbrev pub stand_struct : Stand → StructTree
stand_struct (OnStruct s) = s
stand_struct (OnGroup s) = s
stand_struct (OnList x) = empty_struct

-- ---- a step into a field ----

-- the index of the field or element that a step names
abbrev pub step_index : Schemas → ℕ → PathStep → ℕ
step_index set b (FieldNumber i) = i
step_index set b (FieldNamed name) = unwrap_or (field_named (records_of set b) name) 0
step_index set b (ElementAt j) = j

abbrev pub step_field : Schemas → ℕ → PathStep → TypedField
step_field set b step = field_at set b (step_index set b step)

-- what a builder's get of a slot stands on
abbrev pub entered_slot : Schemas → SchemaValue → SchemaType → Tree → Stand
entered_slot set d (StructType b g) x = OnStruct (filled_slot_struct set b d x)
entered_slot set d (ListType e) x = OnList (filled_list set e d x)
entered_slot set d t x = OnList x

abbrev pub entered_kind : Schemas → FieldKind → SchemaType → StructTree → Stand
entered_kind set (Slot offset d) t s = entered_slot set d t (nth_tree s.pointers offset)
entered_kind set (Group node) t s = OnGroup s

-- the owner's struct once the part is given back
abbrev pub left_kind : FieldKind → SchemaType → StructTree → Stand → StructTree
left_kind (Slot offset d) t s inner = with_content s offset t (At (stand_tree inner))
left_kind (Group node) t s inner = stand_struct inner

-- ---- a step into an element ----

abbrev pub entered_element : Schemas → SchemaType → Tree → ℕ → Stand
entered_element set (StructType b g) x j = OnStruct (element_struct x j)
entered_element set t x j = entered_slot set VoidValue t (element_pointer x j 1)

abbrev pub left_element : SchemaType → Tree → ℕ → Stand → Tree
left_element (StructType b g) x j inner = with_struct_element j (stand_struct inner) x
left_element t x j inner = with_pointer_element j (stand_tree inner) x

-- ---- a step ----

abbrev pub entered_field : Schemas → TypedField → StructTree → Stand
entered_field set f s = entered_kind set f.field.kind f.type s

abbrev pub left_field : TypedField → StructTree → Stand → StructTree
left_field f s inner = left_kind f.field.kind f.type s inner

abbrev pub entered_stand : Schemas → SchemaType → Stand → PathStep → Stand
entered_stand set (StructType b g) (OnStruct s) step = entered_field set (step_field set b step) s
entered_stand set (StructType b g) (OnGroup s) step = entered_field set (step_field set b step) s
entered_stand set (ListType e) (OnList x) step = entered_element set e x (step_index set 0 step)
entered_stand set t old step = old

abbrev pub left_stand : Schemas → SchemaType → Stand → PathStep → Stand → Stand
left_stand set (StructType b g) (OnStruct s) step inner = OnStruct (left_field (step_field set b step) s inner)
left_stand set (StructType b g) (OnGroup s) step inner = OnGroup (left_field (step_field set b step) s inner)
left_stand set (ListType e) (OnList x) step inner = OnList (left_element e x (step_index set 0 step) inner)
left_stand set t old step inner = old

-- ---- what a builder's handle stands on by its own invariants ----

-- structs of a list that was made composite with its schema's sections
abbrev pub ListSound : Schemas → SchemaType → Tree → Type 0
ListSound set (StructType b g) (tree.Composite d p es) = (i : ℕ) → i < struct_count es → Fits set b (nth_struct es i)
ListSound set (StructType b g) (tree.Voids n) = ⊥
ListSound set (StructType b g) (tree.Numbers w bytes) = ⊥
ListSound set (StructType b g) (tree.Pointers ps) = ⊥
ListSound set t x = ⊤

-- an element that is a pointer is there
abbrev pub HasElement : Schemas → SchemaType → Stand → PathStep → Type 0
HasElement set (ListType (ListType e)) (OnList x) step = HasPointer x (step_index set 0 step)
HasElement set t old step = ⊤

-- ---- lists of structs within the format ----

-- the list of structs that is entered at a slot is within the format with the sizes that its elements get
abbrev pub SlotWithin : Schemas → SchemaType → SchemaValue → Tree → Type 0
SlotWithin set (ListType (StructType b g)) d x = struct_list_refusal (brand_size set b) (list_or_default d x) ≡ None
SlotWithin set t d x = ⊤

abbrev pub KindWithin : Schemas → FieldKind → SchemaType → StructTree → Type 0
KindWithin set (Slot offset d) t s = SlotWithin set t d (nth_tree s.pointers offset)
KindWithin set (Group node) t s = ⊤

abbrev pub FieldWithin : Schemas → TypedField → StructTree → Type 0
FieldWithin set f s = KindWithin set f.field.kind f.type s

abbrev pub IsStepWithin : Schemas → SchemaType → Stand → PathStep → Type 0
IsStepWithin set (StructType b g) (OnStruct s) step = FieldWithin set (step_field set b step) s
IsStepWithin set (StructType b g) (OnGroup s) step = FieldWithin set (step_field set b step) s
IsStepWithin set (ListType e) (OnList x) step = SlotWithin set e VoidValue (element_pointer x (step_index set 0 step) 1)
IsStepWithin set t old step = ⊤

-- ---- steps that take no memory ----

-- a group is the same struct, and behind a slot nothing has to be filled or extended
abbrev pub KindRests : Schemas → FieldKind → SchemaType → StructTree → Type 0
KindRests set (Slot offset d) t s = IsAtRest set d t (nth_tree s.pointers offset)
KindRests set (Group node) t s = ⊤

abbrev pub FieldRests : Schemas → TypedField → StructTree → Type 0
FieldRests set f s = KindRests set f.field.kind f.type s

-- the structs of a list are there, and of a list that is an element nothing has to be extended
abbrev pub InnerRests : Schemas → SchemaType → Tree → ℕ → Type 0
InnerRests set (ListType e) x j = IsAtRest set VoidValue (ListType e) (element_pointer x j 1)
InnerRests set t x j = ⊤

abbrev pub StepRests : Schemas → SchemaType → Stand → PathStep → Type 0
StepRests set (StructType b g) (OnStruct s) step = FieldRests set (step_field set b step) s
StepRests set (StructType b g) (OnGroup s) step = FieldRests set (step_field set b step) s
StepRests set (ListType e) (OnList x) step = InnerRests set e x (step_index set 0 step)
StepRests set t old step = ⊤

-- What builders hand out of a pointer, an element or a field, and when it can be.
use Rattle.std.specs.Prelude.{ℕ, ◌≡◌, Bool, true, false, cond, None, Some, length}
use Rattle.capnp_device.specs.declared.error.Error.{Error}
use Rattle.capnp_wire.specs.Depth.{message_levels}
use Rattle.capnp_wire.specs.Edits.{IsDueRefusal}
use Rattle.capnp_wire.specs.Elements.{or_empty}
use Rattle.capnp_wire.specs.Place.{struct_tree}
use Rattle.capnp_wire.specs.Reading.{element_pointer, element_struct}
use Rattle.capnp_wire.specs.Tree.{StructTree, Tree, nth_tree}
use Rattle.capnp_builders.specs.Blobs.{data_there, position, text_bytes, text_there}
use Rattle.capnp_builders.specs.Pointers.{untyped_tree}
use Rattle.capnp_schema.specs.FieldLists.{typed_of}
use Rattle.capnp_schema.specs.Schema.{Schemas, TypedField, VoidValue, default_of}
use Rattle.capnp_schema.specs.StructHandles.{number_of, set_of}
use Rattle.capnp_schema.specs.Types.{struct_number, SchemaType, TextType, DataType, StructType, ListType, AnyPointerType, element_size, is_pointer, struct_brand}
use Rattle.capnp_schema.specs.declared.schema.fields.Field.{Field}
use Rattle.capnp_records.specs.Default.{read_of}
use Rattle.capnp_records.specs.Facts.ListValues.{below_of}
use Rattle.capnp_records.specs.Reading.{element_value}
use Rattle.capnp_records.specs.Record.{Left, Value}
use Rattle.capnp_records.specs.Step.{is_group_field}
use Rattle.capnp_records.specs.Writes.Slots.{At}
use Rattle.capnp_slots.specs.Fields.{field_brand, field_set}
use Rattle.capnp_slots.specs.Inits.{IsInitRefusal, IsInitnRefusal}
use Rattle.capnp_records.specs.Writes.Contents.{init_tree, initn_tree}
use Rattle.capnp_records.specs.Writes.ElementEnds.{InitnContent}
use Rattle.capnp_slots.specs.Fills.{ElementRests, element_due, element_filled, fill_due, filled_tree, is_behind}
use Rattle.capnp_records.specs.Writes.TreeEnds.{InitContent, group_cleared, offset_of}
use Rattle.capnp_dynamic.specs.Built.{built_element, built_elements, built_reading, built_schema, built_set, built_struct}
use Rattle.capnp_dynamic.specs.BuiltValues.{IsReaderOf}
use Rattle.capnp_dynamic_readers.specs.Reads.{field_read}
use Rattle.capnp_dynamic_readers.specs.Seen.{value_seen}
use Rattle.capnp_dynamic_readers.specs.Typed.{IsOf, IsValueUnder}
use Rattle.capnp_dynamic.specs.declared.dynamic_list.build.Builder.{Builder as ListHandle}
use Rattle.capnp_dynamic_readers.specs.declared.dynamic_value.Reader.{Reader as DynamicValue}
use Rattle.capnp_dynamic.specs.declared.dynamic_value.build.Builder.{Builder as BuiltValue}
use Rattle.capnp_dynamic.specs.declared.dynamic_value.build.Builder.TheVariants as built

-- a value stands on the tree of a pointer of a type: a text that is new writes at its start, and another one after its last
-- byte; a null list reads as an empty one
abbrev pub HandsOut : (is_new : Bool) → Schemas → SchemaType → Tree → BuiltValue → Type 0
HandsOut new set t x (built.Text b) = (TextType ≡ t) × (text_there b ≡ x) × (position b ≡ cond new 0 (length (text_bytes b)))
HandsOut new set t x (built.«Data» bytes) = (DataType ≡ t) × (data_there bytes ≡ x)
HandsOut new set t x (built.Struct s) = (struct_brand t ≡ Some (number_of (built_schema s))) × (set_of (built_schema s) ≡ set) × (struct_tree (built_struct s) ≡ x)
HandsOut new set t x (built.List l) = (ListType (built_element l) ≡ t) × (built_set l ≡ set) × (built_elements l ≡ x) × (built_reading l ≡ or_empty (element_size (built_element l)) x)
HandsOut new set t x (built.AnyPointer p) = (AnyPointerType ≡ t) × (untyped_tree p ≡ x)
HandsOut new set t x v = ⊥

-- ---- fields ----

-- the number of a slot is what a reader of the field answers
abbrev pub HandsNumber : Schemas → TypedField → StructTree → BuiltValue → Type 0
HandsNumber set f s v = (r : DynamicValue) × IsReaderOf v r × (value_seen r ≡ field_read set (Left message_levels) s f) × IsOf set f.type r

-- a group is the same struct under the group's schema
abbrev pub HandsGroup : Schemas → TypedField → StructTree → BuiltValue → Type 0
HandsGroup set f s (built.Struct g) = (set_of (built_schema g) ≡ set) × (number_of (built_schema g) ≡ struct_number f.type) × (built_struct g ≡ s)
HandsGroup set f s v = ⊥

-- what stands at the pointer of a slot once it was filled
abbrev pub field_filled : Schemas → TypedField → StructTree → Tree
field_filled set f s = filled_tree set (default_of f.field) f.type (nth_tree s.pointers (offset_of f.field.kind))

-- a builder's get of a field: of a pointer's slot what was filled there
abbrev pub part_handed : (group pointer : Bool) → Schemas → TypedField → StructTree → BuiltValue → Type 0
part_handed true pointer set f s v = HandsGroup set f s v
part_handed false true set f s v = HandsOut false set f.type (field_filled set f s) v
part_handed false false set f s v = HandsNumber set f s v

abbrev pub HandsField : Field → StructTree → BuiltValue → Type 0
HandsField f s v = part_handed (is_group_field (typed_of f).field.kind) (is_pointer (typed_of f).type) (field_set f) (typed_of f) s v

-- why a builder's get of a field is refused: what stands at the pointer of its slot is not read as its type, or the format
-- has no room for it, or memory was refused
abbrev pub IsRefusalAt : Schemas → TypedField → StructTree → Error → Type 0
IsRefusalAt set f s e =
    (is_group_field f.field.kind ≡ false) × (is_pointer f.type ≡ true) × IsDueRefusal e (fill_due set (default_of f.field) f.type (nth_tree s.pointers (offset_of f.field.kind)))

abbrev pub IsPartRefusal : Field → StructTree → Error → Type 0
IsPartRefusal f s e = IsRefusalAt (field_set f) (typed_of f) s e

-- what stands at the pointer of a field's slot is read as its type, and the format has room for it
abbrev pub IsWithinAt : Schemas → TypedField → StructTree → Type 0
IsWithinAt set f s =
    is_group_field f.field.kind ≡ false → is_pointer f.type ≡ true → fill_due set (default_of f.field) f.type (nth_tree s.pointers (offset_of f.field.kind)) ≡ None

abbrev pub IsPartWithin : Field → StructTree → Type 0
IsPartWithin f s = IsWithinAt (field_set f) (typed_of f) s

-- ---- elements ----

-- what a reader of a list, with the levels of a message, reads of an element
abbrev pub element_read_of : Schemas → SchemaType → Tree → ℕ → Value
element_read_of set t x j = read_of set VoidValue t (element_value set x (below_of set x) (Left message_levels) t j)

-- the number of an element is what a reader of the list answers
abbrev pub HandsElementNumber : Schemas → SchemaType → Tree → ℕ → BuiltValue → Type 0
HandsElementNumber set t x j v = (r : DynamicValue) × IsReaderOf v r × (value_seen r ≡ element_read_of set t x j) × IsValueUnder set t r

-- a builder's get of an element of a list that reads as `y`: a struct of the list as it stands, what stands behind the
-- element's pointer once it was filled, or its number
abbrev pub element_handed : Schemas → SchemaType → (x y : Tree) → ℕ → BuiltValue → Type 0
element_handed set (StructType b g) x y j v = HandsOut false set (StructType b g) (struct_tree (element_struct x j)) v
element_handed set TextType x y j v = HandsOut false set TextType (element_filled set TextType (element_pointer x j 1)) v
element_handed set DataType x y j v = HandsOut false set DataType (element_filled set DataType (element_pointer x j 1)) v
element_handed set (ListType e) x y j v = HandsOut false set (ListType e) (element_filled set (ListType e) (element_pointer x j 1)) v
element_handed set AnyPointerType x y j v = HandsOut false set AnyPointerType (element_filled set AnyPointerType (element_pointer x j 1)) v
element_handed set t x y j v = HandsElementNumber set t y j v

abbrev pub HandsElement : ListHandle → ℕ → BuiltValue → Type 0
HandsElement l j v = element_handed (built_set l) (built_element l) (built_elements l) (built_reading l) j v

-- why it is refused: what stands behind the element's pointer is not read as its type, or the format or memory has no room
abbrev pub IsElementPartRefusal : ListHandle → ℕ → Error → Type 0
IsElementPartRefusal l j e = (is_behind (built_element l) ≡ true) × IsDueRefusal e (element_due (built_set l) (built_element l) (element_pointer (built_elements l) j 1))

-- what stands behind the element's pointer is read as its type, and the format has room for it
abbrev pub IsElementWithin : ListHandle → ℕ → Type 0
IsElementWithin l j = is_behind (built_element l) ≡ true → element_due (built_set l) (built_element l) (element_pointer (built_elements l) j 1) ≡ None

-- nothing has to be extended there
abbrev pub RestsAt : ListHandle → ℕ → Type 0
RestsAt l j = ElementRests (built_set l) (built_element l) (element_pointer (built_elements l) j 1)

-- ---- what init and initn hand out ----

-- a slot that is started anew, and one with a size
abbrev pub HandsNew : Schemas → TypedField → BuiltValue → Type 0
HandsNew set f v = InitContent set f.type (At (init_tree set f.type)) × HandsOut true set f.type (init_tree set f.type) v

abbrev pub HandsSized : Schemas → SchemaType → ℕ → BuiltValue → Type 0
HandsSized set t n v = InitnContent set n t (At (initn_tree set t n)) × HandsOut true set t (initn_tree set t n) v

abbrev pub HandsNewSized : Schemas → TypedField → ℕ → BuiltValue → Type 0
HandsNewSized set f n v = HandsSized set f.type n v

-- a group that is started is cleared
abbrev pub start_handed : (group : Bool) → Schemas → ℕ → TypedField → StructTree → BuiltValue → Type 0
start_handed true set b f s v = HandsGroup set f (group_cleared set b f s) v
start_handed false set b f s v = HandsNew set f v

abbrev pub HandsInit : Field → StructTree → BuiltValue → Type 0
HandsInit f s v = start_handed (is_group_field (typed_of f).field.kind) (field_set f) (field_brand f) (typed_of f) s v

abbrev pub HandsInitn : Field → ℕ → BuiltValue → Type 0
HandsInitn f n v = HandsNewSized (field_set f) (typed_of f) n v

-- why a field is not started anew: a group always is
abbrev pub IsStartRefusal : Field → Error → Type 0
IsStartRefusal f e = (is_group_field (typed_of f).field.kind ≡ false) × IsInitRefusal (typed_of f).type e.kind

abbrev pub IsSizedRefusal : Field → ℕ → Error → Type 0
IsSizedRefusal f n e = IsInitnRefusal (field_set f) n (typed_of f).type e.kind

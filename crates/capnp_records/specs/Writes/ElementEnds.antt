-- What the last step of a call writes into an element of a list.
use Rattle.std.specs.Prelude.{ℕ, ◌-◌, ◌≡◌, ⊤, false, ◌==◌, nat_lt, None, length}
use Rattle.capnp_wire.specs.Tree.{Tree, tree_count}
use Rattle.capnp_wire.specs.Place.{struct_tree}
use Rattle.capnp_wire.specs.Reading.{element_struct}
use Rattle.capnp_wire.specs.Edits.{fitted_struct, struct_in}
use Rattle.capnp_wire.specs.Elements.{with_bit_element, with_number_element, with_pointer_element, with_struct_element, HasBit, HasNumber, HasPointer, HasStruct}
use Rattle.capnp_wire.specs.Locate.{words_past_format}
use Rattle.capnp_schema.specs.Types.{SchemaType, VoidType, BoolType, IntType, UIntType, EnumType, TextType, DataType, StructType, ListType, AnyPointerType}
use Rattle.capnp_schema.specs.Schema.{Schemas}
use Rattle.capnp_records.specs.Call.{PathStep, Source, StructSource, Op, Set, Initn}
use Rattle.capnp_records.specs.Step.{StepTarget}
use Rattle.capnp_records.specs.Given.{copy_refusal, Given, Gives, Copies, given_part}
use Rattle.capnp_records.specs.Operation.{elements_past}
use Rattle.capnp_records.specs.Writes.Slots.{Content, Bits, At}
use Rattle.capnp_records.specs.Writes.Overlay.{stored_number}
use Rattle.capnp_records.specs.Writes.Contents.{source_tree, SourceFits, initn_tree}
use Rattle.capnp_records.specs.Writes.Stand.{Stand, OnList, step_index}

-- a list with another number at an element
abbrev pub with_element_number : SchemaType → Tree → ℕ → ℕ → Tree
with_element_number BoolType x j n = with_bit_element j (n == 1) x
with_element_number (IntType width) x j n = with_number_element width j n x
with_element_number (UIntType width) x j n = with_number_element width j n x
with_element_number (EnumType number) x j n = with_number_element 2 j n x
with_element_number t x j n = x

-- with another pointer; a struct element keeps its size, and of the struct that is set what fits
abbrev pub with_element_tree : SchemaType → Tree → ℕ → Tree → Tree
with_element_tree (StructType b g) x j y =
    with_struct_element j (fitted_struct (length (element_struct x j).bytes) (tree_count (element_struct x j).pointers) (struct_in y)) x
with_element_tree t x j y = with_pointer_element j y x

abbrev pub element_written : SchemaType → Tree → ℕ → Content → Tree
element_written t x j (Bits n) = with_element_number t x j n
element_written t x j (At y) = with_element_tree t x j y

-- an element of its type is there
abbrev pub HasElementThere : SchemaType → Tree → ℕ → Type 0
HasElementThere VoidType x j = ⊤
HasElementThere BoolType x j = HasBit x j
HasElementThere (IntType width) x j = HasNumber width x j
HasElementThere (UIntType width) x j = HasNumber width x j
HasElementThere (EnumType number) x j = HasNumber 2 x j
HasElementThere TextType x j = HasPointer x j
HasElementThere DataType x j = HasPointer x j
HasElementThere (StructType b g) x j = HasStruct x j
HasElementThere (ListType element) x j = HasPointer x j
HasElementThere AnyPointerType x j = HasPointer x j

-- what initn writes
abbrev pub InitnContent : Schemas → ℕ → SchemaType → Content → Type 0
InitnContent set n TextType c = (nat_lt (words_past_format - 2) n ≡ false) × (c ≡ At (initn_tree set TextType n))
InitnContent set n DataType c = (nat_lt (words_past_format - 1) n ≡ false) × (c ≡ At (initn_tree set DataType n))
InitnContent set n (ListType e) c = (elements_past set e n ≡ false) × (c ≡ At (initn_tree set (ListType e) n))
InitnContent set n t c = ⊥

-- the tree that is set at an element: a struct as its reader has it, of which what fits is kept
abbrev pub element_source_tree : Source → Tree
element_source_tree (StructSource l s from) = struct_tree s
element_source_tree s = source_tree s

abbrev pub ElementSetContent : StepTarget → Source → Given → Content → Type 0
ElementSetContent x s (Gives v) c = c ≡ Bits (stored_number x.type v)
ElementSetContent x s (Copies source past v) c = (copy_refusal source ≡ None) × (past ≡ false) × (c ≡ At (element_source_tree s))
ElementSetContent x s g c = ⊥

abbrev pub ElementContent : Schemas → Op → StepTarget → Content → Type 0
ElementContent set (Set s) x c = SourceFits s × ElementSetContent x s (given_part set x s) c
ElementContent set (Initn n) x c = InitnContent set n x.type c
ElementContent set op x c = ⊥

-- ---- at a list ----

abbrev pub element_written_at : Schemas → SchemaType → Stand → PathStep → Content → Stand
element_written_at set (ListType e) (OnList y) step c = OnList (element_written e y (step_index set 0 step) c)
element_written_at set t old step c = old

abbrev pub HasRoomAt : Schemas → SchemaType → Stand → PathStep → Type 0
HasRoomAt set (ListType e) (OnList y) step = HasElementThere e y (step_index set 0 step)
HasRoomAt set t old step = ⊥

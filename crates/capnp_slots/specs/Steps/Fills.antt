-- What a builder's get of a slot leaves at its pointer, and why it is refused: steps of the code.
use Rattle.std.specs.Prelude.{ℕ, ◌<◌, ◌≡◌, ⊤, Bool, true, false, List, Option, None, Result, IfErr, IsOk, OnErr, OnOk}
use Rattle.capnp_device.specs.declared.error.Error.{Error}
use Rattle.capnp_device.specs.declared.error.ErrorKind.{ErrorKind}
use Rattle.capnp_wire.specs.Tree.{StructTree, Tree, nth_tree, tree_count}
use Rattle.capnp_wire.specs.Reading.{as_data, as_text}
use Rattle.capnp_wire.specs.Defaults.{filled_list_refusal, filled_structs_refusal, takes_default, default_tree as reader_tree, or_default as tree_or_default}
use Rattle.capnp_wire.specs.declared.pointer_reader.PointerReader.{PointerReader}
use Rattle.capnp_wire.specs.Edits.{IsDueRefusal, with_pointer_tree}
use Rattle.capnp_wire.specs.StructLists.{HoldsStructs}
use Rattle.capnp_schema.specs.Defaults.{DefaultFits, value_default_tree}
use Rattle.capnp_schema.specs.FieldLists.{typed_of}
use Rattle.capnp_schema.specs.Schema.{Schemas, TextValue, DataValue, Value, default_of}
use Rattle.capnp_schema.specs.Types.{SchemaType, StructType, element_size}
use Rattle.capnp_schema.specs.declared.schema.fields.Field.{Field}
use Rattle.capnp_records.specs.Given.{data_tree}
use Rattle.capnp_base.specs.Text.{text_tree}
use Rattle.capnp_records.specs.Writes.Fill.{entered_list}
use Rattle.capnp_schema.specs.Plan.{brand_size}
use Rattle.capnp_records.specs.Writes.TreeCopy.{or_else}
use Rattle.capnp_slots.specs.Fills.{RestsIn, due_in, filled_in}

-- ---- defaults ----

-- the pointer of a field's default has the default's tree, which fits the field
pub record IsDefaultPointer (f : Field) (r : Option PointerReader) : Type 0 where
  pub tree : reader_tree r ≡ value_default_tree (default_of (typed_of f).field)
  pub fits : DefaultFits (typed_of f)

-- ---- lists, by the tree of a default ----

-- a list of structs is refused by its sizes, and another one by its elements' size
abbrev pub list_due : Schemas → SchemaType → Tree → Tree → Option ErrorKind
list_due set (StructType b g) D x = filled_structs_refusal D (brand_size set b) x
list_due set e D x = filled_list_refusal D (element_size e) x

abbrev pub FilledListRests : Schemas → SchemaType → Tree → Tree → Type 0
FilledListRests set (StructType b g) D x = (takes_default D x ≡ false) × HoldsStructs (brand_size set b) x
FilledListRests set e D x = (takes_default D x ≡ false) × (filled_list_refusal D (element_size e) x ≡ None)

-- ---- texts and data ----

-- what is read as a text, or else as data, and what is left there of a default of bytes
abbrev pub filled_blob : Bool → Tree → Result (List ℕ) ErrorKind
filled_blob true x = as_text x
filled_blob false x = as_data x

abbrev pub blob_filled : Value → Tree → Tree
blob_filled (TextValue bytes) x = or_else x (text_tree bytes)
blob_filled (DataValue bytes) x = or_else x (data_tree bytes)
blob_filled d x = x

-- ---- by a struct ----

-- a struct has a pointer of an index, what stands there, and the struct became the same with something else there
abbrev pub IsThere : StructTree → ℕ → Type 0
IsThere s i = i < tree_count s.pointers

abbrev pub tree_there : StructTree → ℕ → Tree
tree_there s i = nth_tree s.pointers i

abbrev pub HoldsThere : StructTree → ℕ → StructTree → Tree → Type 0
HoldsThere s i s' t = s' ≡ with_pointer_tree s i t

-- that pointer was filled: a refusal has its cause and changed nothing, and where the pointer rests nothing is refused
pub record IsFilled (left : Tree) (due : Option ErrorKind) (Quiet : Type 0) (s : StructTree) (i : ℕ) (r : Result ⊤ Error) (s' : StructTree) : Type 0 where
  pub filled : OnOk r (HoldsThere s i s' left)
  pub within : OnOk r (due ≡ None)
  pub refused : OnErr r (s' ≡ s)
  pub cause : IfErr r (λ e. IsDueRefusal e due)
  pub rests : Quiet → IsOk r

-- as a field's slot, and as a list of elements of a type with the tree of a default
abbrev pub IsSlotFilled : Field → StructTree → ℕ → Result ⊤ Error → StructTree → Type 0
IsSlotFilled f s i r s' = IsFilled (filled_in f s) (due_in f s) (RestsIn f s) s i r s'

abbrev pub IsListFilled : Schemas → SchemaType → Tree → StructTree → ℕ → Result ⊤ Error → StructTree → Type 0
IsListFilled set e D s i r s' = IsFilled (entered_list set e (tree_or_default D (tree_there s i))) (list_due set e D (tree_there s i)) (FilledListRests set e D (tree_there s i)) s i r s'

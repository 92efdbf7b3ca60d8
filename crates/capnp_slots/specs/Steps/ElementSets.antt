-- What an element of a list is set to, and why it is not: steps of the code.
use Rattle.std.specs.Prelude.{ℕ, ◌≡◌, ⊤, Bool, true, false}
use Rattle.capnp_wire.specs.Tree.{Tree}
use Rattle.capnp_wire.specs.Elements.{HasPointer, with_pointer_element}
use Rattle.capnp_records.specs.Record.{Value}
use Rattle.capnp_schema.specs.Schema.{Schemas}
use Rattle.capnp_schema.specs.Types.{SchemaType, VoidType}
use Rattle.capnp_records.specs.Call.{Source, TextSource, DataSource, StructSource, ListSource}
use Rattle.capnp_records.specs.Given.{Copies, given_element}
use Rattle.capnp_records.specs.Writes.ElementEnds.{HasElementThere, element_written}
use Rattle.capnp_records.specs.Writes.Slots.{At}
use Rattle.capnp_slots.specs.Steps.Sources.{source_copied, source_past}

-- ---- what is copied ----

abbrev pub NoStruct : Source → Type 0
NoStruct (StructSource l x from) = ⊥
NoStruct s = ⊤

-- a text, data or list
abbrev pub IsBlobOrList : Source → Type 0
IsBlobOrList (TextSource bytes) = ⊤
IsBlobOrList (DataSource bytes) = ⊤
IsBlobOrList (ListSource l t from) = ⊤
IsBlobOrList s = ⊥

-- an element is written through its pointer
pub record IsPointerElement (t : SchemaType) : Type 0 where
  pub room : (x : Tree) (j : ℕ) → HasElementThere t x j → HasPointer x j
  pub writes : (x : Tree) (j : ℕ) (y : Tree) → element_written t x j (At y) ≡ with_pointer_element j y x

-- an element takes a source as a copy behind its pointer, or, of a void one, nothing of it
abbrev pub TakesInto : Schemas → SchemaType → Source → Bool → Type 0
TakesInto set t s true = IsBlobOrList s × IsPointerElement t × ((v : Value) × (given_element set t s ≡ Copies (source_copied s) (source_past s) v))
TakesInto set t s false = VoidType ≡ t

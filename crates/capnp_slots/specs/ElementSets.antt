-- What an element of a list is set to, and why it is not.
use Rattle.std.specs.Prelude.{ℕ, ◌≡◌}
use Rattle.capnp_wire.specs.Tree.{Tree}
use Rattle.capnp_device.specs.declared.error.ErrorKind.{ErrorKind}
use Rattle.capnp_device.specs.declared.error.ErrorKind.TheVariants.{ExpectedAListOrBlob, ListAnyPointerNotSupported}
use Rattle.capnp_slots.specs.Inits.{IsInitnRefusal}
use Rattle.capnp_schema.specs.Schema.{Schemas}
use Rattle.capnp_schema.specs.Types.{SchemaType, TextType, DataType, ListType, AnyPointerType}
use Rattle.capnp_records.specs.Call.{Source}
use Rattle.capnp_records.specs.Given.{Given, Gives, Copies, CopiesGroup, Fails, given_element}
use Rattle.capnp_records.specs.Writes.ElementEnds.{element_source_tree, element_written}
use Rattle.capnp_records.specs.Writes.Overlay.{stored_number}
use Rattle.capnp_records.specs.Writes.Slots.{Content, Bits, At}
use Rattle.capnp_slots.specs.Sources.{IsTaken}

-- what a set writes into an element
abbrev pub element_given : SchemaType → Source → Given → Content
element_given t s (Gives v) = Bits (stored_number t v)
element_given t s (Copies source past v) = At (element_source_tree s)
element_given t s (CopiesGroup l x b) = Bits 0
element_given t s (Fails kind) = Bits 0

abbrev pub element_content : Schemas → SchemaType → Source → Content
element_content set t s = element_given t s (given_element set t s)

-- an element was set: it took what is given, which stands there now
pub record IsElementSet (set : Schemas) (t : SchemaType) (s : Source) (j : ℕ) (old new : Tree) : Type 0 where
  pub taken : IsTaken (given_element set t s)
  pub written : new ≡ element_written t old j (element_content set t s)

-- ---- init ----

-- why an element of a type is not initialized with a size
abbrev pub IsElementInitRefusal : Schemas → ℕ → SchemaType → ErrorKind → Type 0
IsElementInitRefusal set n TextType kind = IsInitnRefusal set n TextType kind
IsElementInitRefusal set n DataType kind = IsInitnRefusal set n DataType kind
IsElementInitRefusal set n (ListType e) kind = IsInitnRefusal set n (ListType e) kind
IsElementInitRefusal set n AnyPointerType kind = kind ≡ ListAnyPointerNotSupported
IsElementInitRefusal set n t kind = kind ≡ ExpectedAListOrBlob

-- What the notes beside a set tell: where stand-ins stand, and which defaults are left out.
use Rattle.std.specs.Prelude.{ℕ, ◌≡◌, List, Bool, false, Some, slice_get}
use Rattle.capnp_wire.specs.Reading.{is_null_tree}
use Rattle.capnp_wire.specs.Tree.{Tree}
use Rattle.capnp_schema.specs.Schema.{Brand, Node, Schemas}
use Rattle.capnp_schema.specs.Types.{SchemaType, AnyPointerType}
use Rattle.capnp_request.specs.Conversion.{Float32Note, Float64Note, InterfaceNote, Note, StandIn, UntypedDefaultNote}
use Rattle.capnp_request.specs.Scopes.{node_named}
use Rattle.capnp_request.specs.Terms.{FieldTerm, Float32, Float64, Interface, RequestTerm, SchemaNode, SlotTerm, StructNode, StructPart, TypeTerm, Untyped, ValueTerm}
use Rattle.capnp_request_meaning.specs.Meaning.{IsRead, StandsIn}

-- A float or an interface stands in the type of a slot, where its stand-in isn't refused; or the slot is an untyped pointer of
-- the set, with a default that isn't null.
abbrev pub IsNotable : List SchemaNode → (strict : Bool) → TypeTerm → (default : ValueTerm) → SchemaType → StandIn → Type 0
IsNotable nodes strict t default u Float32Note = (strict ≡ false) × StandsIn nodes t Float32
IsNotable nodes strict t default u Float64Note = (strict ≡ false) × StandsIn nodes t Float64
IsNotable nodes strict t default u InterfaceNote = (strict ≡ false) × StandsIn nodes t Interface
IsNotable nodes strict t default u UntypedDefaultNote = (u ≡ AnyPointerType) × (tree : Tree) × (default ≡ Untyped tree) × (is_null_tree tree ≡ false)

-- a note is of a slot of a struct of the set, by the struct's number and the field's
pub record IsNoteOf (r : RequestTerm) (strict : Bool) (structs : List Node) (brands : List Brand) (x : Note) : Type 0 where
  pub struct : Node
  pub brand : Brand
  pub node : SchemaNode
  pub part : StructPart
  pub field : FieldTerm
  pub offset : ℕ
  pub type : TypeTerm
  pub default : ValueTerm
  pub stands : SchemaType
  pub numbered : slice_get structs x.entry ≡ Some struct
  pub branded : slice_get brands x.entry ≡ Some brand
  pub first : node_named r.nodes struct.id ≡ Some node
  pub is_struct : node.kind ≡ StructNode part
  pub read : IsRead part.fields x.field field
  pub slot : field.kind ≡ SlotTerm offset type default
  pub typed : slice_get brand.field_types x.field ≡ Some stands
  pub notable : IsNotable r.nodes strict type default stands x.stand_in

-- notes are exactly those of what stands so
abbrev pub AreNotesOf : RequestTerm → (strict : Bool) → Schemas → List Note → Type 0
AreNotesOf r strict set notes = (x : Note) → ((i : ℕ) → slice_get notes i ≡ Some x → IsNoteOf r strict set.nodes set.brands x) × (IsNoteOf r strict set.nodes set.brands x → (i : ℕ) × (slice_get notes i ≡ Some x))

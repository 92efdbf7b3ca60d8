-- What builders of dynamic values stand on. Contracts cite these words; a builder's fields are public, so that it can be
-- taken apart.
use Rattle.std.specs.Prelude.{ℕ, ◌<◌, ◌≡◌, None}
use Rattle.std.specs.Borrow.{MutBor}
use Rattle.capnp_wire.specs.Depth.{message_levels}
use Rattle.capnp_wire.specs.Defaults.{list_refusal}
use Rattle.capnp_wire.specs.Elements.{or_empty}
use Rattle.capnp_wire.specs.Reading.{list_length}
use Rattle.capnp_wire.specs.StructLists.{HoldsStructs}
use Rattle.capnp_wire.specs.Tree.{StructTree, Tree}
use Rattle.capnp_arena.specs.Forest.{Forest, tree}
use Rattle.capnp_arena.specs.Segment.{segment}
use Rattle.capnp_arena.specs.declared.arena.Arena.{Arena}
use Rattle.capnp_arena.specs.declared.arena.Place.{Place}
use Rattle.capnp_arena.specs.declared.struct_builder.StructBuilder.{StructBuilder}
use Rattle.capnp_base.specs.declared.introspect.«Type».{«Type» as TypeHandle}
use Rattle.capnp_schema.specs.Entries.{lists_seen}
use Rattle.capnp_schema.specs.Schema.{Schemas}
use Rattle.capnp_schema.specs.StructHandles.{number_of, set_of}
use Rattle.capnp_schema.specs.Types.{SchemaType, StructType, element_size, seen_type}
use Rattle.capnp_schema.specs.declared.schema.structs.StructSchema.{StructSchema}
use Rattle.capnp_records.specs.Reading.{struct_record}
use Rattle.capnp_records.specs.Record.{Left, Record}
use Rattle.capnp_schema.specs.Plan.{brand_size}
use Rattle.capnp_arena.specs.Built.{built_at}
use Rattle.capnp_slots.specs.Standing.{IsStanding}
use Rattle.capnp_dynamic.specs.declared.dynamic_list.build.Builder.{Builder as ListHandle}
use Rattle.capnp_dynamic.specs.declared.dynamic_struct.build.Builder.{Builder as StructHandle}

-- the schema of a struct that is built, the message behind it, its place there, and its tree
abbrev pub built_schema : StructHandle → StructSchema
built_schema b = b.schema

abbrev pub struct_behind : StructHandle → MutBor Arena
struct_behind b = b.arena

abbrev pub place_of : StructHandle → Place
place_of b = b.place

abbrev pub built_struct : StructHandle → StructTree
built_struct b = built_at b.arena.now b.place

-- the plain handle of it
abbrev pub handle_of : StructHandle → StructBuilder
handle_of b = record { arena = b.arena; place = b.place }

-- it has at least its schema's sections, and stands at its place
abbrev pub IsReady : StructHandle → Type 0
IsReady b = IsStanding (built_schema b) b.arena.now b.place

-- the record that it reads as, by a reader with the levels of a message
abbrev pub built_record : StructHandle → Record
built_record b = struct_record (set_of (built_schema b)) (Left message_levels) (built_struct b) (number_of (built_schema b))

-- the type of a list's elements, the set that the type is of, the message behind it, and the word of the list's pointer
abbrev pub built_type : ListHandle → TypeHandle
built_type l = l.element_type

abbrev pub built_element : ListHandle → SchemaType
built_element l = seen_type l.element_type

abbrev pub built_set : ListHandle → Schemas
built_set l = lists_seen l.schemas.now

abbrev pub list_behind : ListHandle → MutBor Arena
list_behind l = l.arena

abbrev pub word_of : ListHandle → ℕ
word_of l = l.at

-- the tree of a list that is built, null where a null was got as one; and what it reads as, then an empty list
abbrev pub built_elements : ListHandle → Tree
built_elements l = tree (segment l.arena.now) l.at

abbrev pub built_reading : ListHandle → Tree
built_reading l = or_empty (element_size (built_element l)) (built_elements l)

-- a list has elements of a type: structs of at least their schema's sections, or what is read as elements of the type's size;
-- a null has none
abbrev pub HoldsElements : Schemas → SchemaType → Tree → Type 0
HoldsElements set (StructType b g) x = HoldsStructs (brand_size set b) x
HoldsElements set t x = list_refusal (element_size t) x ≡ None

-- a list has elements of its type, and stands at its pointer
pub record IsListStanding (set : Schemas) (t : SchemaType) (arena : Arena) (at : ℕ) : Type 0 where
  pub forest : Forest (segment arena) at
  pub holds : HoldsElements set t (tree (segment arena) at)

abbrev pub IsListReady : ListHandle → Type 0
IsListReady l = IsListStanding (built_set l) (built_element l) l.arena.now l.at

-- an element is there
abbrev pub IsIn : ℕ → ListHandle → Type 0
IsIn j l = j < list_length (built_elements l)

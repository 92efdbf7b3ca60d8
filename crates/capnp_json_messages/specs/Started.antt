-- Structs, lists and groups that are begun: what is left of the whole once they hold what they are to hold.
use Rattle.std.specs.Prelude.{ℕ, ◌≡◌, ⊤, Bool, true}
use Rattle.capnp_wire.specs.Edits.{zero_struct}
use Rattle.capnp_wire.specs.Tree.{StructTree}
use Rattle.capnp_arena.specs.Built.{IsBuilt, built_at}
use Rattle.capnp_arena.specs.Forest.{Forest, tree}
use Rattle.capnp_arena.specs.Frame.{LeavesPointer, LeavesStruct}
use Rattle.capnp_arena.specs.Segment.{segment}
use Rattle.capnp_arena.specs.declared.arena.Arena.{Arena}
use Rattle.capnp_arena.specs.declared.arena.Place.{Place}
use Rattle.capnp_schema.specs.Plan.{brand_size}
use Rattle.capnp_schema.specs.Schema.{Schemas}
use Rattle.capnp_schema.specs.StructHandles.{generic_of, number_of, set_of}
use Rattle.capnp_schema.specs.Types.{ListType, SchemaType, StructType}
use Rattle.capnp_schema.specs.declared.schema.fields.Field.{Field}
use Rattle.capnp_schema.specs.declared.schema.structs.StructSchema.{StructSchema}
use Rattle.capnp_records.specs.Default.{default_record}
use Rattle.capnp_records.specs.Reading.{reads, value_of}
use Rattle.capnp_records.specs.Record as value
use Rattle.capnp_records.specs.Record.{Endless, Record}
use Rattle.capnp_records.specs.Writes.Contents.{new_list}
use Rattle.capnp_records.specs.Writes.Overlay.{Turns}
use Rattle.capnp_slots.specs.Fields.{field_set}
use Rattle.capnp_slots.specs.Standing.{IsUnder}
use Rattle.capnp_from_json.specs.declared.error.Error.{Error}
use Rattle.capnp_from_json.specs.declared.error.Error.TheVariants.{OutOfMemory, TooLarge, Refused}
use Rattle.capnp_from_json.specs.declared.error.RefusalKind.TheVariants.{SizePastFormat}
use Rattle.capnp_json_messages.specs.Put.{PutsAt}
use Rattle.capnp_json_messages.specs.Reads.{PutsInto}

-- the struct of a new slot, and of a new message
abbrev pub new_struct : StructSchema → StructTree
new_struct schema = zero_struct (brand_size (set_of schema) (number_of schema))

-- a struct behind a slot of its type
pub record StructStarted (f : Field) (schema : StructSchema) (place : Place) (old new : Arena) (inner : Place) : Type 0 where
  pub planted : IsBuilt new inner
  pub here : built_at new inner ≡ new_struct schema
  pub frame : (later : Arena) → LeavesStruct inner new later → LeavesStruct place old later
  pub puts : (later : Arena) → LeavesStruct inner new later → PutsInto f (built_at old place) (built_at later place) (value.Struct (reads (set_of schema) (built_at later inner) (number_of schema)))

-- a list behind a slot, of so many elements
pub record ListStarted (f : Field) (e : SchemaType) (place : Place) (count : ℕ) (old new : Arena) (word : ℕ) : Type 0 where
  pub forest : Forest (segment new) word
  pub here : tree (segment new) word ≡ new_list (field_set f) e count
  pub frame : (later : Arena) → LeavesPointer word new later → LeavesStruct place old later
  pub puts : (later : Arena) → LeavesPointer word new later → PutsInto f (built_at old place) (built_at later place) (value_of (field_set f) (tree (segment later) word) Endless (ListType e))

-- a group of the same struct
pub record GroupStarted (f : Field) (group : StructSchema) (s s' : StructTree) : Type 0 where
  pub room : IsUnder group s'
  pub here : reads (set_of group) s' (number_of group) ≡ default_record (set_of group) Endless (number_of group)
  pub puts : (later : StructTree) (r : Record) → Turns (set_of group) (number_of group) s' later r → PutsInto f s later (value.Group r)

-- a struct of a list of structs
pub record InnerStarted (schema : StructSchema) (word j : ℕ) (now : Arena) (inner : Place) : Type 0 where
  pub planted : IsBuilt now inner
  pub room : IsUnder schema (built_at now inner)
  pub here : reads (set_of schema) (built_at now inner) (number_of schema) ≡ default_record (set_of schema) Endless (number_of schema)
  pub frame : (later : Arena) → LeavesStruct inner now later → LeavesPointer word now later
  pub puts : (later : Arena) → LeavesStruct inner now later → IsUnder schema (built_at later inner)
      → PutsAt (set_of schema) (StructType (number_of schema) (generic_of schema)) j (tree (segment now) word) (tree (segment later) word) (value.Struct (reads (set_of schema) (built_at later inner) (number_of schema)))

-- a list that is an element of a list of lists
pub record InnerListStarted (set : Schemas) (e : SchemaType) (word j count : ℕ) (old new : Arena) (inner : ℕ) : Type 0 where
  pub forest : Forest (segment new) inner
  pub here : tree (segment new) inner ≡ new_list set e count
  pub frame : (later : Arena) → LeavesPointer inner new later → LeavesPointer word old later
  pub puts : (later : Arena) → LeavesPointer inner new later → PutsAt set (ListType e) j (tree (segment old) word) (tree (segment later) word) (value_of set (tree (segment later) inner) Endless (ListType e))

-- why a list was not made, for an array at a place: it is past the format, or memory was refused
abbrev pub IsPast : (past : Bool) → (at : ℕ) → Error → Type 0
IsPast past at OutOfMemory = ⊤
IsPast past at TooLarge = ⊥
IsPast past at (Refused refusal) = (past ≡ true) × (refusal ≡ record { kind = SizePastFormat; place = at })

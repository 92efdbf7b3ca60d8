-- Where a walk stands, and where a step leads from there: whatever the rest of a call does in the part that it enters, the
-- call does to the whole.
use Rattle.std.specs.Prelude.{ℕ, List, ◌∷◌, Result, Ok, Err}
use Rattle.capnp_device.specs.declared.error.Error.{Error}
use Rattle.capnp_wire.specs.Tree.{StructTree}
use Rattle.capnp_arena.specs.Built.{place_words}
use Rattle.capnp_arena.specs.Forest.{Changes, Forest, PartChanges, Planted, struct_from, tree}
use Rattle.capnp_arena.specs.declared.arena.Place.{Place}
use Rattle.capnp_schema.specs.Accepted.{NamesEntries}
use Rattle.capnp_schema.specs.Entries.{lists_seen}
use Rattle.capnp_schema.specs.Schema.{Schemas}
use Rattle.capnp_schema.specs.StructHandles.{IsStruct, number_of, set_of}
use Rattle.capnp_schema.specs.Types.{SchemaType, seen_type}
use Rattle.capnp_schema.specs.declared.schema.fields.Field.{Field}
use Rattle.capnp_schema.specs.declared.schema.structs.StructSchema.{StructSchema}
use Rattle.capnp_slots.specs.Standing.{IsUnder}
use Rattle.capnp_call.specs.Lists.{IsListStand}
use Rattle.capnp_call.specs.Steps.Lists.{ElementWalks, ListWalks}
use Rattle.capnp_call.specs.Walks.{StructWalks}
use Rattle.capnp_call.specs.Steps.Walks.{FieldWalks}
use Rattle.capnp_call.specs.declared.calls.Ending.{Ending}
use Rattle.capnp_call.specs.declared.calls.Reply.{Reply}
use Rattle.capnp_call.specs.declared.calls.Reply.TheVariants as reply
use Rattle.capnp_call.specs.declared.calls.Step.{Step}
use Rattle.capnp_call.specs.declared.hop.At.{At}
use Rattle.capnp_call.specs.declared.hop.At.TheVariants as at

-- the struct at a place in a message's bytes
abbrev pub placed_struct : List ℕ → Place → StructTree
placed_struct bytes p = struct_from bytes p.start p.data_words p.pointers

-- ---- where a walk stands ----

-- at a struct or group, which has at least its schema's sections
pub record IsAtStruct (p : Place) (schema : StructSchema) (bytes : List ℕ) : Type 0 where
  pub stands : IsStruct schema
  pub planted : Planted bytes (place_words p)
  pub room : IsUnder schema (placed_struct bytes p)

-- at a list, by the word that leads to it
pub record IsAtList (w : ℕ) (set : Schemas) (e : SchemaType) (bytes : List ℕ) : Type 0 where
  pub forest : Forest bytes w
  pub entries : NamesEntries set e
  pub list : IsListStand set e (tree bytes w)

abbrev pub IsAt : At → List ℕ → Type 0
IsAt (at.Struct p schema) bytes = IsAtStruct p schema bytes
IsAt (at.List w set e) bytes = IsAtList w (lists_seen set.now) (seen_type e) bytes

-- ---- what a call does from there ----

-- along a path from a struct, in the bytes before and after: the struct still stands, and nothing else has changed
pub record StructGoes (p : Place) (schema : StructSchema) (old : List ℕ) (path : List Step) (end : Ending) (r : Reply) (new : List ℕ) : Type 0 where
  pub walks : StructWalks (set_of schema) (number_of schema) path end (placed_struct old p) r (placed_struct new p)
  pub planted : Planted new (place_words p)
  pub changes : PartChanges (place_words p) old new

-- along a path from a list
pub record ListGoes (w : ℕ) (set : Schemas) (e : SchemaType) (old : List ℕ) (path : List Step) (end : Ending) (r : Reply) (new : List ℕ) : Type 0 where
  pub walks : ListWalks set e path end (tree old w) r (tree new w)
  pub forest : Forest new w
  pub changes : Changes w old new

abbrev pub HopGoes : At → List ℕ → List Step → Ending → Reply → List ℕ → Type 0
HopGoes (at.Struct p schema) = StructGoes p schema
HopGoes (at.List w set e) = ListGoes w (lists_seen set.now) (seen_type e)

-- into a field that is there, and along the rest of the path
pub record FieldGoes (p : Place) (f : Field) (old : List ℕ) (rest : List Step) (end : Ending) (r : Reply) (new : List ℕ) : Type 0 where
  pub walks : FieldWalks f rest end (placed_struct old p) r (placed_struct new p)
  pub planted : Planted new (place_words p)
  pub changes : PartChanges (place_words p) old new

-- the same into an element
pub record ElementGoes (w : ℕ) (set : Schemas) (e : SchemaType) (i : ℕ) (old : List ℕ) (rest : List Step) (end : Ending) (r : Reply) (new : List ℕ) : Type 0 where
  pub walks : ElementWalks set e i rest end (tree old w) r (tree new w)
  pub forest : Forest new w
  pub changes : Changes w old new

-- ---- where a step leads ----

-- what a call does, by the rest of its path, its end, its reply and the bytes after it
abbrev pub Going : Type 1
Going = List Step → Ending → Reply → List ℕ → Type 0

-- it leads there: whatever the rest of the call does from there, the call does that
pub record LeadsOn (whole : Going) (now : At) (bytes : List ℕ) : Type 0 where
  pub stands : IsAt now bytes
  pub onward : (rest : List Step) (end : Ending) (r : Reply) (later : List ℕ) → HopGoes now bytes rest end r later → whole rest end r later

-- or the call is refused, whatever the rest of it is
abbrev pub HopLeads : Going → Result At Error → List ℕ → Type 0
HopLeads whole (Ok now) bytes = LeadsOn whole now bytes
HopLeads whole (Err e) bytes = (rest : List Step) (end : Ending) → whole rest end (reply.Refused e.kind) bytes

-- the first step of a call
abbrev pub first_step : (List Step → Ending → Reply → List ℕ → Type 0) → Step → Going
first_step whole step = λ rest end r new. whole (step ∷ rest) end r new

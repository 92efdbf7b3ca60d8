-- The paths of a pattern that stand, in their order, up to what is refused. A pattern is a path, of which a step `*` is each element of a list, by its index, or each field of
-- a struct or group, by its name.
use Rattle.std.specs.Prelude.{ℕ, zero, suc, List, [], ◌∷◌, ◌++◌, Bool, true, false, ◌||◌, bytes_eq, codes, map, Option, Some, None, Result, Ok, Err}
use Rattle.capnp_device.specs.declared.error.ErrorKind.{ErrorKind}
use Rattle.capnp_device.specs.declared.error.ErrorKind.TheVariants.{InactiveMember}
use Rattle.capnp_wire.specs.Stream.{message_tree_of}
use Rattle.capnp_schema.specs.Schema.{Schemas, TypedField, fields_of}
use Rattle.capnp_schema.specs.Types.{SchemaType, StructType, VoidType}
use Rattle.capnp_records.specs.Call.{ElementAt, FieldNamed, FieldNumber, PathStep}
use Rattle.capnp_records.specs.Record.{Value}
use Rattle.capnp_patch.specs.Gets.{Part, Reached, is_empty, step_read}
use Rattle.capnp_patch.specs.Places.{root_reached}
use Rattle.capnp_queries.specs.Lengths.{value_length}

-- ---- the steps that a step stands for ----

abbrev pub is_each : PathStep → Bool
is_each (FieldNamed name) = bytes_eq name (codes "*")
is_each (FieldNumber i) = false
is_each (ElementAt i) = false

abbrev pub is_pattern : List PathStep → Bool
is_pattern [] = false
is_pattern (s ∷ steps) = is_each s || is_pattern steps

-- so many elements from an index on
abbrev pub elements_from : ℕ → ℕ → List PathStep
elements_from i zero = []
elements_from i (suc n) = ElementAt i ∷ elements_from (suc i) n

abbrev pub field_step : TypedField → PathStep
field_step f = FieldNamed f.field.name

abbrev pub counted_steps : Result ℕ ErrorKind → Result (List PathStep) ErrorKind
counted_steps (Ok n) = Ok (elements_from 0 n)
counted_steps (Err kind) = Err kind

-- the fields of a struct or group in the order of the schema, or the elements of a list; what has neither is refused as a step past it
abbrev pub steps_below : Schemas → SchemaType → Value → Result (List PathStep) ErrorKind
steps_below set (StructType b g) v = Ok (map field_step (fields_of set b))
steps_below set t v = counted_steps (value_length t v)

abbrev pub steps_meant : Schemas → (each : Bool) → Part → PathStep → Result (List PathStep) ErrorKind
steps_meant set false p s = Ok (s ∷ [])
steps_meant set true p s = steps_below set p.type p.value

-- ---- paths one after another ----

-- where no more is listed: a path whose last step is refused, and the type of what that is done at
pub record Stop : Type 0 where
  pub path : List PathStep
  pub kind : ErrorKind
  pub type : SchemaType

pub record Listing : Type 0 where
  pub paths : List (List PathStep)
  pub stop : Option Stop

abbrev pub listed : List (List PathStep) → Listing
listed paths = record { paths = paths; stop = None }

abbrev pub stopped : List PathStep → ErrorKind → SchemaType → Listing
stopped path kind t = record { paths = []; stop = Some (record { path = path; kind = kind; type = t }) }

-- some paths, and if nothing was refused more of them
abbrev pub and_then : List (List PathStep) → Option Stop → Listing → Listing
and_then paths (Some x) more = record { paths = paths; stop = Some x }
and_then paths None more = record { paths = paths ++ more.paths; stop = more.stop }

abbrev pub all_listed : (PathStep → Listing) → List PathStep → Listing
all_listed f [] = listed []
all_listed f (s ∷ steps) = and_then (f s).paths (f s).stop (all_listed f steps)

-- ---- the paths of a pattern ----

-- behind a `*` what isn't there because another member of its union is set is left out
abbrev pub is_left_out : (behind : Bool) → ErrorKind → Bool
is_left_out true InactiveMember = true
is_left_out behind kind = false

abbrev pub unread_listing : (is_out : Bool) → List PathStep → ErrorKind → SchemaType → Listing
unread_listing true path kind t = listed []
unread_listing false path kind t = stopped path kind t

-- the paths from what a step reads at the end of a path
abbrev pub read_listing : (Part → Listing) → (behind : Bool) → List PathStep → SchemaType → Reached → Listing
read_listing next behind path t (Ok p) = next p
read_listing next behind path t (Err kind) = unread_listing (is_left_out behind kind) path kind t

-- those of a step from a part that stands at the end of a path
abbrev pub step_listing : Schemas → (next : List PathStep → Part → Listing) → (behind is_last : Bool) → (here : List PathStep) → Part → PathStep → Listing
step_listing set next behind is_last here p s = read_listing (next (here ++ s ∷ [])) behind (here ++ s ∷ []) p.type (step_read set is_last p s)

abbrev pub steps_listing : (PathStep → Listing) → (here : List PathStep) → SchemaType → Result (List PathStep) ErrorKind → Listing
steps_listing f here t (Ok steps) = all_listed f steps
steps_listing f here t (Err kind) = stopped here kind t

-- The paths of a pattern from there: of no steps the one that leads there, and else for each step that the first one stands for, in their order, the paths of the rest at what
-- it reads.
unfoldable pub listing : Schemas → (behind : Bool) → (pattern : List PathStep) → (here : List PathStep) → Part → Listing
listing set behind [] here p = listed (here ∷ [])
listing set behind (s ∷ rest) here p =
    steps_listing (step_listing set (listing set (behind || is_each s) rest) (behind || is_each s) (is_empty rest) here p) here p.type (steps_meant set (is_each s) p s)

-- ---- the paths of a pattern at a root ----

abbrev pub root_listing : Schemas → (pattern : List PathStep) → Reached → Listing
root_listing set pattern (Ok p) = listing set false pattern [] p
root_listing set pattern (Err kind) = stopped [] kind VoidType

-- those of the first message in these bytes, whose root is read as a struct of a brand
abbrev pub listing_at : Schemas → ℕ → (pattern : List PathStep) → (bytes : List ℕ) → Listing
listing_at set b pattern bytes = root_listing set pattern (root_reached set b (message_tree_of bytes))

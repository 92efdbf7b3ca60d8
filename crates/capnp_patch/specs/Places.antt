-- Where what is asked for at a path can't be shown.
use Rattle.std.specs.Prelude.{ℕ, zero, suc, ◌<◌, ◌≤◌, ◌≡◌, List, [], ◌∷◌, length, map, Bool, true, false, Option, Some, None, Result, Ok, Err, string_bytes, ⊤}
use Rattle.capnp_device.specs.declared.error.ErrorKind.{ErrorKind}
use Rattle.capnp_wire.specs.Stream.{message_tree_of}
use Rattle.capnp_wire.specs.Tree.{Tree}
use Rattle.capnp_schema.specs.Schema.{Schemas, VoidValue}
use Rattle.capnp_schema.specs.StructHandles.{IsStruct, set_of}
use Rattle.capnp_schema.specs.Types.{SchemaType, StructType}
use Rattle.capnp_schema.specs.declared.schema.structs.StructSchema.{StructSchema}
use Rattle.capnp_records.specs.Call.{PathStep}
use Rattle.capnp_records.specs.Run.{root_type}
use Rattle.capnp_records.specs.Text.{print_levels}
use Rattle.capnp_check.specs.Faults.{ShownPart, most_steps, part_told, parts_within, refused_parts}
use Rattle.capnp_check.specs.Places.{IsPathTo, RefusedAs, TextParts, part_parts, place_words}
use Rattle.capnp_check.specs.declared.place.RefusedPlace.{RefusedPlace}
use Rattle.capnp_dynamic_readers.specs.Typed.{struct_type}
use Rattle.capnp_dynamic_readers.specs.declared.dynamic_value.Reader.{Reader as DynamicValue}
use Rattle.capnp_show_engine.specs.Show.{as_printed, message_root_value}
use Rattle.capnp_patch.specs.Gets.{Part, Reached, is_empty, is_group_type, path_read, reached_value, step_read, value_part_seen}
use Rattle.capnp_patch.specs.declared.place.Place.{Place}
use Rattle.capnp_patch.specs.declared.place.Place.TheVariants as place
use Rattle.capnp_patch.specs.declared.place.Refusal.{Refusal}
use Rattle.capnp_patch.specs.declared.place.Refusals.{Refusals}
use Rattle.capnp_patch.specs.declared.place.Refusals.TheVariants as refusals
use Rattle.capnp_patch.specs.declared.reach.RefusedStep.{RefusedStep}

-- the root of a message as it is read, or why it can't be
abbrev pub root_reached : Schemas → ℕ → Result Tree ErrorKind → Reached
root_reached set b (Ok root) = reached_value (root_type set b) (message_root_value set b root)
root_reached set b (Err kind) = Err kind

-- whether a type is that of structs
abbrev pub is_struct_type : SchemaType → Bool
is_struct_type (StructType b g) = true
is_struct_type t = false

-- the schema of a struct that a step is done at; none where it is done at no struct
abbrev pub IsWithin : Schemas → Option StructSchema → SchemaType → Type 0
IsWithin set (Some s) t = IsStruct s × (set_of s ≡ set) × (t ≡ struct_type s)
IsWithin set None t = is_struct_type t ≡ false

-- the step of this index is refused, and those before it are not
unfoldable pub IsRefusedStep : Schemas → List PathStep → Part → ℕ → ErrorKind → Option StructSchema → Type 0
IsRefusedStep set [] p i kind within = ⊥
IsRefusedStep set (s ∷ steps) p zero kind within = (step_read set (is_empty steps) p s ≡ Err kind) × IsWithin set within p.type
IsRefusedStep set (s ∷ steps) p (suc i) kind within = (q : Part) × (step_read set (is_empty steps) p s ≡ Ok q) × IsRefusedStep set steps q i kind within

-- what a walk along a path read
abbrev pub seen_walk : Result DynamicValue RefusedStep → Reached
seen_walk (Ok v) = Ok (value_part_seen v)
seen_walk (Err r) = Err r.error.kind

-- what a text shows of a part
abbrev pub shown_parts : Schemas → Part → TextParts
shown_parts set p = part_parts set print_levels VoidValue p.type (as_printed (is_group_type set p.type) p.value)

-- at the end of its steps from the part stands what is refused itself, and all before it has a text
pub record IsRefusedPart (set : Schemas) (p : Part) (x : RefusedPlace) : Type 0 where
  pub steps : IsPathTo set x.path.items (shown_parts set p) (RefusedAs x.kind)
  pub words : string_bytes x.words ≡ place_words set (shown_parts set p) x.path.items

-- A place that is refused: that of the message or its root, where these can't be read; of a step, where the root can; or in
-- what stands at the path.
abbrev pub IsRefusedAt : Schemas → ℕ → List PathStep → (bytes : List ℕ) → ErrorKind → Place → Type 0
IsRefusedAt set b path bytes kind place.Root = root_reached set b (message_tree_of bytes) ≡ Err kind
IsRefusedAt set b path bytes kind (place.Step x) =
    (p : Part) × (root_reached set b (message_tree_of bytes) ≡ Ok p) × (x.error.kind ≡ kind) × IsRefusedStep set path p x.index kind x.within
IsRefusedAt set b path bytes kind (place.Part x) =
    (p : Part) × (path_read set path (root_reached set b (message_tree_of bytes)) ≡ Ok p) × (x.kind ≡ kind) × IsRefusedPart set p x

-- the number of a refusal, if there is one
abbrev pub refusal_number : Option Refusal → Option ErrorKind
refusal_number None = None
refusal_number (Some r) = Some r.kind

-- ---- all that is refused ----

-- all parts that a text shows of a part
abbrev pub parts_shown : Schemas → (steps : ℕ) → Part → List ShownPart
parts_shown set n p = parts_within set n (shown_parts set p)

-- those of them that are refused, in the order of the text, each once
abbrev pub AreRefusedParts : Schemas → Part → List RefusedPlace → Type 0
AreRefusedParts set p places = (n : ℕ) → most_steps set ≤ n → map part_told places ≡ refused_parts (parts_shown set n p)

-- The message or its root alone, where these can't be read; a step alone, where the root can; or all parts of what stands at
-- the path that are refused.
abbrev pub AreRefusedAt : Schemas → ℕ → List PathStep → (bytes : List ℕ) → Refusals → Type 0
AreRefusedAt set b path bytes (refusals.Root kind) = root_reached set b (message_tree_of bytes) ≡ Err kind
AreRefusedAt set b path bytes (refusals.Step x) =
    (p : Part) × (root_reached set b (message_tree_of bytes) ≡ Ok p) × IsRefusedStep set path p x.index x.error.kind x.within
AreRefusedAt set b path bytes (refusals.Parts places) =
    (p : Part) × (path_read set path (root_reached set b (message_tree_of bytes)) ≡ Ok p) × AreRefusedParts set p places.items

-- what stands at the path has more parts than so many, itself among them
abbrev pub HasMoreParts : ℕ → Schemas → ℕ → List PathStep → (bytes : List ℕ) → Type 0
HasMoreParts limit set b path bytes =
    (p : Part) × (path_read set path (root_reached set b (message_tree_of bytes)) ≡ Ok p) × ((n : ℕ) → most_steps set ≤ n → limit < length (parts_shown set n p))

-- it has at most so many
abbrev pub HasFewParts : ℕ → Schemas → ℕ → List PathStep → (bytes : List ℕ) → Type 0
HasFewParts limit set b path bytes =
    (p : Part) × (path_read set path (root_reached set b (message_tree_of bytes)) ≡ Ok p) × ((n : ℕ) → most_steps set ≤ n → length (parts_shown set n p) ≤ limit)

-- no more parts than so many are looked at for what is told
abbrev pub AreFewLookedAt : ℕ → Schemas → ℕ → List PathStep → (bytes : List ℕ) → Refusals → Type 0
AreFewLookedAt limit set b path bytes (refusals.Root kind) = ⊤
AreFewLookedAt limit set b path bytes (refusals.Step x) = ⊤
AreFewLookedAt limit set b path bytes (refusals.Parts places) = HasFewParts limit set b path bytes

-- The JSON that is still to come of a struct in which a write stands: from a field on, of it or of a group in it, and out
-- through the groups around.
use Rattle.std.specs.Prelude.{ℕ, zero, suc, ◌+◌, ◌-◌, ◌^◌, ◌<◌, ◌≡◌, List, [], ◌∷◌, ◌++◌, Bool, true, false, not, ◌||◌, ◌==◌, codes, cond, drop, MatchOption, Option}
use Rattle.capnp_wire.specs.declared.struct_reader.StructReader.{StructReader}
use Rattle.capnp_schema.specs.FieldLists.{IsFieldOf, index_of, typed_of}
use Rattle.capnp_schema.specs.Schema.{Schemas, TypedField, field_at, fields_of, is_member, kind_target}
use Rattle.capnp_schema.specs.Steps.GroupWalks.{steps_into, steps_through}
use Rattle.capnp_schema.specs.StructHandles.{number_of, set_of}
use Rattle.capnp_schema.specs.declared.schema.fields.Field.{Field}
use Rattle.capnp_schema.specs.declared.schema.structs.StructSchema.{StructSchema}
use Rattle.capnp_records.specs.Reading.{non_union_parts}
use Rattle.capnp_records.specs.Record.{Active, is_there}
use Rattle.capnp_records.specs.Text.{Layout, deeper}
use Rattle.capnp_dynamic_readers.specs.Handles.{schema_of}
use Rattle.capnp_dynamic_readers.specs.Steps.GroupTexts.{read_part_at, union_at}
use Rattle.capnp_dynamic_readers.specs.Steps.PartsRead.{field_in}
use Rattle.capnp_dynamic_readers.specs.Steps.Shown.{part_seen, union_seen}
use Rattle.capnp_dynamic_readers.specs.declared.dynamic_struct.Reader.{Reader as StructHandle}
use Rattle.capnp_json_fields.specs.Names.{field_name}
use Rattle.capnp_json.specs.Json.{form_of, item, json_within, member_items, part_json, plain_items}
use Rattle.capnp_json.specs.Leaves.{text_json}
use Rattle.capnp_json.specs.Pieces.{Out, after, colon, ending, items_left, said, separator, shallower}
use Rattle.capnp_json.specs.Steps.Puts.{IsPut, Leads}
use Rattle.capnp_json.specs.Steps.Walks.{above, is_done, walk_brand, walk_depth, walk_index, walk_schema, walk_set}
use Rattle.capnp_json.specs.Steps.Walks as walks
use Rattle.capnp_json.specs.declared.output.Output.{Output}
use Rattle.capnp_json.specs.declared.standing.Standing.{Standing}
use Rattle.capnp_json.specs.declared.walk.Walk.{Walk}

-- ---- items ----

-- what stands before the value of a field
abbrev pub named : Layout → (first : Bool) → TypedField → Out
named at first f = after (said (separator at first)) (after (text_json (field_name f.field)) (said (colon at)))

-- what stands under a field
abbrev pub part_shown : ℕ → Schemas → StructReader → Layout → TypedField → Out
part_shown left set r at f = part_json set (json_within set left) at (form_of f) f.type (read_part_at set r f)

-- whether a non-union field has an item
abbrev pub is_item : StructHandle → TypedField → Bool
is_item h f = cond (is_member f.field) false (is_there (part_seen h f))

-- whether a member has one where it is active
abbrev pub is_member_item : StructHandle → TypedField → Bool
is_member_item h f = is_there (part_seen h f) || not (f.field.discriminant_value == 0)

-- the active member is this field; and has an item
pub record IsActiveMember (h : StructHandle) (f : Field) : Type 0 where
  pub field : IsFieldOf (schema_of h) (index_of f) f
  pub member : is_member (field_in h f).field ≡ true
  pub active : union_seen h ≡ Active (index_of f) (part_seen h (field_in h f))

pub record IsMemberItem (h : StructHandle) (f : Field) : Type 0 where
  pub active : IsActiveMember h f
  pub shown : is_member_item h (field_in h f) ≡ true

-- no member has an item
abbrev pub HasNoMemberItem : StructHandle → Type 0
HasNoMemberItem h = (left : ℕ) (at : Layout) → member_items (set_of (schema_of h)) (json_within (set_of (schema_of h)) left) at (number_of (schema_of h)) (union_seen h) ≡ []

-- ---- what is to come ----

-- the items of a brand from a field on, and after them the active member's; where nothing is left, none
abbrev pub items_onward : (done : Bool) → ℕ → Schemas → StructReader → Layout → ℕ → ℕ → List Out
items_onward true left set r at b i = []
items_onward false left set r at b i =
    plain_items set (json_within set left) at (drop i (fields_of set b)) (non_union_parts (read_part_at set r) (drop i (fields_of set b))) ++ member_items set (json_within set left) at b (union_at set r b)

-- whether nothing is left where a frame stands: it is behind a member
abbrev pub is_last : Schemas → ℕ → ℕ → Bool
is_last set b i = is_member (field_at set b (i - 1)).field

-- what is left of the struct and the groups around, of each behind the field of the group that is in it
unfoldable pub outward : ℕ → Schemas → StructReader → Layout → List (ℕ × ℕ) → Out
outward left set r at [] = said []
outward left set r at ((b, i) ∷ rest) = after (items_left (codes "}") at false (items_onward (is_last set b i) left set r at b i)) (outward left set r (shallower at) rest)

abbrev pub onward : (done : Bool) → ℕ → Schemas → StructReader → Layout → (first : Bool) → ℕ → ℕ → List (ℕ × ℕ) → Out
onward done left set r at first b i rest = after (items_left (codes "}") at first (items_onward done left set r at b i)) (outward left set r (shallower at) rest)

-- the same, where a walk stands so
abbrev pub walk_onward : ℕ → StructReader → Walk → Layout → (first : Bool) → Out
walk_onward left r w at first = onward (is_done w) left (walk_set w) r at first (walk_brand w) (walk_index w) (above w)

abbrev pub onward_of : ℕ → StructReader → Standing → Out
onward_of left r now = walk_onward left r now.walk now.at now.first

-- ---- how many steps are left ----

-- Past each field, into each group and out at the end; and from the end to the active member and into its group, which each
-- field may be.
abbrev pub frame_steps : (done : Bool) → (ℕ → ℕ) → List TypedField → ℕ → ℕ
frame_steps true group fs i = 1
frame_steps false group fs i = steps_through group (drop i fs) + steps_through group fs

-- the steps through a brand and through at most so many groups in one another
unfoldable pub brand_steps : (groups : ℕ) → Schemas → ℕ → ℕ
brand_steps zero set b = 0
brand_steps (suc groups) set b = frame_steps false (brand_steps groups set) (fields_of set b) 0

-- those of the struct and the groups around, where so many more groups are gone into
unfoldable pub steps_outward : Schemas → (groups : ℕ) → List (ℕ × ℕ) → ℕ
steps_outward set groups [] = 0
steps_outward set groups ((b, i) ∷ rest) = frame_steps (is_last set b i) (brand_steps groups set) (fields_of set b) i + steps_outward set (suc groups) rest

abbrev pub steps_left : (done : Bool) → Schemas → (groups : ℕ) → ℕ → ℕ → List (ℕ × ℕ) → ℕ
steps_left done set groups b i rest = frame_steps done (brand_steps groups set) (fields_of set b) i + steps_outward set (suc groups) rest

-- how many more groups a walk can go into
abbrev pub groups_left : Walk → ℕ
groups_left w = 2 ^ 64 - 1 - walk_depth w

abbrev pub walk_steps : Walk → ℕ
walk_steps w = steps_left (is_done w) (walk_set w) (groups_left w) (walk_brand w) (walk_index w) (above w)

-- ---- the steps of a write ----

-- a step: what is to come was to come before, but for what was put, and there are fewer steps left
pub record IsStep (left : ℕ) (r : StructReader) (now : Standing) (old new : Output) (next : Standing) : Type 0 where
  pub json : Leads old (onward_of left r now) new (onward_of left r next)
  pub fewer : walk_steps next.walk < walk_steps now.walk
  pub small : walk_depth now.walk < 2 ^ 64 → walk_depth next.walk < 2 ^ 64

-- at the first field of a struct whose bracket is open
pub record IsStart (s : StructSchema) (at : Layout) (now : Standing) : Type 0 where
  pub schema : walk_schema now.walk ≡ s
  pub index : walk_index now.walk ≡ 0
  pub depth : walk_depth now.walk ≡ 0
  pub done : is_done now.walk ≡ false
  pub above : above now.walk ≡ []
  pub first : now.first ≡ true
  pub layout : now.at ≡ deeper at

-- a walk stands behind a field of its struct: nothing is left where that is a member
pub record IsBehind (f : Field) (w : Walk) : Type 0 where
  pub field : IsFieldOf (walk_schema w) (index_of f) f
  pub done : is_done w ≡ is_member (typed_of f).field
  pub index : is_done w ≡ false → walk_index w ≡ index_of f + 1

-- the item of a field with what stands before it, and what is to come behind it
abbrev pub item_onward : ℕ → StructReader → Standing → Walk → Field → Out
item_onward left r now behind f =
    after (after (said (separator now.at now.first)) (item now.at (typed_of f) (part_shown left (walk_set behind) r now.at (typed_of f)))) (walk_onward left r behind now.at false)

-- the item of a field was put, or that of a group as far as its bracket
pub record IsItemPut (left : ℕ) (r : StructReader) (now : Standing) (behind : Walk) (f : Field) (old new : Output) (next : Standing) : Type 0 where
  pub json : Leads old (item_onward left r now behind f) new (onward_of left r next)
  pub fewer : walk_steps next.walk < steps_into (brand_steps (groups_left behind) (walk_set behind)) (kind_target (typed_of f).field.kind (typed_of f).type) + walk_steps behind
  pub small : walk_depth behind < 2 ^ 64 → walk_depth next.walk < 2 ^ 64

-- in the group of a field behind which a walk stands, whose bracket is open
pub record IsGroupOpened (at : Layout) (behind : Walk) (f : Field) (group : StructSchema) (next : Standing) : Type 0 where
  pub schema : walk_schema next.walk ≡ group
  pub index : walk_index next.walk ≡ 0
  pub depth : walk_depth next.walk ≡ walk_depth behind + 1
  pub small : walk_depth behind + 1 < 2 ^ 64
  pub done : is_done next.walk ≡ false
  pub above : above next.walk ≡ (walk_brand behind, index_of f + 1) ∷ above behind
  pub first : next.first ≡ true
  pub layout : next.at ≡ deeper at

-- behind a group whose bracket is closed
pub record IsLeft (now next : Standing) : Type 0 where
  pub walk : walks.IsOutside now.walk next.walk
  pub first : next.first ≡ false
  pub at : next.at ≡ shallower now.at

-- the closing bracket
abbrev pub closing : Standing → List ℕ
closing now = ending now.at now.first ++ codes "}"

-- it was put
abbrev pub IsClosed : Standing → Output → Output → Option Standing → Type 0
IsClosed now old new o = IsPut old (said (closing now)) new × MatchOption o (above now.walk ≡ []) (IsLeft now)

-- all that was to come was put, or a step was made
abbrev pub IsNext : ℕ → StructReader → Standing → Output → Output → Option Standing → Type 0
IsNext left r now old new o = MatchOption o (IsPut old (onward_of left r now) new) (IsStep left r now old new)

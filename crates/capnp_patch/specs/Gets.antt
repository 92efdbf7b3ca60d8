-- What stands at a path of a message, and its text.
use Rattle.std.specs.Prelude.{ℕ, ◌∷◌, List, [], Bool, true, false, Result, Ok, Err}
use Rattle.capnp_device.specs.declared.error.Error.{Error}
use Rattle.capnp_device.specs.declared.error.ErrorKind.{ErrorKind}
use Rattle.capnp_device.specs.declared.error.ErrorKind.TheVariants.{InactiveMember}
use Rattle.capnp_wire.specs.Stream.{message_tree_of}
use Rattle.capnp_wire.specs.Tree.{Tree}
use Rattle.capnp_schema.specs.Schema.{Schemas, node_of}
use Rattle.capnp_schema.specs.Types.{SchemaType, StructType}
use Rattle.capnp_records.specs.Call.{PathStep}
use Rattle.capnp_records.specs.Default.{read_of}
use Rattle.capnp_records.specs.Record as value
use Rattle.capnp_records.specs.Record.{Value}
use Rattle.capnp_records.specs.Run.{root_type}
use Rattle.capnp_records.specs.Step.{Found, StepTarget, step_target, walked_by_type}
use Rattle.capnp_records.specs.Text.{Out, text_of}
use Rattle.capnp_dynamic_readers.specs.Reads.{as_struct_value}
use Rattle.capnp_dynamic_readers.specs.Seen.{value_seen}
use Rattle.capnp_dynamic_readers.specs.Shown.{type_seen}
use Rattle.capnp_dynamic_readers.specs.declared.dynamic_value.Reader.{Reader as DynamicValue}
use Rattle.capnp_show_engine.specs.Show.{as_printed, message_root_value}

-- ---- where a path leads ----

-- a value that was read, under its type
pub record Part : Type 0 where
  pub type : SchemaType
  pub value : Value

abbrev pub Reached : Type 0
Reached = Result Part ErrorKind

-- what is read is a value or a refusal
abbrev pub reached_value : SchemaType → Value → Reached
reached_value t (value.Fault kind) = Err kind
reached_value t v = Ok (record { type = t; value = v })

-- what is read of a target: its value or default, and of a group the struct
abbrev pub handed_value : (is_group : Bool) → Value → Value
handed_value true v = as_struct_value v
handed_value false v = v

abbrev pub target_read : Schemas → Found → Reached
target_read set (Err kind) = Err kind
target_read set (Ok x) = reached_value x.type (handed_value x.is_group (read_of set x.default x.type x.part))

-- the tests of a step: whether a member is active, and, where other steps follow, whether it leads to a struct, group or list
abbrev pub tested_type : (is_last : Bool) → StepTarget → SchemaType → Found
tested_type true x t = Ok x
tested_type false x t = walked_by_type x t

abbrev pub tested_step : (is_last : Bool) → StepTarget → Found
tested_step is_last x = elim x.inactive [ true ↦ Err InactiveMember | false ↦ tested_type is_last x x.type ]

abbrev pub tested_found : (is_last : Bool) → Found → Found
tested_found is_last (Err kind) = Err kind
tested_found is_last (Ok x) = tested_step is_last x

-- where a step leads from a value, or its refusal, or that of what is read there
abbrev pub step_read : Schemas → (is_last : Bool) → Part → PathStep → Reached
step_read set is_last p s = target_read set (tested_found is_last (step_target set p.type p.value s))

abbrev pub is_empty : {A : Type 0} → List A → Bool
is_empty [] = true
is_empty (x ∷ xs) = false

-- where a path leads from there
abbrev pub path_read : Schemas → List PathStep → Reached → Reached
path_read set steps (Err kind) = Err kind
path_read set [] (Ok p) = Ok p
path_read set (s ∷ steps) (Ok p) = path_read set steps (step_read set (is_empty steps) p s)

-- ---- the text of what stands there ----

-- whether a type is a group's
abbrev pub is_group_type : Schemas → SchemaType → Bool
is_group_type set (StructType b g) = (node_of set b).is_group
is_group_type set t = false

abbrev pub reached_text : Schemas → (indented : Bool) → Reached → Out
reached_text set indented (Err kind) = Err kind
reached_text set indented (Ok p) = text_of set indented p.type (as_printed (is_group_type set p.type) p.value)

-- the value at a path of a root, read as a struct of a brand
abbrev pub value_at : Schemas → ℕ → List PathStep → Tree → Reached
value_at set b path root = path_read set path (reached_value (root_type set b) (message_root_value set b root))

abbrev pub text_at : Schemas → ℕ → List PathStep → (indented : Bool) → Result Tree ErrorKind → Out
text_at set b path indented (Ok root) = reached_text set indented (value_at set b path root)
text_at set b path indented (Err kind) = Err kind

-- the text at a path of the first message of a stream, or why there is none
abbrev pub got_text : Schemas → ℕ → List PathStep → (indented : Bool) → List ℕ → Out
got_text set b path indented bytes = text_at set b path indented (message_tree_of bytes)

-- ---- values as the code has them ----

abbrev pub value_part_seen : DynamicValue → Part
value_part_seen v = record { type = type_seen v; value = value_seen v }

abbrev pub seen_read : Result DynamicValue Error → Reached
seen_read (Ok v) = Ok (value_part_seen v)
seen_read (Err e) = Err e.kind

-- What a step into a field does, whatever the rest of the call does there.
use Rattle.std.specs.Prelude.{ℕ, ◌≡◌, List, Ok}
use Rattle.capnp_device.specs.declared.error.ErrorKind.{ErrorKind}
use Rattle.capnp_wire.specs.Tree.{StructTree}
use Rattle.capnp_schema.specs.Schema.{Schemas}
use Rattle.capnp_schema.specs.Types.{StructType}
use Rattle.capnp_schema.specs.FieldLists.{index_of, typed_of}
use Rattle.capnp_schema.specs.declared.schema.fields.Field.{Field}
use Rattle.capnp_records.specs.Call.{Op, PathStep, Refused, Reply}
use Rattle.capnp_records.specs.Record.{Record, Value}
use Rattle.capnp_records.specs.Step.{passed_target}
use Rattle.capnp_records.specs.Writes.Stand.{Stand, entered_field, left_field, step_index}
use Rattle.capnp_records.specs.Writes.TreeEnds.{TreeEnds}
use Rattle.capnp_records.specs.Writes.TreeRun.{TreeEnd, TreePasses, TreeWalks}
use Rattle.capnp_slots.specs.Fields.{field_brand, field_set}
use Rattle.capnp_call.specs.Ends.{Whole, stand_of, whole_of}
use Rattle.capnp_call.specs.Seen.{op_seen, path_seen, reply_seen, step_seen}
use Rattle.capnp_call.specs.Ways.{target_in}
use Rattle.capnp_call.specs.declared.calls.Reply.{Reply as ReplyOf}
use Rattle.capnp_call.specs.declared.calls.Step.{Step}
use Rattle.capnp_call.specs.declared.calls.Ending.{Ending}

-- a field that a step goes into: it is active, and leads to a struct, group or list
abbrev pub IsWalked : Field → StructTree → Type 0
IsWalked f s = (whole : Record → Value) → Ok (target_in whole f s) ≡ passed_target (target_in whole f s)

-- a field that is there is tested, and the walk goes on into it
abbrev pub FieldPasses : Field → TreeEnd → StructTree → Reply → StructTree → Type 0
FieldPasses f further old reply new =
    (w : Whole) (g : ℕ) (step : PathStep) → step_index (field_set f) (field_brand f) step ≡ index_of f →
    TreePasses (field_set f) further (StructType (field_brand f) g) (stand_of w old) step (passed_target (target_in (whole_of w) f old)) reply (stand_of w new)

-- whatever the rest of the call does in what the step enters, the call does that to the field
abbrev pub StepGoes : Field → StructTree → Type 0
StepGoes f s =
    (path : List PathStep) (last : PathStep) (op : Op) (reply : Reply) (inner : Stand) →
    TreeWalks (field_set f) (TreeEnds (field_set f) last op) path (typed_of f).type (entered_field (field_set f) (typed_of f) s) reply inner →
    FieldPasses f (TreeWalks (field_set f) (TreeEnds (field_set f) last op) path) s reply (left_field (typed_of f) s inner)

-- whatever the rest of the call is, it is refused at the field
abbrev pub StepStops : Field → StructTree → ErrorKind → Type 0
StepStops f s kind = (path : List PathStep) (last : PathStep) (op : Op) → FieldPasses f (TreeWalks (field_set f) (TreeEnds (field_set f) last op) path) s (Refused kind) s

-- ---- the rest of a call, as the code has it ----

-- the end of its path
abbrev pub EndsAt : Schemas → Ending → TreeEnd
EndsAt set end = TreeEnds set (step_seen end.call.now.last) (op_seen end.call.now.op)

-- a path is walked from a struct of a brand, or the struct of a group, and the operation is done at its end
unfoldable pub StructWalks : Schemas → ℕ → List Step → Ending → StructTree → ReplyOf → StructTree → Type 0
StructWalks set b path end old reply new = (w : Whole) (g : ℕ) → TreeWalks set (EndsAt set end) (path_seen path) (StructType b g) (stand_of w old) (reply_seen reply) (stand_of w new)

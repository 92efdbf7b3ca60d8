-- What a step into a field does, whatever the rest of the call does there: steps of the code.
use Rattle.std.specs.Prelude.{ℕ, ◌≡◌, List}
use Rattle.capnp_wire.specs.Tree.{StructTree}
use Rattle.capnp_schema.specs.Types.{StructType}
use Rattle.capnp_schema.specs.FieldLists.{index_of}
use Rattle.capnp_schema.specs.declared.schema.fields.Field.{Field}
use Rattle.capnp_records.specs.Call.{PathStep, Reply}
use Rattle.capnp_records.specs.Step.{fault_of}
use Rattle.capnp_records.specs.Writes.Stand.{step_index}
use Rattle.capnp_records.specs.Writes.TreeRun.{TreeEnd, TreeEnters, TreeWalks}
use Rattle.capnp_slots.specs.Fields.{field_brand, field_set}
use Rattle.capnp_call.specs.Ends.{Whole, stand_of, whole_of}
use Rattle.capnp_call.specs.Seen.{path_seen, reply_seen}
use Rattle.capnp_call.specs.Ways.{target_in}
use Rattle.capnp_call.specs.declared.calls.Reply.{Reply as ReplyOf}
use Rattle.capnp_call.specs.declared.calls.Step.{Step}
use Rattle.capnp_call.specs.declared.calls.Ending.{Ending}
use Rattle.capnp_call.specs.Walks.{EndsAt, FieldPasses}

-- the walk goes on into a field whose tests passed
abbrev pub FieldEnters : Field → TreeEnd → StructTree → Reply → StructTree → Type 0
FieldEnters f further old reply new =
    (w : Whole) (g : ℕ) (step : PathStep) → step_index (field_set f) (field_brand f) step ≡ index_of f →
    TreeEnters (field_set f) further (StructType (field_brand f) g) (stand_of w old) step (fault_of (target_in (whole_of w) f old).part) (target_in (whole_of w) f old) reply (stand_of w new)

-- the same into a field that is there, and along the rest of the path
unfoldable pub FieldWalks : Field → List Step → Ending → StructTree → ReplyOf → StructTree → Type 0
FieldWalks f rest end old reply new = FieldPasses f (TreeWalks (field_set f) (EndsAt (field_set f) end) (path_seen rest)) old (reply_seen reply) new

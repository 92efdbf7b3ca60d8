-- Calls and replies as the machine of records has them.
use Rattle.std.specs.Prelude.{List, map}
use Rattle.capnp_records.specs.Call.{PathStep, FieldNumber, FieldNamed, ElementAt, VoidPlain, BoolPlain, IntPlain, UIntPlain, EnumPlain, TextPlain, DataPlain, StructPlain, ListPlain, AnyPointerPlain}
use Rattle.capnp_records.specs.Call as record_call
use Rattle.capnp_slots.specs.SetValues.{source_of}
use Rattle.capnp_call.specs.declared.calls.Call.{Call}
use Rattle.capnp_call.specs.declared.calls.Op.{Op}
use Rattle.capnp_call.specs.declared.calls.Op.TheVariants as op
use Rattle.capnp_call.specs.declared.calls.Plain.{Plain}
use Rattle.capnp_call.specs.declared.calls.Plain.TheVariants as plain
use Rattle.capnp_call.specs.declared.calls.Reply.{Reply}
use Rattle.capnp_call.specs.declared.calls.Reply.TheVariants as reply
use Rattle.capnp_call.specs.declared.calls.Step.{Step}
use Rattle.capnp_call.specs.declared.calls.Step.TheVariants as step

abbrev pub step_seen : Step → PathStep
step_seen (step.Field i) = FieldNumber i
step_seen (step.Named name) = FieldNamed name.now
step_seen (step.Element i) = ElementAt i

abbrev pub path_seen : List Step → List PathStep
path_seen steps = map step_seen steps

abbrev pub op_seen : Op → record_call.Op
op_seen op.Get = record_call.Get
op_seen op.Has = record_call.Has
op_seen op.Which = record_call.Which
op_seen (op.Set v) = record_call.Set (source_of v)
op_seen op.Init = record_call.Init
op_seen (op.Initn n) = record_call.Initn n
op_seen op.Clear = record_call.Clear

abbrev pub call_seen : Call → record_call.Call
call_seen c = record { path = path_seen c.path.now; last = step_seen c.last; op = op_seen c.op }

abbrev pub answer_seen : Plain → record_call.Plain
answer_seen plain.Void = VoidPlain
answer_seen (plain.Bool b) = BoolPlain b
answer_seen (plain.Int8 x) = IntPlain 1 x
answer_seen (plain.Int16 x) = IntPlain 2 x
answer_seen (plain.Int32 x) = IntPlain 4 x
answer_seen (plain.Int64 x) = IntPlain 8 x
answer_seen (plain.UInt8 n) = UIntPlain 1 n
answer_seen (plain.UInt16 n) = UIntPlain 2 n
answer_seen (plain.UInt32 n) = UIntPlain 4 n
answer_seen (plain.UInt64 n) = UIntPlain 8 n
answer_seen (plain.Enum n) = EnumPlain n
answer_seen (plain.Text bytes) = TextPlain bytes.items
answer_seen (plain.«Data» bytes) = DataPlain bytes.items
answer_seen plain.Struct = StructPlain
answer_seen (plain.List n) = ListPlain n
answer_seen (plain.AnyPointer b) = AnyPointerPlain b

abbrev pub reply_seen : Reply → record_call.Reply
reply_seen reply.Done = record_call.Done
reply_seen (reply.Value p) = record_call.GivesValue (answer_seen p)
reply_seen (reply.Flag b) = record_call.Flag b
reply_seen (reply.Member i) = record_call.Member i
reply_seen (reply.Refused kind) = record_call.Refused kind

-- Whatever is read of the calls that are left stands behind those that were read.
use Rattle.std.proofs.Common.{drop}
use Rattle.capnp_records.specs.Run.{root_type}
use Rattle.capnp_schema.specs.StructHandles.{number_of, set_of}
use Rattle.capnp_words.specs.Seen.{call_text_seen}
use Rattle.riftcalico_core.specs.Calls.{IsCallRead}
use Rattle.riftcalico_core.specs.CallsSeen.{read_act_seen}
use Rattle.riftcalico_core.proofs.EachRead.{Goes}
use Rattle.riftcalico_core.proofs.calls.read_all_calls.Given as goal

abbrev pub invariant-loop-index : goal.invariant-loop-index
invariant-loop-index l =
    Goes (IsCallRead (set_of l.fn.schema) (root_type (set_of l.fn.schema) (number_of l.fn.schema))) call_text_seen read_act_seen l.words (drop l.index l.words) l.index l.calls.items

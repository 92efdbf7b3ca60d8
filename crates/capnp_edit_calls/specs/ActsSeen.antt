-- What is done in a run, as the machine has it.
use Rattle.std.specs.Prelude.{List}
use Rattle.capnp_records.specs.Call.{Call, PathStep}
use Rattle.capnp_call.specs.Seen.{call_seen, path_seen}
use Rattle.capnp_edits.specs.Changes.{Edit}
use Rattle.capnp_edit_calls.specs.ChangesSeen.{change_seen}
use Rattle.capnp_edit_calls.specs.declared.acts.Act.{Act}
use Rattle.capnp_edit_calls.specs.declared.acts.Act.TheVariants as act

-- a call, an edit of the list at the end of a path, or a copy to the end of one path from that of another
pub data ActSeen : Type 0 where
  CallAct : Call → ActSeen
  EditAct : (path : List PathStep) → Edit → ActSeen
  CopyAct : (path from : List PathStep) → ActSeen

abbrev pub act_seen : Act → ActSeen
act_seen (act.Call c) = CallAct (call_seen c)
act_seen (act.Edit e) = EditAct (path_seen e.path.now) (change_seen e.change)
act_seen (act.Copy c) = CopyAct (path_seen c.path.now) (path_seen c.from.now)

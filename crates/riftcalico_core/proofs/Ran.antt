-- A run that is answered is the answer to its calls and edits.
use Rattle.std.proofs.Common.{◌≡◌, ◌≤◌, List, map, Result, Ok, Err, IfOk, refl}
use Rattle.capnp_device.specs.declared.error.Error.{Error}
use Rattle.capnp_arena.specs.Message.{IsMessage, message_tree}
use Rattle.capnp_arena.specs.Segment.{segment}
use Rattle.capnp_arena.specs.Shape.{word_count}
use Rattle.capnp_arena.specs.declared.arena.Arena.{Arena}
use Rattle.capnp_call.specs.Messages.{most_words}
use Rattle.capnp_call.specs.declared.calls.Reply.{Reply}
use Rattle.capnp_edit_calls.specs.ActsSeen.{act_seen}
use Rattle.capnp_edit_calls.specs.declared.acts.Act.{Act}
use Rattle.capnp_patch.specs.Patches.{words_within}
use Rattle.capnp_wire.specs.Tree.{Tree}
use Rattle.riftcalico_core.specs.Answers.{IsCallsAnswer, IsRunAnswer}
use Rattle.riftcalico_core.specs.CallsSeen.{read_act_seen}
use Rattle.riftcalico_core.specs.declared.answer.Answer.{Answer}
use Rattle.riftcalico_core.specs.declared.job.CallsJob.{CallsJob}

pub calls_answered : (j : CallsJob) (leaves : List Act → List Reply → Tree → Type 0) (acts : List Act) (replies : List Reply) (m : Arena) (r : Result Answer Error)
    → map act_seen acts ≡ map read_act_seen j.calls.items → leaves acts replies (message_tree m) → IsMessage m → word_count (segment m) ≤ most_words (words_within j.limit)
    → IfOk r (IsRunAnswer j (map act_seen acts) replies (message_tree m)) → IfOk r (IsCallsAnswer j leaves)
calls_answered j leaves acts replies m (Ok a) same left is few answer = record {
  acts = acts;
  are = same;
  replies = replies;
  root = message_tree m;
  left = left;
  within = record { message = m; is = is; tree = refl; few = few };
  answer = answer;
}
calls_answered j leaves acts replies m (Err e) same left is few answer = tt

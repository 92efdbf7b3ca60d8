-- What the run left of an empty root, within the limit, is what the job's calls and edits leave; its answer is theirs.
use Rattle.std.proofs.Common.{rules, ◌≡◌, ◌≤◌, map}
use Rattle.capnp_arena.specs.Message.{message_tree}
use Rattle.capnp_arena.specs.Segment.{segment}
use Rattle.capnp_arena.specs.Shape.{word_count}
use Rattle.capnp_call.specs.Messages.{most_words}
use Rattle.capnp_edit_calls.specs.ActsLeft.{IsActsLeftOfNew}
use Rattle.capnp_edit_calls.specs.ActsSeen.{act_seen}
use Rattle.capnp_patch.specs.Patches.{words_within}
use Rattle.riftcalico_core.specs.CallsSeen.{read_act_seen}
use Rattle.riftcalico_core.proofs.Ran.{calls_answered}
use Rattle.riftcalico_core.proofs.answer.answer_new.Goals as goal

pub returns-clause-answer : goal.returns-clause-answer
returns-clause-answer c =
    let same : map act_seen c.in_ok-acts.acts.items ≡ map read_act_seen c.args.job.now.calls.items = search rules in
    let left : IsActsLeftOfNew c.args.job.now.schema c.in_ok-acts.acts.items c.in_ok-run.run'.replies.items (message_tree c.in_ok-run.run'.message) = search rules in
    let few : word_count (segment c.in_ok-run.run'.message) ≤ most_words (words_within c.args.job.now.limit) = c.in_ok-run.ensures.within in
    calls_answered c.args.job.now (IsActsLeftOfNew c.args.job.now.schema) c.in_ok-acts.acts.items c.in_ok-run.run'.replies.items c.in_ok-run.run'.message c.answer_run.result same left c.in_ok-run.ensures.message few (search (rules, c.answer_run.ensures.answer))

-- A run on trees is a run of the machine of records.
use Rattle.std.proofs.Common.{subst}
use Rattle.capnp_wire.specs.Edits.{struct_in}
use Rattle.capnp_arena.specs.Message.{message_tree}
use Rattle.capnp_schema.specs.Ranges.{HasRanges}
use Rattle.capnp_call.proofs.Making.{machine_runs}
use Rattle.capnp_call.proofs.Results.{if_ok}
use Rattle.capnp_call.proofs.Starts.{leaves_root}
use Rattle.capnp_call.proofs.message.run_root.Goals as goal

pub returns-clause-run : goal.returns-clause-run
returns-clause-run c =
    if_ok c.make_calls_on_root-replies.result
    (λ replies made. leaves_root c.args.schema (message_tree c.args.message.now) (message_tree c.make_calls_on_root-replies.new.message) c.args.calls.now replies.items c.make_calls_on_root-replies.ensures.here c.tree_is_sound.ensures.formed
    (machine_runs c.args.schema (struct_in (message_tree c.args.message.now)) (struct_in (message_tree c.make_calls_on_root-replies.new.message)) c.args.calls.now replies.items c.requires.stands
    (subst HasRanges c.get_set.ensures c.numbers_fit.ensures) c.overlay_law.ensures c.requires.root.room made))
    c.make_calls_on_root-replies.ensures.made

-- A run leads from the root's record to the one that it has then.
use Rattle.capnp_wire.specs.Edits.{struct_in}
use Rattle.capnp_arena.specs.Message.{message_tree}
use Rattle.capnp_schema.specs.StructHandles.{number_of, set_of}
use Rattle.capnp_call.specs.Messages.{new_root}
use Rattle.capnp_call.proofs.RunsRest.{run_rests}
use Rattle.capnp_call.proofs.Starts.{leaves_run, makes_from}
use Rattle.capnp_call.proofs.message.run_new.Goals as goal

pub run_root-requires-clause-root : goal.run_root-requires-clause-root
run_root-requires-clause-root c = c.in_ok-empty_root.ensures.root.root

pub returns-clause-run : goal.returns-clause-run
returns-clause-run c =
    leaves_run c.args.schema _ (message_tree c.empty_root.new.message) (message_tree c.run_root.new.message) c.args.calls.now c.in_ok-replies.replies.items c.in_ok-empty_root.ensures.root c.in_ok-replies.ensures.run

pub returns-clause-made : goal.returns-clause-made
returns-clause-made c =
    makes_from (set_of c.args.schema) (number_of c.args.schema) (new_root c.args.schema) (struct_in (message_tree c.empty_root.new.message)) (struct_in (message_tree c.run_root.new.message)) c.args.calls.now c.in_ok-replies.replies.items
    c.in_ok-empty_root.ensures.anew c.in_ok-replies.ensures.made

pub returns-clause-rests : goal.returns-clause-rests
returns-clause-rests c =
    run_rests c.args.schema (new_root c.args.schema) (struct_in (message_tree c.run_root.new.message)) c.args.calls.now c.in_ok-replies.replies.items
    (makes_from (set_of c.args.schema) (number_of c.args.schema) (new_root c.args.schema) (struct_in (message_tree c.empty_root.new.message)) (struct_in (message_tree c.run_root.new.message)) c.args.calls.now c.in_ok-replies.replies.items
    c.in_ok-empty_root.ensures.anew c.in_ok-replies.ensures.made)

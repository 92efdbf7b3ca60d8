-- A run on trees is a run of the machine of records.
use Rattle.std.proofs.Common.{subst}
use Rattle.capnp_schema.specs.Ranges.{HasRanges}
use Rattle.capnp_arena.specs.Built.{built_at}
use Rattle.capnp_call.proofs.Making.{machine_runs}
use Rattle.capnp_call.proofs.RunsRest.{run_rests}
use Rattle.capnp_call.proofs.Results.{if_ok}
use Rattle.capnp_call.proofs.Sizes.{keeps_size}
use Rattle.capnp_call.proofs.runs.run_on.Goals as goal

pub returns-clause-runs : goal.returns-clause-runs
returns-clause-runs c =
    if_ok c.make_calls-replies.result
    (λ replies. machine_runs c.args.schema (built_at c.args.arena.now c.args.place) (built_at c.make_calls-replies.new.arena c.args.place) c.args.calls.now replies.items c.requires.ready.stands
    (subst HasRanges c.get_set.ensures c.numbers_fit.ensures) c.overlay_law.ensures c.requires.ready.standing.room)
    c.make_calls-replies.ensures.made

pub returns-clause-rests : goal.returns-clause-rests
returns-clause-rests c =
    if_ok c.make_calls-replies.result (λ replies made. run_rests c.args.schema (built_at c.args.arena.now c.args.place) (built_at c.make_calls-replies.new.arena c.args.place) c.args.calls.now replies.items made)
    c.make_calls-replies.ensures.made

pub returns-clause-kept : goal.returns-clause-kept
returns-clause-kept c = keeps_size c.args.arena.now c.make_calls-replies.new.arena c.args.place c.requires.ready.standing.planted c.make_calls-replies.ensures.frame.planted c.struct_is_sound.ensures.formed

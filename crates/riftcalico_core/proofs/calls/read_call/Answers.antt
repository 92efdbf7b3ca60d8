-- A call is read with its value and its steps, or its value can't be read.
use Rattle.std.proofs.Common.{List, Ok, ap, ◌∙◌}
use Rattle.std.specs.Option.{option_map}
use Rattle.capnp_call.specs.Seen.{path_seen}
use Rattle.capnp_call.specs.declared.calls.Step.{Step}
use Rattle.capnp_queries.specs.Floats.{floats_at}
use Rattle.capnp_records.specs.Run.{root_type}
use Rattle.capnp_schema.specs.StructHandles.{number_of, set_of}
use Rattle.capnp_schema.specs.Types.{seen_type}
use Rattle.capnp_words.specs.Seen.{call_text_seen}
use Rattle.riftcalico_core.specs.CallsSeen.{given_value_source}
use Rattle.riftcalico_core.specs.SpotsSeen.{spot_seen}
use Rattle.riftcalico_core.proofs.CallsRead.{act_is, call_is}
use Rattle.riftcalico_core.proofs.calls.read_call.Goals as goal

pub returns-in-Ok-clause-read : goal.returns-in-Ok-clause-read
returns-in-Ok-clause-read c =
    call_is (set_of c.args.schema) (root_type (set_of c.args.schema) (number_of c.args.schema)) (call_text_seen c.args.word.now) (option_map spot_seen c.find_given_spot-spot.result) c.has_floats_at-floats.result (option_map seen_type c.find_given_type-target.result)
    (Ok (given_value_source c.in-Ok.value)) _ c.find_given_spot-spot.ensures.is
    (c.has_floats_at-floats.ensures ∙ (ap (λ (steps : List Step). floats_at (set_of c.args.schema) (number_of c.args.schema) (path_seen steps)) c.as_slice.ensures.value
    ∙ ap (floats_at (set_of c.args.schema) (number_of c.args.schema)) c.in_ok-steps.ensures.steps))
    c.find_given_type-target.ensures.is (rw (c.in-Ok.is) at c.in_ok-value.ensures.read)
    (ap Ok (act_is (call_text_seen c.args.word.now) (path_seen c.in_ok-steps.steps.items) (path_seen c.in_ok-from.from.items) (given_value_source c.in-Ok.value) c.in_ok-steps.ensures.steps c.in_ok-from.ensures.steps))

-- Where the code's values go, as the definitions have it.
use Rattle.capnp_schema.specs.Types.{seen_type}
use Rattle.capnp_call.specs.Seen.{step_seen}
use Rattle.capnp_value_texts.specs.Calls.{Target}
use Rattle.capnp_value_texts.specs.declared.target.Target.{Target as TargetHeld}

abbrev pub target_seen : TargetHeld → Target
target_seen t = record { step = step_seen t.step; type = seen_type t.of; floats = t.floats; stands = t.stands }

-- Walks along types as the code has them.
use Rattle.std.specs.Prelude.{Result, Ok, Err}
use Rattle.capnp_base.specs.declared.introspect.«Type».{«Type» as TypeHandle}
use Rattle.capnp_call.specs.Seen.{step_seen}
use Rattle.capnp_call.specs.declared.calls.Step.{Step}
use Rattle.capnp_schema.specs.Types.{SchemaType, seen_type}
use Rattle.riftcalico_core.specs.Replies.{Unknown}

abbrev pub along_seen : Result TypeHandle (TypeHandle × Step) → Result SchemaType Unknown
along_seen (Ok t) = Ok (seen_type t)
along_seen (Err unknown) = Err (seen_type unknown.0, step_seen unknown.1)

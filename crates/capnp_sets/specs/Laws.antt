-- A record stands for lists, or a cause of a refusal stands in it, and never both.
use Rattle.std.specs.Prelude.{◌≡◌, None}
use Rattle.capnp_device.specs.declared.error.ErrorKind.{ErrorKind}
use Rattle.capnp_records.specs.Record.{Record}
use Rattle.capnp_sets.specs.Lists.{has_cause, lists_meant}

-- with a cause there are no lists
abbrev pub CausesRefuse : Type 0
CausesRefuse = (r : Record) (kind : ErrorKind) → has_cause r kind → lists_meant r ≡ None

-- without lists there is a cause
abbrev pub RefusalsHaveCauses : Type 0
RefusalsHaveCauses = (r : Record) → lists_meant r ≡ None → (kind : ErrorKind) × has_cause r kind

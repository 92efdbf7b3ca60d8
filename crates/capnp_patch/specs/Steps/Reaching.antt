-- The tests of steps as the code makes them.
use Rattle.std.specs.Prelude.{Result, Ok, Err}
use Rattle.capnp_device.specs.declared.error.Error.{Error}
use Rattle.capnp_records.specs.Step.{Found, StepTarget}

-- what a test finds of a target
abbrev pub test_found : {A : Type 0} → StepTarget → Result A Error → Found
test_found x (Ok a) = Ok x
test_found x (Err e) = Err e.kind

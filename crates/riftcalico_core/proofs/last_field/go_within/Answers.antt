-- The field is of one list more.
use Rattle.std.proofs.Common.{◌+◌, arith}
use Rattle.riftcalico_core.proofs.LastFields.{within_typed}
use Rattle.riftcalico_core.proofs.last_field.go_within.Goals as goal

pub returns-in-Some-clause-typed : goal.returns-in-Some-clause-typed
returns-in-Some-clause-typed c = λ set e there. within_typed set e c.args.spot c.in-Some.spot.field c.in-Some.spot.depth (c.in-Some.spot.depth + 1) c.in-Some.is (omega arith) there

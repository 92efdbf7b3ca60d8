use Rattle.std.proofs.Common.{refl}
use Rattle.capnp_schema.proofs.Checking.SpanLemmas.{some_from_at}
use Rattle.capnp_schema.proofs.check.spans.some_holds.Goals as goal

pub returns-then-holds_spot : goal.returns-then-holds_spot
returns-then-holds_spot c = λ _. some_from_at _ _ _ _ c.loop-span-test.true (c.if-holds_spot.ensures refl)

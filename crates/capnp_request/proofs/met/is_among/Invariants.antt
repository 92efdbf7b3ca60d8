-- No id so far is it.
use Rattle.std.proofs.Common.{◌≡◌, drop}
use Rattle.capnp_request.specs.Scopes.{is_met}
use Rattle.capnp_request.proofs.met.is_among.Given as goal

abbrev pub invariant-loop-other : goal.invariant-loop-other
invariant-loop-other l = is_met l.ids l.id ≡ is_met (drop l.other-index l.ids) l.id

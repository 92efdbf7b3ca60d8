-- A null has no elements.
use Rattle.std.proofs.Common.{[], refl}
use Rattle.capnp_call.proofs.ListWalks.{nothing_ends, nothing_which}
use Rattle.capnp_call.proofs.walk.refusal_of_end.Goals as goal

pub returns-in-Which : goal.returns-in-Which
returns-in-Which c = nothing_which [] c.args.end refl c.in-Which.is

pub returns-in_default : goal.returns-in_default
returns-in_default c = nothing_ends [] c.args.end c.refusal_at_nothing.result refl c.in_default.not-Which c.refusal_at_nothing.ensures

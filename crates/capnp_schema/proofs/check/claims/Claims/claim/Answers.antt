use Rattle.std.proofs.Common.{◌++◌, ◌∷◌, []}
use Rattle.capnp_schema.proofs.Checking.LevelTimes.{data_claimed}
use Rattle.capnp_schema.proofs.check.claims.Claims.claim.Goals as goal

pub returns-else-count-gt64-clause-claimed : goal.returns-else-count-gt64-clause-claimed
returns-else-count-gt64-clause-claimed c = data_claimed (c.args.below.now ++ c.args.top ∷ []) c.args.now _ _ _ c.args.self.now _ c.claim_range.result c.in-Data.is c.claim_range.ensures.claimed

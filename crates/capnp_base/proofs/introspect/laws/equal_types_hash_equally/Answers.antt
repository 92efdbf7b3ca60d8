use Rattle.capnp_base.specs.contracts.introspect.TypeHash.TheImpl.Laws.{respects_eq-law}
use Rattle.capnp_base.proofs.introspect.laws.equal_types_hash_equally.Goals as goal

-- a law of the derived hash
pub returns : goal.returns
returns c = respects_eq-law c.args.one.now c.args.another.now

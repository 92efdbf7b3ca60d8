use Rattle.std.proofs.Common.{arith}
use Rattle.capnp_from_json.proofs.LeafReads.{nothing_there}
use Rattle.capnp_from_json.proofs.looks.look_at.Goals as goal

pub returns-in_default-clause-read : goal.returns-in_default-clause-read
returns-in_default-clause-read c = λ whole. nothing_there whole c.args.bytes.now (omega (arith, c.in_default.len_below))

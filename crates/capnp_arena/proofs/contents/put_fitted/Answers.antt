use Rattle.std.proofs.Common.{arith}
use Rattle.capnp_arena.proofs.Replaced.{put_all_of, put_some_of}
use Rattle.capnp_arena.proofs.contents.put_fitted.Goals as goal

pub returns-then-count-bytes-clause-put : goal.returns-then-count-bytes-clause-put
returns-then-count-bytes-clause-put c = put_all_of c.args.at c.args.count c.args.bytes.now c.args.out.now.items _ c.if-count-bytes.true c.put_bytes.ensures.put

pub returns-clause-put : goal.returns-clause-put
returns-clause-put c = put_some_of c.args.at c.args.count c.args.bytes.now c.args.out.now.items c.put_bytes-2.new.out.items _ (omega (arith, c.if-count-bytes.false)) c.requires c.put_bytes-2.ensures.put c.put_zeros.ensures.put

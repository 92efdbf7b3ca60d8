use Rattle.capnp_diffs.proofs.Whole.{ok_map, struct_put}
use Rattle.capnp_diffs.proofs.puts.put_struct.Goals as goal

pub returns-clause-added : goal.returns-clause-added
returns-clause-added c = ok_map c.put_change.result
    (λ added. struct_put c.args.schema c.args.new c.new.result c.args.step c.args.path.now c.args.out.now.items c.put_change.new.out.items c.new.ensures.schema c.new.ensures.reader c.in_ok-total_size.ensures.size.0 added)
    c.put_change.ensures.added

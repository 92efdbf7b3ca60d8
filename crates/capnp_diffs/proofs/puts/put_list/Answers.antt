use Rattle.capnp_schema.specs.Entries.{lists_seen}
use Rattle.capnp_diffs.proofs.Whole.{list_put, ok_map}
use Rattle.capnp_diffs.proofs.puts.put_list.Goals as goal

pub returns-clause-added : goal.returns-clause-added
returns-clause-added c = ok_map c.put_change.result
    (λ added. list_put (lists_seen c.args.schemas.now) c.args.element c.args.list c.new.result _ c.args.step c.args.path.now c.args.out.now.items c.put_change.new.out.items c.new.ensures.set c.new.ensures.element c.new.ensures.reader c.requires.same c.requires.value c.in_ok-total_size.ensures.size.0 added)
    c.put_change.ensures.added

-- The indices pushed are all below the field count, and sorting permutes them by name: so
-- they are all fields in the order of their names.
use Rattle.std.proofs.Common.{map, rules, arith}
use Rattle.capnp_schema.specs.Schema.{seen_field}
use Rattle.std.proofs.lemmas.Cmp.{nat_list_cmp_total}
use Rattle.std.proofs.lemmas.List.Sorted.{ranks_by}
use Rattle.std.proofs.lemmas.Fn.{always_returns_same}
use Rattle.capnp_schema.specs.Names.{name_at}
use Rattle.capnp_schema.proofs.NameOrder.{order_from_sort}
use Rattle.capnp_schema.proofs.SeenNames.{seen_count}
use Rattle.capnp_schema.proofs.names.name_order.Goals as goal

pub returns : goal.returns
returns c =
    order_from_sort (map seen_field c.args.fields.now) c.loop-i.indices.items c.sort_by.new.self.items
    (let n = seen_count c.args.fields.now in omega arith)
    (λ k h. let n = seen_count c.args.fields.now in c.loop-i.invariant.1 k (omega arith))
    c.sort_by.ensures.permutation
    (c.in_ok-sort_by.ensures.sorted _ (ranks_by nat_list_cmp_total (name_at (map seen_field c.args.fields.now))) (always_returns_same _ _ _ (λ a r f k. search rules)))

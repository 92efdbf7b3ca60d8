use Rattle.capnp_schema.proofs.ranges.entries_fit.Goals as goal

pub returns : goal.returns
returns c = record {
  nodes = rw c.deref.ensures.value at c.nodes_fit.ensures;
  enums = rw c.deref-2.ensures.value at c.enums_fit.ensures;
}

use Rattle.std.proofs.Common.{ap, not}
use Rattle.capnp_schema.specs.Schema.{seen_field}
use Rattle.capnp_schema.specs.Query.{is_non_union}
use Rattle.capnp_schema.proofs.Indices.{kept_next, seen_at}
use Rattle.capnp_schema.proofs.tables.non_union_table.Goals as goal

pub loop-i-preserved : goal.loop-i-preserved
loop-i-preserved c = kept_next is_non_union _ _ _ _ _ _ _ (seen_at seen_field _ _ _ c.loop-i-test.true c.index-fields-i.is) (ap not c.is_member.ensures) c.in_ok-push_if.ensures.added c.loop-i.invariant

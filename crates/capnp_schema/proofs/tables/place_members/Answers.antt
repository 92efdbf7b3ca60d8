-- The members have values below the table's length, no two the same. So placing one more leaves those before in their places.
use Rattle.std.proofs.Common.{arith, refl}
use Rattle.capnp_schema.specs.Schema.{seen_field}
use Rattle.capnp_schema.proofs.Indices.{seen_at}
use Rattle.capnp_schema.proofs.MemberTables.{none_placed, one_placed, value_below}
use Rattle.capnp_schema.proofs.tables.place_members.Goals as goal

pub loop-i-init : goal.loop-i-init
loop-i-init c = none_placed _ _ _ refl

pub place_member-requires : goal.place_member-requires
place_member-requires c = λ member. let below = value_below _ _ _ _ c.requires.apart (seen_at seen_field _ _ _ c.loop-i-test.true c.index-fields-i.is) member in let counted = c.loop-i.invariant.counted in omega arith

pub loop-i-preserved : goal.loop-i-preserved
loop-i-preserved c = one_placed _ _ _ _ _ _ c.requires.apart (seen_at seen_field _ _ _ c.loop-i-test.true c.index-fields-i.is) c.place_member.ensures c.loop-i.invariant

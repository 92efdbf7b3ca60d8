use Rattle.std.proofs.Common.{refl, arith}
use Rattle.capnp_from_json.proofs.Encoded.{next_group, no_group}
use Rattle.capnp_from_json.proofs.encodings.read_base64.Goals as goal

-- Each four letters give their bytes, or the first that are no group refuse the text.
pub groups-preserved : goal.groups-preserved
groups-preserved c =
    next_group c.groups.rest.now c.groups.out.items c.put_three.new.out.items _ _ c.in_ok-is_group.is_group (omega (arith, c.in-len4-up.len_at_least)) refl (omega arith)
    c.if-not-is_group.false c.groups.invariant c.in_ok-is_group.ensures.put

pub returns-then-not-is_group-clause-read : goal.returns-then-not-is_group-clause-read
returns-then-not-is_group-clause-read c =
    no_group c.groups.rest.now c.groups.out.items c.put_three.new.out.items _ _ c.in_ok-is_group.is_group (omega (arith, c.in-len4-up.len_at_least)) refl (omega arith)
    c.if-not-is_group.true c.groups.invariant c.in_ok-is_group.ensures.put

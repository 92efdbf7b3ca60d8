-- A moved number past 32 bits is the newer struct's number behind all older brands; with the
-- older number it is the pair that both sets share.
use Rattle.std.proofs.Common.{◌+◌, length}
use Rattle.capnp_schema.specs.Entries.{lists_seen}
use Rattle.capnp_versions.proofs.Sharing.{found_pair}
use Rattle.capnp_versions.proofs.shared.shared_pair.Goals as goal

pub returns-in-Err-clause-past : goal.returns-in-Err-clause-past
returns-in-Err-clause-past c = (
  c.in-Err.ensures.past.0,
  (
    record { older = c.in-Some.number; newer = c.in-Some-number_named.found + length (lists_seen c.args.older.now).brands },
    found_pair (lists_seen c.args.older.now) (lists_seen c.args.newer.now) c.args.index c.in-Some.number c.in-Some-number_named.found c.name_at.result.now c.in-Some.ensures.first c.name_at.ensures c.in-Some-number_named.ensures.found,
    c.in-Err.ensures.past.1,
  ),
)

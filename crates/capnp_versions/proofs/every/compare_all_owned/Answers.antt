-- The pairs that both sets have by their names are compared in the joined set.
use Rattle.std.proofs.Common.{string_bytes}
use Rattle.capnp_schema.specs.Entries.{lists_seen}
use Rattle.capnp_versions.proofs.Sharing.{compared_all, if_ok}
use Rattle.capnp_versions.proofs.every.compare_all_owned.Goals as goal

pub returns-clause-compared : goal.returns-clause-compared
returns-clause-compared c =
    if_ok c.compare_named.result
    (λ x h. compared_all (lists_seen c.args.older) (lists_seen c.args.newer) (lists_seen c.in_ok-joined.joined) c.in_ok-named.named.pairs.items (string_bytes c.in_ok-named.named.notes) x
    c.in_ok-joined.ensures.joined c.in_ok-named.ensures.pairs c.in_ok-named.ensures.notes h)
    c.compare_named.ensures.compared

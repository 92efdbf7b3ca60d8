use Rattle.std.proofs.Common.{arith}
use Rattle.capnp_schema.specs.Entries.{lists_seen}
use Rattle.capnp_structs.proofs.NamesMet.{none_met}
use Rattle.capnp_versions.proofs.Indexed.{all_named, named_count}
use Rattle.capnp_versions.proofs.names.index_names.Goals as goal

-- Each brand that a name leads to is there once all brands were passed.
pub loop-brand-init : goal.loop-brand-init
loop-brand-init c = none_met (lists_seen c.args.schemas.now) c.new-index.result c.new-index.ensures.empty

pub returns-clause-names : goal.returns-clause-names
returns-clause-names c =
    all_named (lists_seen c.args.schemas.now) c.numbered_brands-count.result c.loop-brand.index
    (named_count (lists_seen c.args.schemas.now) c.loop-brand.brand c.numbered_brands-count.result c.loop-brand.index (omega (arith, c.loop-brand-test.false, c.loop-brand.auto.brand-end)) c.loop-brand.invariant)
    c.numbered_brands-count.ensures.inside c.numbered_brands-count.ensures.few c.numbered_brands-count.ensures.all

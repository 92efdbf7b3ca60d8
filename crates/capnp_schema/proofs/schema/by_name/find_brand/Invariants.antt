use Rattle.std.proofs.Common.{◌≡◌, drop}
use Rattle.capnp_schema.specs.Entries.{lists_seen}
use Rattle.capnp_schema.specs.ByName.{brand_among, brand_named}
use Rattle.capnp_schema.proofs.schema.by_name.find_brand.Given as goal

abbrev pub invariant-loop-index : goal.invariant-loop-index
invariant-loop-index l = brand_named (lists_seen l.schemas) l.name ≡ brand_among (lists_seen l.schemas) (drop l.index (lists_seen l.schemas).brands) l.index l.name

use Rattle.std.proofs.Common.{◌≡◌, ◌++◌, drop, map}
use Rattle.capnp_schema.specs.GroupFields.{numbered_pair}
use Rattle.capnp_schema.proofs.tables.group_fields.Given as goal

abbrev pub invariant-loop-brand : goal.invariant-loop-brand
invariant-loop-brand l = l.fields.items ++ map numbered_pair (drop l.brand l.parents) ≡ map numbered_pair l.parents

use Rattle.std.proofs.Common.{arith}
use Rattle.capnp_schema.specs.Entries.{lists_seen}
use Rattle.capnp_schema.proofs.AnnotatedLemmas.{length_in}
use Rattle.capnp_schema.proofs.NamedTypes.{entry_named}
use Rattle.capnp_schema.proofs.schema.annotations.AnnotationList.get.Goals as goal

pub invariant_of-result : goal.invariant_of-result
invariant_of-result c = record { named = entry_named (lists_seen c.args.self.schemas.now) c.args.self.types.now c.args.index _ (omega (arith, c.requires, length_in c.args.self.stored.now c.args.self.types.now, c.args.self.have_types)) c.args.self.are_named }

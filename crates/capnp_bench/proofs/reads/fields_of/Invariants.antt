use Rattle.std.specs.Prelude.{All}
use Rattle.capnp_schema.specs.declared.schema.fields.Field.{Field}
use Rattle.capnp_dynamic_readers.specs.Reads.{BelongsTo}
use Rattle.capnp_bench.proofs.reads.fields_of.Given as goal

abbrev pub invariant-loop-i : goal.invariant-loop-i
invariant-loop-i l = All (λ (f : Field). BelongsTo f l.schema) l.fields.items

-- Whether the struct has the field.
use Rattle.std.proofs.Common.{arith, length, string_bytes, subst, ◌≤◌}
use Rattle.capnp_schema.specs.StructHandles.{number_of, set_of, struct_fields}
use Rattle.capnp_schema.specs.declared.schema.structs.StructSchema.{StructSchema}
use Rattle.capnp_versions.proofs.LinesPut.{no_field}
use Rattle.capnp_versions.proofs.lines.put_field_at.Goals as goal

pub returns-then-index-len-clause-put : goal.returns-then-index-len-clause-put
returns-then-index-len-clause-put c =
    no_field (set_of c.args.schema) (number_of c.args.schema) c.args.index c.args.word.now (string_bytes c.args.text.now)
    (subst (λ (s : StructSchema). length (struct_fields s) ≤ c.args.index) c.in_ok-fields.ensures (omega (arith, c.if-index-len.true, c.len.ensures)))

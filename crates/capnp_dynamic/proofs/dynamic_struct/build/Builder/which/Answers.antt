-- The active member of what is read is that of the whole struct.
use Rattle.std.proofs.Common.{Option, subst, ℕ}
use Rattle.capnp_wire.specs.Standing.{struct_of}
use Rattle.capnp_schema.specs.FieldLists.{IsFound}
use Rattle.capnp_schema.specs.StructHandles.{number_of, set_of}
use Rattle.capnp_records.specs.Record.{Left}
use Rattle.capnp_dynamic.specs.Built.{built_schema, built_struct}
use Rattle.capnp_dynamic.proofs.Heads.{which_cut}
use Rattle.capnp_dynamic.proofs.dynamic_struct.build.Builder.which.Goals as goal

pub returns : goal.returns
returns c =
    let schema = built_schema c.args.self.now in
    subst (λ (o : Option ℕ). IsFound schema o c.active_member.result)
    (which_cut (set_of schema) (Left 64) (struct_of c.get_struct_reader-reader.result) (built_struct c.args.self.now) c.get_struct_reader-reader.ensures.cut (number_of schema)) (c.active_member.ensures (Left 64))

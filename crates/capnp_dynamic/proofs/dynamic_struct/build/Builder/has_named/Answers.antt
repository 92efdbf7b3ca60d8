-- What is said of the field that was found is said of each of its name.
use Rattle.std.proofs.Common.{Ok, ap, ◌∙◌}
use Rattle.capnp_schema.specs.Query.{field_named}
use Rattle.capnp_schema.specs.StructHandles.{struct_records}
use Rattle.capnp_dynamic.specs.Built.{built_record, built_schema}
use Rattle.capnp_dynamic_readers.specs.Facts.Found.{found_belongs, same_there}
use Rattle.capnp_dynamic.proofs.dynamic_struct.build.Builder.has_named.Goals as goal

pub has-requires-clause-belongs : goal.has-requires-clause-belongs
has-requires-clause-belongs c =
    found_belongs (built_schema c.args.self.now) (field_named (struct_records (built_schema c.args.self.now)) c.args.field_name.now) c.in_ok-field.field c.in_ok-field.ensures.field

pub returns-clause-is : goal.returns-clause-is
returns-clause-is c = λ f named.
    let s = built_schema c.args.self.now in
    c.has.ensures
    ∙ ap Ok (same_there (built_record c.args.self.now) s (field_named (struct_records s) c.args.field_name.now) c.in_ok-field.field f c.in_ok-field.ensures.field named)

-- That it is a group, where the field leads to one.
use Rattle.std.proofs.Common.{ℕ, Option, codes, string_bytes, subst}
use Rattle.capnp_schema.specs.FieldLists.{field_schema, typed_of}
use Rattle.capnp_schema.specs.StructHandles.{number_of, set_of}
use Rattle.capnp_dynamic_readers.specs.Facts.Appended.{bytes_put}
use Rattle.capnp_dynamic_readers.specs.Pieces.{IsAppended}
use Rattle.capnp_structs.specs.Sides.{kind_side}
use Rattle.capnp_structs.proofs.sides.put_kind_side.Goals as goal

pub returns-in_ok-push_str-in-Some-clause-put : goal.returns-in_ok-push_str-in-Some-clause-put
returns-in_ok-push_str-in-Some-clause-put c =
    subst (λ (o : Option ℕ). IsAppended (string_bytes c.args.out.now) (kind_side (set_of (field_schema c.args.field)) (number_of (field_schema c.args.field)) (typed_of c.args.field) o) (string_bytes c.push_str.new.self))
    c.in-Some.ensures.number (bytes_put (codes "group") (string_bytes c.args.out.now) (string_bytes c.push_str.new.self) c.in_ok-push_str-in-Some.ensures.bytes)

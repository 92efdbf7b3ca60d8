-- A struct with a discriminant has a union, and what is written of its members and tag bit is that union's line.
use Rattle.std.proofs.Common.{ℕ, List, Option, Some, ◌≡◌, ◌++◌, ◌∙◌, ap, decimal, string_bytes}
use Rattle.capnp_schema.specs.Discriminant.{discriminant_of}
use Rattle.capnp_schema.specs.Schema.{Node}
use Rattle.capnp_schema.specs.StructHandles.{number_of, set_of, struct_node}
use Rattle.capnp_structs.specs.Fields.{union_line, union_text}
use Rattle.capnp_structs.proofs.Appended.{union_put}
use Rattle.capnp_structs.proofs.fields.put_union.Goals as goal

pub returns-clause-put : goal.returns-clause-put
returns-clause-put c =
    let members : ℕ = c.get_proto.result.now.body.discriminant_count in
    let here : union_text c.args.prefix.now members (Some c.in-Some.bit) ≡ union_line (set_of c.args.schema) c.args.prefix.now (number_of c.args.schema) =
    ap (λ (o : Option ℕ). union_text c.args.prefix.now members o) c.in-Some.ensures.is
    ∙ ap (λ (n : ℕ). union_text c.args.prefix.now n (discriminant_of (struct_node c.args.schema))) (ap (λ (n : Node). n.discriminant_count) c.get_proto.ensures) in
    let text : string_bytes c.write.new.self ≡ string_bytes c.args.out.now ++ union_text c.args.prefix.now members (Some c.in-Some.bit) =
    union_put c.args.prefix.now (decimal members) (decimal c.in-Some.bit) (string_bytes c.args.out.now) (string_bytes c.write.new.self) c.in_ok-write.ensures.bytes in
    text ∙ ap (λ (xs : List ℕ). string_bytes c.args.out.now ++ xs) here

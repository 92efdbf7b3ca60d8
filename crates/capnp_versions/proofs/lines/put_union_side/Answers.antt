-- Whether the struct has a union.
use Rattle.std.proofs.Common.{ℕ, Option, Some, decimal, string_bytes, ap, refl, subst, sym, ◌∙◌}
use Rattle.capnp_schema.specs.Discriminant.{discriminant_of}
use Rattle.capnp_schema.specs.Schema.{Node}
use Rattle.capnp_schema.specs.StructHandles.{struct_node}
use Rattle.capnp_dynamic_readers.specs.Pieces.{IsAppended}
use Rattle.capnp_versions.specs.Lines.{behind_word, union_side}
use Rattle.capnp_versions.proofs.LinesPut.{no_union, some_union}
use Rattle.capnp_versions.proofs.lines.put_union_side.Goals as goal

pub returns-in_default-clause-put : goal.returns-in_default-clause-put
returns-in_default-clause-put c =
    no_union c.args.word.now (struct_node c.args.schema).discriminant_count (discriminant_of (struct_node c.args.schema)) (string_bytes c.args.text.now) (sym c.get_discriminant.ensures.is ∙ c.in_default.is)

pub returns-clause-put : goal.returns-clause-put
returns-clause-put c =
    let members : ℕ = c.get_proto.result.now.body.discriminant_count in
    let old = string_bytes c.args.text.now in
    let new = string_bytes c.write.new.self in
    subst (λ (o : Option ℕ). IsAppended old (behind_word c.args.word.now (union_side (struct_node c.args.schema).discriminant_count o)) new) c.in-Some.ensures.is
    (subst (λ (n : ℕ). IsAppended old (behind_word c.args.word.now (union_side n (Some c.in-Some.bit))) new) (ap (λ (n : Node). n.discriminant_count) c.get_proto.ensures)
    (some_union c.args.word.now members c.in-Some.bit old new (decimal members) (decimal c.in-Some.bit) c.in_ok-write.ensures.bytes refl))

-- What stands above a group is behind its field.
use Rattle.std.proofs.Common.{ℕ, suc, ◌+◌, ◌-◌, ◌≡◌, ◌∷◌, ◌∙◌, ap, arith, sym}
use Rattle.capnp_schema.specs.Facts.GroupWalks.{frames_group, frames_outside, frames_start}
use Rattle.capnp_schema.specs.FieldLists.{field_schema as field_schema, index_of}
use Rattle.capnp_schema.specs.GroupWalks.{frames_above}
use Rattle.capnp_schema.specs.Schema.{Schemas, is_member}
use Rattle.capnp_schema.specs.StructHandles.{number_of, set_of, struct_field}
use Rattle.capnp_schema.specs.declared.schema.structs.StructSchema.{StructSchema}
use Rattle.capnp_json.specs.Steps.Walks.{walk_brand, walk_depth, walk_set}
use Rattle.capnp_json.proofs.walk.Walk.leave.Goals as goal

pub returns-then-self-eq0 : goal.returns-then-self-eq0
returns-then-self-eq0 c = frames_start (walk_set c.args.self) (walk_depth c.args.self) (walk_brand c.args.self) c.if-self-eq0.true

pub returns-in_default : goal.returns-in_default
returns-in_default c = frames_outside (walk_set c.args.self) (walk_depth c.args.self) (walk_brand c.args.self) (sym c.in_default.ensures.place)

pub returns : goal.returns
returns c =
    let s = c.get_containing_struct-schema.result in
    let f = c.in-Some.field in
    let next : c.next_index.result ≡ index_of c.in-Some.field + 1 = c.next_index.ensures ∙ ap (λ (n : ℕ). n + 1) c.get_index.ensures in
    let deep : walk_depth c.args.self ≡ suc (walk_depth c.args.self - 1) = omega (arith, c.if-self-eq0.false) in
    record {
      set = ap set_of c.get_containing_struct-schema.ensures.is ∙ c.in-Some.ensures.field.set;
      depth = omega (arith, c.if-self-eq0.false);
      frames =
          ap (λ (n : ℕ). (number_of s, n) ∷ frames_above (set_of s) (walk_depth c.args.self - 1) (number_of s)) next
          ∙ (ap (λ (z : StructSchema). (number_of z, index_of c.in-Some.field + 1) ∷ frames_above (set_of z) (walk_depth c.args.self - 1) (number_of z)) c.get_containing_struct-schema.ensures.is
          ∙ (ap (λ (z : Schemas). (number_of (field_schema f), index_of f + 1) ∷ frames_above z (walk_depth c.args.self - 1) (number_of (field_schema f))) c.in-Some.ensures.field.set
          ∙ sym (frames_group (walk_set c.args.self) (walk_depth c.args.self - 1) (walk_depth c.args.self) (walk_brand c.args.self) (number_of (field_schema f)) (index_of f) deep (sym c.in-Some.ensures.place))));
      field = index_of c.in-Some.field;
      index = next;
      done = c.is_member.ensures ∙ (ap is_member c.get_proto.ensures ∙ ap (λ (z : StructSchema). is_member (struct_field z (index_of f)).field) (sym c.get_containing_struct-schema.ensures.is));
    }

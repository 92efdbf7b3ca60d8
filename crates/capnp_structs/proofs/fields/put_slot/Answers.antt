-- What stands before the default, the default, and what stands behind it.
use Rattle.std.proofs.Common.{ℕ, List, ◌∙◌, ap, inl, inr, string_bytes, subst, sym}
use Rattle.capnp_schema.specs.Accepted.{NamesEntries}
use Rattle.capnp_schema.specs.FieldLists.{field_schema, index_of, typed_of}
use Rattle.capnp_schema.specs.Schema.{Schemas, TypedField, default_of}
use Rattle.capnp_schema.specs.StructHandles.{number_of, set_of}
use Rattle.capnp_schema.specs.Types.{seen_type}
use Rattle.capnp_json_fields.specs.Marks.{is_float}
use Rattle.capnp_structs.specs.Fields.{field_end}
use Rattle.capnp_records.specs.Text.{Out, after}
use Rattle.capnp_structs.specs.Values.{default_text}
use Rattle.capnp_structs.proofs.Appended.{default_here, three_by}
use Rattle.capnp_structs.proofs.Stopped.{default_stopped, handed_on, in_error, stopped_behind, stopped_front, stopped_led}
use Rattle.capnp_structs.proofs.TextsThere.{end_there}
use Rattle.capnp_structs.proofs.fields.put_slot.Goals as goal

pub put_kind-requires : goal.put_kind-requires
put_kind-requires c = record { named = subst (λ (z : Schemas). NamesEntries z (seen_type c.get_type.result)) (sym (c.get_set-schemas.ensures ∙ ap set_of c.get_containing_struct.ensures.is)) c.get_type.ensures.named }

pub returns-clause-put : goal.returns-clause-put
returns-clause-put c =
    three_by c.put_end.result _ (default_text (is_float (typed_of c.args.field)) (set_of (field_schema c.args.field)) (typed_of c.args.field).type (default_of (typed_of c.args.field).field))
    (field_end (set_of (field_schema c.args.field)) (number_of (field_schema c.args.field)) (index_of c.args.field)) (string_bytes c.args.out.now) _ _ _ c.in_ok-put_head.ensures.put
    (default_here _ (is_float (typed_of c.args.field)) _ (set_of (field_schema c.args.field)) _ (typed_of c.args.field).type _ (typed_of c.args.field).field _ _ c.is_float.ensures (c.get_set-schemas.ensures ∙ ap set_of c.get_containing_struct.ensures.is) c.get_type.ensures.is c.get_proto.ensures c.in_ok-put_kind.ensures.put)
    c.put_end.ensures.put

-- what stops the default stops the line, and so does what stops its end
pub returns-in_err-put_kind-clause-stopped : goal.returns-in_err-put_kind-clause-stopped
returns-in_err-put_kind-clause-stopped c =
    let set : Schemas = set_of (field_schema c.args.field) in
    let b : ℕ = number_of (field_schema c.args.field) in
    let i : ℕ = index_of c.args.field in
    let f : TypedField = typed_of c.args.field in
    let old : List ℕ = string_bytes c.args.out.now in
    let mid : List ℕ = string_bytes c.put_head.new.out in
    let default : Out = default_text (is_float f) set f.type (default_of f.field) in
    handed_on c.from_residual-in_err-put_kind.result _ c.args.limit old _ c.from_residual-in_err-put_kind.ensures.1
    (stopped_led c.args.limit _ (after default (field_end set b i)) old mid _ c.in_ok-put_head.ensures.put (λ r. r)
    (stopped_front c.args.limit default (field_end set b i) mid _ (end_there set b i) (λ r. inl r)
    (default_stopped c.args.limit mid _ _ (is_float f) _ set _ f.type _ f.field c.is_float.ensures
    (c.get_set-schemas.ensures ∙ ap set_of c.get_containing_struct.ensures.is) c.get_type.ensures.is c.get_proto.ensures c.in_err-put_kind.ensures.stopped)))

pub returns-clause-stopped : goal.returns-clause-stopped
returns-clause-stopped c =
    let set : Schemas = set_of (field_schema c.args.field) in
    let b : ℕ = number_of (field_schema c.args.field) in
    let i : ℕ = index_of c.args.field in
    let f : TypedField = typed_of c.args.field in
    let old : List ℕ = string_bytes c.args.out.now in
    let mid : List ℕ = string_bytes c.put_head.new.out in
    let mid' : List ℕ = string_bytes c.put_kind.new.out in
    let default : Out = default_text (is_float f) set f.type (default_of f.field) in
    in_error c.put_end.result c.args.limit _ _ _ _ c.put_end.ensures.stopped
    (λ kind h. stopped_led c.args.limit _ (after default (field_end set b i)) old mid kind c.in_ok-put_head.ensures.put (λ r. r)
    (stopped_behind c.args.limit default (field_end set b i) mid mid' kind
    (default_here _ (is_float f) _ set _ f.type _ f.field _ _ c.is_float.ensures (c.get_set-schemas.ensures ∙ ap set_of c.get_containing_struct.ensures.is) c.get_type.ensures.is c.get_proto.ensures c.in_ok-put_kind.ensures.put)
    (λ r. inr r) h))

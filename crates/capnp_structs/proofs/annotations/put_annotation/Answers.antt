-- An annotation is its id and then its value, told in its own set and type, and that set names the type's entries.
use Rattle.std.proofs.Common.{string_bytes, subst, sym}
use Rattle.capnp_schema.specs.Accepted.{NamesEntries}
use Rattle.capnp_schema.specs.AnnotationLists.{annotation_in, annotation_set}
use Rattle.capnp_schema.specs.Entries.{lists_seen}
use Rattle.capnp_schema.specs.Schema.{Schemas, seen_value}
use Rattle.capnp_schema.specs.Types.{seen_type}
use Rattle.capnp_structs.proofs.AnnotationsSaid.{annotation_put, annotation_stopped}
use Rattle.capnp_structs.proofs.Appended.{on_ok}
use Rattle.capnp_structs.proofs.Stopped.{in_error}
use Rattle.capnp_structs.proofs.annotations.put_annotation.Goals as goal

pub put_value-requires : goal.put_value-requires
put_value-requires c = record { named = subst (λ (z : Schemas). NamesEntries z (seen_type c.get_type.result)) (sym c.get_set-schemas.ensures) c.get_type.ensures.named }

pub returns-clause-put : goal.returns-clause-put
returns-clause-put c =
    on_ok c.put_value.result
    (annotation_put (annotation_set c.args.annotation) (annotation_in c.args.annotation) (lists_seen c.get_set-schemas.result.now) (seen_type c.get_type.result) (seen_value c.args.stored.now) c.get_id.result (string_bytes c.args.out.now)
    (string_bytes c.put_id.new.out) (string_bytes c.put_value.new.out) c.get_set-schemas.ensures c.get_type.ensures.is c.requires.stored c.get_id.ensures c.in_ok-put_id.ensures.put)
    c.put_value.ensures.put

pub returns-clause-stopped : goal.returns-clause-stopped
returns-clause-stopped c =
    in_error c.put_value.result c.args.limit _ _ _ _ c.put_value.ensures.stopped
    (λ kind h. annotation_stopped c.args.limit (annotation_set c.args.annotation) (annotation_in c.args.annotation) (lists_seen c.get_set-schemas.result.now) (seen_type c.get_type.result) (seen_value c.args.stored.now) c.get_id.result
    (string_bytes c.args.out.now) (string_bytes c.put_id.new.out) kind c.get_set-schemas.ensures c.get_type.ensures.is c.requires.stored c.get_id.ensures c.in_ok-put_id.ensures.put h)

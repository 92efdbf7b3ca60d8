-- The field behind so many is the one at their number.
use Rattle.std.proofs.Common.{ℕ, length, slice_index}
use Rattle.capnp_base.specs.IndexIter.{source, to_come}
use Rattle.capnp_schema.specs.FieldLists.{IsFieldOf, subset_indices, subset_schema}
use Rattle.capnp_schema.specs.Query.{non_union_fields}
use Rattle.capnp_schema.specs.StructHandles.{struct_records}
use Rattle.capnp_schema.specs.declared.schema.field_subset.FieldSubset.{FieldSubset}
use Rattle.capnp_schema.specs.declared.schema.fields.Field.{Field}
use Rattle.capnp_callers.proofs.NthIndex.{found_in, nth_of_all}
use Rattle.capnp_callers.proofs.members.non_union_after.Goals as goal

pub returns : goal.returns
returns c =
    let list = c.in_ok-get_non_union_fields.field-0 in
    let schema = c.args.schema in
    let nth = nth_of_all (λ (l : FieldSubset) (i : ℕ) (f : Field). IsFieldOf (subset_schema l) (slice_index (subset_indices l) i) f) (source c.iter-fields.result) list (length (subset_indices list))
    c.args.skipped (to_come c.iter-fields.result) (to_come c.nth_item.new.self) c.nth_item.result c.iter-fields.ensures.source c.iter-fields.ensures.to_come c.nth_item.ensures.1 in
    let are = c.in_ok-get_non_union_fields.ensures in
    found_in list schema (non_union_fields (struct_records schema)) c.args.skipped c.nth_item.result are.0 are.1 nth

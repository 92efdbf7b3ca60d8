-- The changes from one root to another.
use Rattle.std.proofs.Common.{◌≡◌, [], List, subst}
use Rattle.capnp_wire.specs.Standing.{struct_of}
use Rattle.capnp_wire.specs.declared.struct_reader.StructReader.{StructReader}
use Rattle.capnp_schema.specs.StructHandles.{number_of, set_of}
use Rattle.capnp_schema.specs.declared.schema.structs.StructSchema.{StructSchema}
use Rattle.capnp_records.specs.Reading.{reads}
use Rattle.capnp_dynamic_readers.specs.Handles.{reader_of, schema_of}
use Rattle.capnp_dynamic_readers.specs.declared.dynamic_struct.Reader.{Reader as StructHandle}
use Rattle.capnp_call.specs.declared.calls.Step.{Step}
use Rattle.capnp_diffs.specs.Changes.{IsRecordTold, record_changes}
use Rattle.capnp_diffs.specs.Found.{changes_seen}
use Rattle.capnp_diffs.specs.Steps.Adding.{IsRecordFound, whole_record}
use Rattle.capnp_diffs.specs.declared.change.Change.{Change as FoundChange}
use Rattle.capnp_diffs.proofs.Added.{added_alone}

module _ (old new : StructHandle) (s : StructSchema) (r q : StructReader) (is_schema : s ≡ schema_of new) (is_old : r ≡ reader_of old) (is_new : q ≡ reader_of new) (path : List Step) (before after : List FoundChange) where
  abbrev Found : Type 0
  Found = IsRecordFound (set_of s) (number_of s) (whole_record (set_of s) r (number_of s)) (whole_record (set_of s) q (number_of s)) path before after

  abbrev InPlace : Type 0
  InPlace = IsRecordFound (set_of (schema_of new)) (number_of (schema_of new)) (whole_record (set_of (schema_of new)) (reader_of old) (number_of (schema_of new))) (whole_record (set_of (schema_of new)) (reader_of new) (number_of (schema_of new))) path before after

  in_place : Found → InPlace
  in_place found =
      subst (λ (z : StructReader). IsRecordFound (set_of (schema_of new)) (number_of (schema_of new)) (whole_record (set_of (schema_of new)) (reader_of old) (number_of (schema_of new))) (whole_record (set_of (schema_of new)) z (number_of (schema_of new))) path before after) is_new
      (subst (λ (z : StructReader). IsRecordFound (set_of (schema_of new)) (number_of (schema_of new)) (whole_record (set_of (schema_of new)) z (number_of (schema_of new))) (whole_record (set_of (schema_of new)) q (number_of (schema_of new))) path before after) is_old
      (subst (λ (z : StructSchema). IsRecordFound (set_of z) (number_of z) (whole_record (set_of z) r (number_of z)) (whole_record (set_of z) q (number_of z)) path before after) is_schema found))

  pub root_found : path ≡ [] → before ≡ [] → Found → changes_seen after ≡ record_changes (set_of (schema_of new)) (number_of (schema_of new))
      (reads (set_of (schema_of new)) (struct_of (reader_of old)) (number_of (schema_of new))) (reads (set_of (schema_of new)) (struct_of (reader_of new)) (number_of (schema_of new)))
  unfolding whole_record
  root_found at_root nothing found = (added_alone (set_of (schema_of new)) path before after _ at_root nothing (in_place found).adds).found

  pub root_told : Found → IsRecordTold (set_of (schema_of new)) (number_of (schema_of new))
      (reads (set_of (schema_of new)) (struct_of (reader_of old)) (number_of (schema_of new))) (reads (set_of (schema_of new)) (struct_of (reader_of new)) (number_of (schema_of new)))
  unfolding whole_record
  root_told found = (in_place found).told

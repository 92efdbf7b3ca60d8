-- What two messages come to, by their roots and the changes between them.
use Rattle.std.proofs.Common.{ℕ, List, Ok, ap, inl, inr, subst, sym, ◌≡◌}
use Rattle.capnp_device.specs.declared.error.Error.{Error}
use Rattle.capnp_device.specs.declared.error.ErrorKind.{ErrorKind}
use Rattle.capnp_diffs.specs.Changes.{IsRecordTold, record_changes}
use Rattle.capnp_diffs.specs.Found.{AreReady, changes_seen}
use Rattle.capnp_diffs.specs.Refusals.{IsRefusal, pair_of}
use Rattle.capnp_diffs.specs.declared.change.Change.{Change as FoundChange}
use Rattle.capnp_dynamic_readers.specs.Handles.{reader_of, schema_of}
use Rattle.capnp_dynamic_readers.specs.declared.dynamic_struct.Reader.{Reader as StructHandle}
use Rattle.capnp_records.specs.Reading.{reads}
use Rattle.capnp_records.specs.Record.{Record}
use Rattle.capnp_schema.specs.StructHandles.{number_of, set_of}
use Rattle.capnp_schema.specs.declared.schema.structs.StructSchema.{StructSchema}
use Rattle.capnp_wire.specs.Standing.{struct_levels, struct_of}
use Rattle.riftcalico_core.specs.Diffs.{AreDiffs, HasRootRecord, IsDiffAnswer, IsLine, IsLineless, IsNotDiffed, IsPlaceTold, IsRootStruct, IsRootless, IsToldOrPut}
use Rattle.riftcalico_core.specs.Faults.{IsPlainFault}
use Rattle.riftcalico_core.specs.Inputs.{message_in}
use Rattle.riftcalico_core.specs.Lines.{IsFirstOf}
use Rattle.riftcalico_core.specs.declared.answer.Answer.{Answer}
use Rattle.riftcalico_core.specs.declared.fault.Blamed.TheVariants as blamed
use Rattle.riftcalico_core.specs.declared.fault.Fault.{Fault}
use Rattle.riftcalico_core.specs.declared.job.DiffJob.{DiffJob}

-- the record that a reader stands on, under a schema
abbrev pub record_under : StructSchema → StructHandle → Record
record_under s r = reads (set_of s) (struct_of (reader_of r)) (number_of s)

module _ (j : DiffJob) (old new : List ℕ) (has : message_in j.packed j.newer.now ≡ Ok new) where
  pub old_rootless : (f : Fault) (e : Error) → IsRootless old e.kind → IsPlainFault f e blamed.Input → IsNotDiffed j old f
  old_rootless f e cause p = inr (new, has, inl (record { blames = p.blamed; cause = subst (λ (x : Error). IsRootless old x.kind) (sym p.error) cause; note = p.note }))

  pub new_rootless : (f : Fault) (e : Error) → IsRootless new e.kind → IsPlainFault f e blamed.Calls → IsNotDiffed j old f
  new_rootless f e cause p = inr (new, has, inr (inl (record { blames = p.blamed; cause = subst (λ (x : Error). IsRootless new x.kind) (sym p.error) cause; note = p.note })))

  -- the structs that two handles stand on are those of the roots, and what refuses them is what is told
  pub not_found : (source target : StructHandle) → schema_of target ≡ j.schema → IsRootStruct old (struct_of (reader_of source)) (struct_levels (reader_of source)) →
      IsRootStruct new (struct_of (reader_of target)) (struct_levels (reader_of target)) → (k : ErrorKind) → IsRefusal (pair_of source target) k → (f : Fault) → f.error.kind ≡ k → IsPlaceTold j.schema old new f → IsNotDiffed j old f
  not_found source target same is_old is_new k cause f is told = inr (
    new,
    has,
    inr (inr (inl (record {
      pair = pair_of source target;
      roots = record { set_is = ap set_of same; brand_is = ap number_of same; is_old = is_old; is_new = is_new };
      cause = subst (λ (x : ErrorKind). IsRefusal (pair_of source target) x) (sym is) cause;
      told = told;
    }))),
  )

  module _ (source target : StructHandle) (changes : List FoundChange) (same : schema_of target ≡ j.schema)
      (is_old : HasRootRecord j.schema old (record_under j.schema source)) (is_new : HasRootRecord j.schema new (record_under j.schema target))
      (found : changes_seen changes ≡ record_changes (set_of (schema_of target)) (number_of (schema_of target)) (record_under (schema_of target) source) (record_under (schema_of target) target))
      (told : IsRecordTold (set_of (schema_of target)) (number_of (schema_of target)) (record_under (schema_of target) source) (record_under (schema_of target) target))
      (ready : AreReady (set_of (schema_of target)) changes) where
    are : AreDiffs j old changes
    are = record {
      newer = new;
      has = has;
      old = record_under j.schema source;
      new = record_under j.schema target;
      is_old = is_old;
      is_new = is_new;
      found = subst (λ (s : StructSchema). changes_seen changes ≡ record_changes (set_of s) (number_of s) (record_under s source) (record_under s target)) same found;
      told = subst (λ (s : StructSchema). IsRecordTold (set_of s) (number_of s) (record_under s source) (record_under s target)) same told;
      ready = subst (λ (s : StructSchema). AreReady (set_of s) changes) same ready;
    }

    pub diff_answered : (a : Answer) → IsToldOrPut j.schema j.limit changes a → IsDiffAnswer j old a
    diff_answered a h = record { changes = changes; are = are; answer = h }

    pub one_lineless : (f : Fault) → f.blamed ≡ blamed.Calls → IsFirstOf (IsLine j.schema) (λ left c. IsLineless left j.schema c f) j.limit changes → IsNotDiffed j old f
    one_lineless f blames h = inr (new, has, inr (inr (inr (record { blames = blames; changes = changes; are = are; first = h }))))

-- A step into a field of a struct, or of the struct of a group, by what is left in the field.
use Rattle.std.proofs.Common.{◌≡◌, Option, Some, None, Ok, Err, ap, inl, inr, sym, subst, ◌∙◌}
use Rattle.capnp_device.specs.declared.error.ErrorKind.{ErrorKind}
use Rattle.capnp_wire.specs.Tree.{StructTree}
use Rattle.capnp_schema.specs.FieldLists.{index_of, typed_of}
use Rattle.capnp_schema.specs.Schema.{TypedField, field_at}
use Rattle.capnp_schema.specs.Types.{StructType}
use Rattle.capnp_schema.specs.declared.schema.fields.Field.{Field}
use Rattle.capnp_records.specs.Call.{Reply, Refused}
use Rattle.capnp_records.specs.Part.{part_at}
use Rattle.capnp_records.specs.Reading.{reads}
use Rattle.capnp_records.specs.Record.{Record, Value}
use Rattle.capnp_records.specs.Step.{CanRefuse, Found, fault_of, passed_target}
use Rattle.capnp_records.specs.Writes.Stand.{FieldRests, FieldWithin, OnGroup, OnStruct, Stand, StepRests, entered_field, left_field, step_field}
use Rattle.capnp_records.specs.Writes.TreeRun.{TreeEnd, TreeEnters, TreeGoes, TreePasses}
use Rattle.capnp_slots.specs.Fields.{field_brand, field_set}
use Rattle.capnp_call.specs.Ends.{AsGroup, AsStruct, Whole, stand_of, whole_of}
use Rattle.capnp_call.specs.Walks.{FieldPasses}
use Rattle.capnp_call.specs.Steps.Walks.{FieldEnters}
use Rattle.capnp_call.specs.Ways.{target_in}

abbrev pub part_in : Field → StructTree → Value
part_in f s = part_at (reads (field_set f) s (field_brand f)) (typed_of f).field (index_of f)

module _ (f : Field) (further : TreeEnd) (s : StructTree) (reply : Reply) (s' : StructTree) where
  -- the part was entered, and is left as the rest of the call leaves it
  pub enters : fault_of (part_in f s) ≡ None → FieldWithin (field_set f) (typed_of f) s → (inner : Stand) →
      further (typed_of f).type (entered_field (field_set f) (typed_of f) s) reply inner → s' ≡ left_field (typed_of f) s inner → FieldEnters f further s reply s'
  enters sound within inner goes_on rest w g step e =
      subst (λ (o : Option ErrorKind). TreeEnters (field_set f) further (StructType (field_brand f) g) (stand_of w s) step o (target_in (whole_of w) f s) reply (stand_of w s')) (sym sound) (inr (go w))
    where
      named : typed_of f ≡ step_field (field_set f) (field_brand f) step
      named = ap (field_at (field_set f) (field_brand f)) (sym e)

      go : (w : Whole) → TreeGoes (field_set f) further (StructType (field_brand f) g) (stand_of w s) step (target_in (whole_of w) f s) reply (stand_of w s')
      go AsStruct = record {
        within = subst (λ (y : TypedField). FieldWithin (field_set f) y s) named within;
        there = tt;
        inner = inner;
        goes_on = subst (λ (y : TypedField). further (typed_of f).type (entered_field (field_set f) y s) reply inner) named goes_on;
        rest = ap OnStruct (rest ∙ ap (λ (y : TypedField). left_field y s inner) named);
      }
      go AsGroup = record {
        within = subst (λ (y : TypedField). FieldWithin (field_set f) y s) named within;
        there = tt;
        inner = inner;
        goes_on = subst (λ (y : TypedField). further (typed_of f).type (entered_field (field_set f) y s) reply inner) named goes_on;
        rest = ap OnGroup (rest ∙ ap (λ (y : TypedField). left_field y s inner) named);
      }

  -- what stands there can't be read
  pub unread : (kind : ErrorKind) → fault_of (part_in f s) ≡ Some kind → reply ≡ Refused kind → s' ≡ s → FieldEnters f further s reply s'
  unread kind fault is rest w g step e =
      subst (λ (o : Option ErrorKind). TreeEnters (field_set f) further (StructType (field_brand f) g) (stand_of w s) step o (target_in (whole_of w) f s) reply (stand_of w s')) (sym fault) (is, ap (stand_of w) rest)

  -- it can, but has no room
  pub short : (kind : ErrorKind) → fault_of (part_in f s) ≡ None → ((whole : Record → Value) → CanRefuse (field_set f) (target_in whole f s) kind) → (FieldRests (field_set f) (typed_of f) s → ⊥) →
      reply ≡ Refused kind → s' ≡ s → FieldEnters f further s reply s'
  short kind sound can moves is rest w g step e =
      subst (λ (o : Option ErrorKind). TreeEnters (field_set f) further (StructType (field_brand f) g) (stand_of w s) step o (target_in (whole_of w) f s) reply (stand_of w s')) (sym sound)
      (inl (record { kind = kind; can = can (whole_of w); moves = go w; refused = (is, ap (stand_of w) rest) }))
    where
      named : typed_of f ≡ step_field (field_set f) (field_brand f) step
      named = ap (field_at (field_set f) (field_brand f)) (sym e)

      go : (w : Whole) → StepRests (field_set f) (StructType (field_brand f) g) (stand_of w s) step → ⊥
      go AsStruct h = moves (subst (λ (y : TypedField). FieldRests (field_set f) y s) (sym named) h)
      go AsGroup h = moves (subst (λ (y : TypedField). FieldRests (field_set f) y s) (sym named) h)

  -- ---- the tests before ----

  pub passes : ((whole : Record → Value) → Ok (target_in whole f s) ≡ passed_target (target_in whole f s)) → FieldEnters f further s reply s' → FieldPasses f further s reply s'
  passes ok h w g step e =
      subst (λ (x : Found). TreePasses (field_set f) further (StructType (field_brand f) g) (stand_of w s) step x reply (stand_of w s')) (ok (whole_of w)) (h w g step e)

  pub stops : (kind : ErrorKind) → ((whole : Record → Value) → Err kind ≡ passed_target (target_in whole f s)) → reply ≡ Refused kind → s' ≡ s → FieldPasses f further s reply s'
  stops kind err is rest w g step e =
      subst (λ (x : Found). TreePasses (field_set f) further (StructType (field_brand f) g) (stand_of w s) step x reply (stand_of w s')) (err (whole_of w)) (is, ap (stand_of w) rest)

-- A set that is refused keeps everything, and one that is not keeps what it did not write.
use Rattle.std.proofs.Common.{Bool, Err, Ok, OnErr, OnOk, Result, ◌≡◌, subst, sym}
use Rattle.capnp_device.specs.declared.error.Error.{Error}
use Rattle.capnp_wire.specs.Tree.{StructTree}
use Rattle.capnp_schema.specs.Footprint.{Spot}
use Rattle.capnp_schema.specs.declared.schema.fields.Field.{Field}
use Rattle.capnp_records.specs.Call.{Source}
use Rattle.capnp_records.specs.Facts.FieldWrite.{writes_refl}
use Rattle.capnp_slots.specs.Fields.{Keeps, names_of}
use Rattle.capnp_slots.specs.Sources.{IsSet}

kept_same : (inside : Spot → Bool) (s s' : StructTree) → s' ≡ s → Keeps inside s s'
kept_same inside s s' e = subst (λ (x : StructTree). Keeps inside s x) (sym e) (record { writes = writes_refl inside s; formed = λ h. h })

pub set_keeps : {A : Type 0} (f : Field) (x : Source) (old new : StructTree) (r : Result A Error) → OnOk r (IsSet f x old new) → OnErr r (new ≡ old) → Keeps (names_of f) old new
set_keeps f x old new (Ok a) ok same = ok.kept
set_keeps f x old new (Err e) ok same = kept_same (names_of f) old new same

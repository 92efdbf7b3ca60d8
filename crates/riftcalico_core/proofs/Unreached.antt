-- What isn't reached by a path, or is no list, as it is told.
use Rattle.std.proofs.Common.{ℕ, List, Err, ap, inl, inr, subst, sym, ◌≡◌, ◌∙◌, ◌⊎◌}
use Rattle.capnp_device.specs.declared.error.ErrorKind.{ErrorKind}
use Rattle.capnp_patch.specs.Places.{IsRefusedAt}
use Rattle.capnp_patch.specs.declared.place.Refusal.{Refusal}
use Rattle.capnp_queries.specs.Lengths.{HasNoLength}
use Rattle.capnp_queries.specs.Reach.{IsOnWay, at_path}
use Rattle.capnp_queries.specs.declared.length.NoLength.{NoLength}
use Rattle.capnp_queries.specs.declared.length.NoLength.TheVariants.{NoList, Unreached}
use Rattle.capnp_records.specs.Call.{PathStep}
use Rattle.capnp_schema.specs.StructHandles.{number_of, set_of}
use Rattle.capnp_schema.specs.declared.schema.structs.StructSchema.{StructSchema}
use Rattle.riftcalico_core.specs.Gets.{HasLongCount, IsNoList, IsUnreached}
use Rattle.riftcalico_core.specs.Notes.{place_note}
use Rattle.riftcalico_core.specs.Steps.Told.{IsLengthTold, IsToldAs}
use Rattle.riftcalico_core.specs.declared.fault.Fault.{Fault}

pub unreached : (s : StructSchema) (bytes : List ℕ) (path : List PathStep) (r : Refusal) (f : Fault) →
    at_path (set_of s) (number_of s) path bytes ≡ Err r.kind → IsRefusedAt (set_of s) (number_of s) path bytes r.kind r.place → IsOnWay r.place →
    IsToldAs r.kind (place_note path r.place) f → IsUnreached s bytes path f
unreached s bytes path r f none at way told = record {
  none = none ∙ ap Err (sym told.kind);
  place = r.place;
  at = subst (λ (k : ErrorKind). IsRefusedAt (set_of s) (number_of s) path bytes k r.place) (sym told.kind) at;
  way = way;
  told = told.note;
}

pub uncounted : (limit : ℕ) (s : StructSchema) (bytes : List ℕ) (path : List PathStep) (why : NoLength) (f : Fault) →
    HasNoLength (set_of s) (number_of s) path bytes why → IsLengthTold path why f →
    IsUnreached s bytes path f ⊎ (IsNoList s bytes path f ⊎ HasLongCount limit s bytes path f)
uncounted limit s bytes path (Unreached r) f h told = inl (unreached s bytes path r f h.0 h.1 h.2 told)
uncounted limit s bytes path (NoList kind) f h told = inr (inl (record { part = h.0; stands = h.1; none = h.2 ∙ ap Err (sym told.kind); told = told.note }))

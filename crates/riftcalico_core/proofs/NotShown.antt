-- A refusal with its place, from what a search found.
use Rattle.std.proofs.Common.{ℕ, List, Bool, Some, ap, string_bytes, subst, sym, ◌≡◌, ◌∙◌}
use Rattle.capnp_check.specs.Refusals.{text_refusal}
use Rattle.capnp_device.specs.declared.error.ErrorKind.{ErrorKind}
use Rattle.capnp_patch.specs.Gets.{got_text}
use Rattle.capnp_patch.specs.Places.{IsRefusedAt, refusal_number}
use Rattle.capnp_patch.specs.declared.place.Refusal.{Refusal}
use Rattle.capnp_records.specs.Call.{PathStep}
use Rattle.capnp_schema.specs.StructHandles.{number_of, set_of}
use Rattle.capnp_schema.specs.declared.schema.structs.StructSchema.{StructSchema}
use Rattle.riftcalico_core.specs.Shown.{IsNotShown}
use Rattle.riftcalico_core.specs.Notes.{place_note}
use Rattle.riftcalico_core.specs.declared.fault.Fault.{Fault}
use Rattle.riftcalico_core.proofs.Told.{text_refused}

pub not_shown : (s : StructSchema) (path : List PathStep) (bytes : List ℕ) (f : Fault) (r : Refusal) → f.error.kind ≡ r.kind → string_bytes f.note ≡ place_note path r.place →
    ((i : Bool) → refusal_number (Some r) ≡ text_refusal (got_text (set_of s) (number_of s) path i bytes)) → IsRefusedAt (set_of s) (number_of s) path bytes r.kind r.place → IsNotShown s path bytes f
not_shown s path bytes f r e n number at = record {
  refused = λ i. text_refused f.error.kind (got_text (set_of s) (number_of s) path i bytes) (ap Some e ∙ number i);
  place = r.place;
  at = subst (λ (k : ErrorKind). IsRefusedAt (set_of s) (number_of s) path bytes k r.place) (sym e) at;
  told = n;
}

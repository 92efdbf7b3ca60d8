-- Whether what stands at a path has a text, or where it has none.
use Rattle.std.specs.Prelude.{ℕ, ◌≡◌, List, Bool, None, Err, string_bytes}
use Rattle.capnp_check.specs.Refusals.{text_refusal}
use Rattle.capnp_patch.specs.Gets.{got_text}
use Rattle.capnp_patch.specs.Places.{IsRefusedAt}
use Rattle.capnp_patch.specs.declared.place.Place.{Place}
use Rattle.capnp_records.specs.Call.{PathStep}
use Rattle.capnp_schema.specs.StructHandles.{number_of, set_of}
use Rattle.capnp_schema.specs.declared.schema.structs.StructSchema.{StructSchema}
use Rattle.riftcalico_core.specs.Notes.{place_note}
use Rattle.riftcalico_core.specs.declared.fault.Fault.{Fault}

-- there is one, in both forms
abbrev pub IsTextThere : StructSchema → List PathStep → (bytes : List ℕ) → Type 0
IsTextThere s path bytes = (indented : Bool) → text_refusal (got_text (set_of s) (number_of s) path indented bytes) ≡ None

-- there is none in both forms, and the refusal tells where
pub record IsNotShown (s : StructSchema) (path : List PathStep) (bytes : List ℕ) (f : Fault) : Type 0 where
  pub refused : (indented : Bool) → got_text (set_of s) (number_of s) path indented bytes ≡ Err f.error.kind
  pub place : Place
  pub at : IsRefusedAt (set_of s) (number_of s) path bytes f.error.kind place
  pub told : string_bytes f.note ≡ place_note path place

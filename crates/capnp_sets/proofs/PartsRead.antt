-- What the calls for fields of a known set answer is what the meta set's record has there.
use Rattle.std.proofs.Common.{ℕ, ℤ, pos, ◌≡◌, ◌∙◌, ap, sym, inr, arith, Bool, List, Ok, Some}
use Rattle.capnp_device.specs.declared.error.ErrorKind.{ErrorKind}
use Rattle.capnp_wire.specs.declared.list_reader.ListReader.{ListReader}
use Rattle.capnp_wire.specs.declared.struct_reader.StructReader.{StructReader}
use Rattle.capnp_schema.specs.Meta.{meta}
use Rattle.capnp_schema.specs.Types.{ListType, SchemaType}
use Rattle.capnp_records.specs.Part.{which_of}
use Rattle.capnp_records.specs.Reading.{element_type}
use Rattle.capnp_records.specs.Record as value
use Rattle.capnp_records.specs.Record.{Record, Value}
use Rattle.capnp_known.specs.Known.{read_at}
use Rattle.capnp_known.specs.Facts.PartsSeen.{part_seen}
use Rattle.capnp_sets.specs.Causes.{HasCause}
use Rattle.capnp_sets.specs.Steps.Handles.{list_in, meta_record_in}
use Rattle.capnp_sets.specs.Parts.{blob, integer, meta_read_at, number, text, truth}
use Rattle.capnp_sets.proofs.Faults.{fault_blob, fault_text}

pub there : (b i : ℕ) (r : Record) {v : Value} → v ≡ read_at meta b i r → v ≡ meta_read_at b i r
unfolding meta_read_at read_at
there b i r e = e

module _ (b i : ℕ) (r : Record) where
  pub number_there : {n : ℕ} → value.Number (pos n) ≡ read_at meta b i r → number (meta_read_at b i r) ≡ Ok n
  number_there e = ap number (sym (there b i r e))

  pub integer_there : {n : ℤ} → value.Number n ≡ read_at meta b i r → integer (meta_read_at b i r) ≡ Ok n
  integer_there e = ap integer (sym (there b i r e))

  pub truth_there : {q : Bool} → value.Truth q ≡ read_at meta b i r → truth (meta_read_at b i r) ≡ Ok q
  truth_there e = ap truth (sym (there b i r e))

  pub text_there : {bytes : List ℕ} → value.Text bytes ≡ read_at meta b i r → text (meta_read_at b i r) ≡ Ok bytes
  text_there e = ap text (sym (there b i r e))

  pub text_refused : {kind : ErrorKind} → value.Fault kind ≡ read_at meta b i r → HasCause (text (meta_read_at b i r)) kind
  text_refused e = fault_text _ _ (there b i r e)

  pub blob_there : {bytes : List ℕ} → value.Data bytes ≡ read_at meta b i r → blob (meta_read_at b i r) ≡ Ok bytes
  blob_there e = ap blob (sym (there b i r e))

  pub blob_refused : {kind : ErrorKind} → value.Fault kind ≡ read_at meta b i r → HasCause (blob (meta_read_at b i r)) kind
  blob_refused e = fault_blob _ _ (there b i r e)

-- a list of the type of a field's elements, where that is known by an equation
pub list_under : (t u : SchemaType) (l : ListReader) (v : Value) → t ≡ ListType u → list_in (element_type t) l ≡ v → list_in u l ≡ v
list_under t u l v same e = ap (λ x. list_in x l) (sym (ap element_type same)) ∙ e

-- the slot of a field is the same struct under the group's brand
pub slot_seen : (s : StructReader) → which_of (meta_record_in 2 s) ≡ Some 3 → meta_read_at 2 3 (meta_record_in 2 s) ≡ value.Struct (meta_record_in 3 s)
slot_seen s active = sym (there 2 3 (meta_record_in 2 s) (sym (part_seen meta s 2 3 (inr active) (omega arith))))

-- What an answer is, by its value, and the refusals of reads.
use Rattle.std.specs.Borrow.{Bor}
use Rattle.std.proofs.Common.{ℕ, ◌≡◌, sym, subst, List, Result, Ok, Err, IfErr, IfOk}
use Rattle.capnp_device.specs.declared.error.Error.{Error}
use Rattle.capnp_device.specs.declared.error.ErrorKind.{ErrorKind}
use Rattle.capnp_wire.specs.declared.list_reader.ListReader.{ListReader}
use Rattle.capnp_wire.specs.declared.struct_reader.StructReader.{StructReader}
use Rattle.capnp_schema.specs.Schema.{Schemas}
use Rattle.capnp_schema.specs.Types.{SchemaType}
use Rattle.capnp_records.specs.Facts.ReadFaults.{Sound}
use Rattle.capnp_records.specs.Record as value
use Rattle.capnp_records.specs.Record.{Record, Value}
use Rattle.capnp_request.specs.Steps.Seen.{record_seen}
use Rattle.capnp_request.specs.declared.handles.RequestRecord.{RequestRecord}
use Rattle.capnp_known.specs.Known.{data_value, list_in, list_value, read_at, record_in, struct_value, text_value}
use Rattle.capnp_request.specs.Parts.{request_read_at, request_struct}
use Rattle.capnp_request.specs.Refusals.{IsUnstrict}
use Rattle.capnp_request.specs.RequestSet.{request_set}
use Rattle.capnp_request.proofs.PartsRead.{there}
use Rattle.capnp_request.proofs.Sounds.{of_reads, read_at_sound, seen_sound}

pub text_taken : (r : Result (Bor (List ℕ)) Error) (v : Value) → text_value r ≡ v → IfOk r (λ x. value.Text x.now ≡ v)
text_taken (Ok x) v e = e
text_taken (Err f) v e = tt

pub text_refused : (r : Result (Bor (List ℕ)) Error) (v : Value) → text_value r ≡ v → IfErr r (λ e. value.Fault e.kind ≡ v)
text_refused (Ok x) v e = tt
text_refused (Err f) v e = e

pub data_taken : (r : Result (Bor (List ℕ)) Error) (v : Value) → data_value r ≡ v → IfOk r (λ x. value.Data x.now ≡ v)
data_taken (Ok x) v e = e
data_taken (Err f) v e = tt

pub data_refused : (r : Result (Bor (List ℕ)) Error) (v : Value) → data_value r ≡ v → IfErr r (λ e. value.Fault e.kind ≡ v)
data_refused (Ok x) v e = tt
data_refused (Err f) v e = e

-- a struct or a list that is met
struct_taken : (set : Schemas) (inner : ℕ) (x : StructReader) (v : Value) → struct_value set inner (Ok x) ≡ v → value.Struct (record_in set inner x) ≡ v
struct_taken set inner x v e = e

list_taken : (set : Schemas) (t : SchemaType) (l : ListReader) (v : Value) → list_value set t (Ok l) ≡ v → list_in set t l ≡ v
list_taken set t l v e = e

module _ (b i inner : ℕ) {r q : Record} (same : r ≡ q) where
  pub struct_there : (x : StructReader) → struct_value request_set inner (Ok x) ≡ read_at request_set b i r → value.Struct (record_in request_set inner x) ≡ request_read_at b i q
  struct_there x e = there b i same (struct_taken request_set inner x _ e)

  pub list_there : (l : ListReader) → list_value request_set (request_struct inner) (Ok l) ≡ read_at request_set b i r → list_in request_set (request_struct inner) l ≡ request_read_at b i q
  list_there l e = there b i same (list_taken request_set (request_struct inner) l _ e)

-- a refusal is one of those of reads
pub fault_kinds : (kind : ErrorKind) (s : RequestRecord) (b i : ℕ) → value.Fault kind ≡ request_read_at b i (record_seen s) → IsUnstrict kind
fault_kinds kind s b i h = of_reads kind (subst Sound (sym h) (read_at_sound b i (record_seen s) (seen_sound s)))

pub refused_kinds : {A : Type 0} (r : Result A Error) (s : RequestRecord) (b i : ℕ) → IfErr r (λ e. value.Fault e.kind ≡ request_read_at b i (record_seen s)) → IfErr r (λ e. IsUnstrict e.kind)
refused_kinds (Ok a) s b i h = tt
refused_kinds (Err error) s b i h = fault_kinds error.kind s b i h

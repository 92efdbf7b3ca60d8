-- Values that were taken out of a part, and the refusals of a part that can't be read.
use Rattle.std.proofs.Common.{ℕ, ◌≡◌, ◌∙◌, ap, refl, sym, Bool, true, false, List, Ok}
use Rattle.std.proofs.lemmas.Str.{IsUtf8-from_is_utf8, is_utf8-from_IsUtf8}
use Rattle.std.specs.Str.{IsUtf8, is_utf8}
use Rattle.capnp_device.specs.declared.error.ErrorKind.{ErrorKind}
use Rattle.capnp_device.specs.declared.error.ErrorKind.TheVariants.{NameNotUtf8}
use Rattle.capnp_records.specs.Record as value
use Rattle.capnp_records.specs.Record.{Record, Value}
use Rattle.capnp_sets.specs.Causes.{HasCause, SetRead, refused_read}
use Rattle.capnp_sets.specs.Parts.{blob, list, name, name_meant, struct, text, unless_fault}
use Rattle.capnp_schema.specs.Types.{SchemaType}
use Rattle.capnp_sets.proofs.AppliedReads.{only_cause}

-- a fault's refusal is a cause, however it is taken
faulted : {A : Type 0} (f : Value → SetRead A) (v : Value) (kind : ErrorKind) → f (value.Fault kind) ≡ refused_read kind → value.Fault kind ≡ v → HasCause (f v) kind
faulted f v kind e h = only_cause kind (f v) (sym (ap f h) ∙ e)

pub fault_text : (v : Value) (kind : ErrorKind) → value.Fault kind ≡ v → HasCause (text v) kind
fault_text v kind = faulted text v kind refl

pub fault_name : (v : Value) (kind : ErrorKind) → value.Fault kind ≡ v → HasCause (name v) kind
fault_name v kind = faulted name v kind refl

pub fault_blob : (v : Value) (kind : ErrorKind) → value.Fault kind ≡ v → HasCause (blob v) kind
fault_blob v kind = faulted blob v kind refl

pub fault_struct : {A : Type 0} (f : Record → SetRead A) (v : Value) (kind : ErrorKind) → value.Fault kind ≡ v → HasCause (struct f v) kind
fault_struct f v kind = faulted (struct f) v kind refl

pub fault_list : {A : Type 0} (t : SchemaType) (f : Value → SetRead A) (v : Value) (kind : ErrorKind) → value.Fault kind ≡ v → HasCause (list t f v) kind
fault_list t f v kind = faulted (list t f) v kind refl

-- a list of what is read stands for its own refusal where it is a fault
pub unless_listed : {A : Type 0} (t : SchemaType) (f : Value → SetRead A) (v : Value) → unless_fault (list t f) v ≡ list t f v
unless_listed t f (value.Fault kind) = refl
unless_listed t f v = refl

pub utf8_name : (bytes : List ℕ) → IsUtf8 bytes → name_meant bytes ≡ Ok bytes
utf8_name bytes utf8 = go (is_utf8 bytes) (is_utf8-from_IsUtf8 bytes utf8)
  where
    go : (q : Bool) → q ≡ true → (elim q as (λ _. SetRead (List ℕ)) [ true ↦ Ok bytes | false ↦ refused_read NameNotUtf8 ]) ≡ Ok bytes
    go true e = refl
    go false e = cc

pub broken_name : (bytes : List ℕ) → (IsUtf8 bytes → ⊥) → HasCause (name_meant bytes) NameNotUtf8
broken_name bytes broken = only_cause NameNotUtf8 (name_meant bytes) (go (is_utf8 bytes) refl)
  where
    go : (q : Bool) → is_utf8 bytes ≡ q → (elim q as (λ _. SetRead (List ℕ)) [ true ↦ Ok bytes | false ↦ refused_read NameNotUtf8 ]) ≡ refused_read NameNotUtf8
    go true e = absurd (broken (IsUtf8-from_is_utf8 bytes e))
    go false e = refl

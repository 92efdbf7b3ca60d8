-- Which kinds the causes are that stand in parts of a record whose faults are those of reads.
use Rattle.std.proofs.Common.{ℕ, ◌≡◌, ◌⊎◌, refl, subst, inl, inr, zero, suc, pos, Bool, true, false, cond, List, [], ◌∷◌, slice_get, Ok, Err}
use Rattle.std.specs.Option.{unwrap_or}
use Rattle.std.specs.Prelude.{⊤}
use Rattle.std.specs.Str.{is_utf8}
use Rattle.capnp_device.specs.declared.error.ErrorKind.{ErrorKind}
use Rattle.capnp_device.specs.declared.error.ErrorKind.TheVariants.{BadPointer, CapabilityPointer, NameNotUtf8, TextNotTerminated, TooDeep, TypeMismatch, WrongElementSize, WrongPointerKind}
use Rattle.capnp_schema.specs.Meta.{meta, meta_struct}
use Rattle.capnp_schema.specs.Schema.{FieldKind, Group, Slot, VoidValue, default_of, field_at}
use Rattle.capnp_schema.specs.Types.{SchemaType}
use Rattle.capnp_records.specs.Default.{read_of}
use Rattle.capnp_records.specs.Facts.ReadFaults.{AllSound, IsReadKind, RecordSound, Sound, part_sound, read_of_sound}
use Rattle.capnp_records.specs.Part.{part_at}
use Rattle.capnp_records.specs.Record as value
use Rattle.capnp_records.specs.Record.{MoreValues, NoValues, Record, Value, Values}
use Rattle.capnp_dynamic_readers.specs.Reads.{handed_out}
use Rattle.capnp_sets.specs.Causes.{HasCause, SetRead, refused_read, ◌<*>◌}
use Rattle.capnp_sets.specs.Lists.{elements_of}
use Rattle.capnp_sets.specs.Parts.{all_of, blob, integer, list, name, name_meant, number, meta_read_at, struct, structs, text, truth, unless_fault}
use Rattle.capnp_sets.specs.Refusals.{is_set_kind}

abbrev pub IsSetKind : ErrorKind → Type 0
IsSetKind kind = is_set_kind kind ≡ true

-- the kinds of reads are among them
pub of_reads : (kind : ErrorKind) → IsReadKind kind → IsSetKind kind
of_reads BadPointer e = refl
of_reads WrongPointerKind e = refl
of_reads WrongElementSize e = refl
of_reads TextNotTerminated e = refl
of_reads TooDeep e = refl
of_reads CapabilityPointer e = refl
of_reads kind e = cc

-- each cause that stands there is of these kinds
abbrev pub Caused : {A : Type 0} → SetRead A → Type 0
Caused x = (kind : ErrorKind) → HasCause x kind → IsSetKind kind

pub caused_none : {A : Type 0} (a : A) → Caused (Ok a)
unfolding HasCause
caused_none a kind h = absurd h

pub caused_one : (A : Type 0) (kind : ErrorKind) → IsSetKind kind → Caused {A = A} (refused_read kind)
unfolding HasCause
caused_one A kind e other h = subst IsSetKind h e

one_side : {A B : Type 0} (x : SetRead (A → B)) (y : SetRead A) (kind : ErrorKind) → HasCause (x <*> y) kind → HasCause x kind ⊎ HasCause y kind
unfolding ◌<*>◌ HasCause
one_side (Ok f) (Ok a) kind h = absurd h
one_side (Ok f) (Err others) kind h = inr h
one_side (Err causes) (Ok a) kind h = inl h
one_side (Err causes) (Err others) kind h = h

pub caused_both : {A B : Type 0} (x : SetRead (A → B)) (y : SetRead A) → Caused x → Caused y → Caused (x <*> y)
caused_both x y cx cy kind h = go (one_side x y kind h)
  where
    go : HasCause x kind ⊎ HasCause y kind → IsSetKind kind
    go (inl here) = cx kind here
    go (inr here) = cy kind here

pub caused_if : {A : Type 0} (q : Bool) (x y : SetRead A) → Caused x → Caused y → Caused (cond q x y)
caused_if true x y cx cy = cx
caused_if false x y cx cy = cy

-- ---- an entry of a list of readings ----

abbrev pub Each : {A : Type 0} → (A → Type 0) → List A → Type 0
Each P [] = ⊤
Each P (x ∷ xs) = P x × Each P xs

pub nth_or : {A : Type 0} (P : A → Type 0) (xs : List A) (d : A) → Each P xs → P d → (i : ℕ) → P (unwrap_or (slice_get xs i) d)
nth_or P [] d all last i = last
nth_or P (x ∷ xs) d all last zero = all.0
nth_or P (x ∷ xs) d all last (suc i) = nth_or P xs d all.1 last i

-- ---- parts by their kinds ----

pub caused_number : (v : Value) → Sound v → Caused (number v)
caused_number (value.Number (pos n)) s = caused_none n
caused_number (value.Fault kind) s = caused_one _ kind (of_reads kind s)
caused_number v s = caused_one _ TypeMismatch refl

pub caused_integer : (v : Value) → Sound v → Caused (integer v)
caused_integer (value.Number n) s = caused_none n
caused_integer (value.Fault kind) s = caused_one _ kind (of_reads kind s)
caused_integer v s = caused_one _ TypeMismatch refl

pub caused_truth : (v : Value) → Sound v → Caused (truth v)
caused_truth (value.Truth b) s = caused_none b
caused_truth (value.Fault kind) s = caused_one _ kind (of_reads kind s)
caused_truth v s = caused_one _ TypeMismatch refl

pub caused_text : (v : Value) → Sound v → Caused (text v)
caused_text (value.Text bytes) s = caused_none bytes
caused_text (value.Fault kind) s = caused_one _ kind (of_reads kind s)
caused_text v s = caused_one _ TypeMismatch refl

pub caused_blob : (v : Value) → Sound v → Caused (blob v)
caused_blob (value.Data bytes) s = caused_none bytes
caused_blob (value.Fault kind) s = caused_one _ kind (of_reads kind s)
caused_blob v s = caused_one _ TypeMismatch refl

name_bytes : (bytes : List ℕ) → Caused (name_meant bytes)
name_bytes bytes = go (is_utf8 bytes)
  where
    go : (q : Bool) → Caused (elim q as (λ _. SetRead (List ℕ)) [ true ↦ Ok bytes | false ↦ refused_read NameNotUtf8 ])
    go true = caused_none bytes
    go false = caused_one _ NameNotUtf8 refl

pub caused_name : (v : Value) → Sound v → Caused (name v)
caused_name (value.Text bytes) s = name_bytes bytes
caused_name (value.Fault kind) s = caused_one _ kind (of_reads kind s)
caused_name v s = caused_one _ TypeMismatch refl

pub caused_struct : {A : Type 0} (f : Record → SetRead A) → ((r : Record) → RecordSound r → Caused (f r)) → (v : Value) → Sound v → Caused (struct f v)
caused_struct f c (value.Struct r) s = c r s
caused_struct f c (value.Fault kind) s = caused_one _ kind (of_reads kind s)
caused_struct f c v s = caused_one _ TypeMismatch refl

caused_element : {A : Type 0} (f : Value → SetRead A) → ((v : Value) → Sound v → Caused (f v)) → (v : Value) → Sound v → Caused (unless_fault f v)
caused_element f c (value.Fault kind) s = caused_one _ kind (of_reads kind s)
caused_element f c v s = c v s

caused_all : {A : Type 0} (f : Value → SetRead A) → ((v : Value) → Sound v → Caused (f v)) → (vs : Values) → AllSound vs → Caused (all_of f vs)
unfolding all_of
caused_all f c NoValues s = caused_none []
caused_all f c (MoreValues v vs) s = caused_both _ _ (caused_both _ _ (caused_none _) (c v s.0)) (caused_all f c vs s.1)

pub caused_list : {A : Type 0} (t : SchemaType) (f : Value → SetRead A) → ((v : Value) → Sound v → Caused (f v)) → (v : Value) → Sound v → Caused (list t f v)
caused_list t f c (value.Elements vs) s =
    caused_all (λ v. unless_fault f (read_of meta VoidValue t v)) (λ v h. caused_element f c (read_of meta VoidValue t v) (read_of_sound meta VoidValue t v h)) vs s
caused_list t f c (value.Fault kind) s = caused_one _ kind (of_reads kind s)
caused_list t f c v s = caused_one _ TypeMismatch refl

pub caused_structs : {A : Type 0} (b : ℕ) (f : Record → SetRead A) → ((r : Record) → RecordSound r → Caused (f r)) → (v : Value) → Sound v → Caused (structs b f v)
caused_structs b f c = caused_list (meta_struct b) (struct f) (caused_struct f c)

-- ---- what is read of a record's parts ----

handed_out_sound : (k : FieldKind) (v : Value) → Sound v → Sound (handed_out k v)
handed_out_sound (Slot offset default) v s = s
handed_out_sound (Group node) (value.Group r) s = s
handed_out_sound (Group node) v s = s

pub read_at_sound : (b i : ℕ) (r : Record) → RecordSound r → Sound (meta_read_at b i r)
unfolding meta_read_at
read_at_sound b i r s =
    handed_out_sound (field_at meta b i).field.kind _
    (read_of_sound meta (default_of (field_at meta b i).field) (field_at meta b i).type (part_at r (field_at meta b i).field i) (part_sound r s (field_at meta b i).field i))

pub elements_of_sound : (v : Value) → Sound v → AllSound (elements_of v)
elements_of_sound (value.Elements vs) s = s
elements_of_sound v s = tt

-- What the parts of a set's record stand for, by their kinds.
use Rattle.std.specs.Prelude.{ℕ, ℤ, pos, List, [], ◌∷◌, Bool, true, false, Ok}
use Rattle.std.specs.Str.{is_utf8}
use Rattle.capnp_device.specs.declared.error.ErrorKind.TheVariants.{NameNotUtf8, TypeMismatch}
use Rattle.capnp_schema.specs.Meta.{meta, meta_struct}
use Rattle.capnp_schema.specs.Schema.{VoidValue, TypedField, field_at}
use Rattle.capnp_schema.specs.Types.{SchemaType}
use Rattle.capnp_records.specs.Default.{read_field, read_of}
use Rattle.capnp_records.specs.Part.{part_at}
use Rattle.capnp_records.specs.Record as value
use Rattle.capnp_records.specs.Record.{NoValues, MoreValues, Record, Value, Values}
use Rattle.capnp_dynamic_readers.specs.Reads.{handed_out}
use Rattle.capnp_sets.specs.Causes.{SetRead, refused_read, ◌<*>◌}

-- what is read of a part under a field: its default in the place of a missing one, and a group as a struct
abbrev pub meta_read_under : TypedField → Value → Value
meta_read_under f v = handed_out f.field.kind (read_field meta f v)

-- what is read of field i of a record of brand b of the meta set
unfoldable pub meta_read_at : ℕ → ℕ → Record → Value
meta_read_at b i r = meta_read_under (field_at meta b i) (part_at r (field_at meta b i).field i)

-- ---- a value by its kind: a fault stands for its refusal, and a value of another kind for a mismatch ----

abbrev pub number : Value → SetRead ℕ
number (value.Number (pos n)) = Ok n
number (value.Fault kind) = refused_read kind
number v = refused_read TypeMismatch

abbrev pub integer : Value → SetRead ℤ
integer (value.Number n) = Ok n
integer (value.Fault kind) = refused_read kind
integer v = refused_read TypeMismatch

abbrev pub truth : Value → SetRead Bool
truth (value.Truth b) = Ok b
truth (value.Fault kind) = refused_read kind
truth v = refused_read TypeMismatch

abbrev pub text : Value → SetRead (List ℕ)
text (value.Text bytes) = Ok bytes
text (value.Fault kind) = refused_read kind
text v = refused_read TypeMismatch

abbrev pub blob : Value → SetRead (List ℕ)
blob (value.Data bytes) = Ok bytes
blob (value.Fault kind) = refused_read kind
blob v = refused_read TypeMismatch

-- a name is UTF-8
abbrev pub name_meant : List ℕ → SetRead (List ℕ)
name_meant bytes = elim (is_utf8 bytes) [ true ↦ Ok bytes | false ↦ refused_read NameNotUtf8 ]

abbrev pub name : Value → SetRead (List ℕ)
name (value.Text bytes) = name_meant bytes
name (value.Fault kind) = refused_read kind
name v = refused_read TypeMismatch

abbrev pub struct : {A : Type 0} → (Record → SetRead A) → Value → SetRead A
struct f (value.Struct r) = f r
struct f (value.Fault kind) = refused_read kind
struct f v = refused_read TypeMismatch

-- one for each of a row of values
unfoldable pub all_of : {A : Type 0} → (Value → SetRead A) → Values → SetRead (List A)
all_of f NoValues = Ok []
all_of f (MoreValues v vs) = Ok (λ a rest. a ∷ rest) <*> f v <*> all_of f vs

-- what is read and no fault
abbrev pub unless_fault : {A : Type 0} → (Value → SetRead A) → Value → SetRead A
unless_fault f (value.Fault kind) = refused_read kind
unless_fault f v = f v

-- the elements of a list, each as it is read
abbrev pub list : {A : Type 0} → SchemaType → (Value → SetRead A) → Value → SetRead (List A)
list t f (value.Elements vs) = all_of (λ v. unless_fault f (read_of meta VoidValue t v)) vs
list t f (value.Fault kind) = refused_read kind
list t f v = refused_read TypeMismatch

-- a list of structs of a brand
abbrev pub structs : {A : Type 0} → ℕ → (Record → SetRead A) → Value → SetRead (List A)
structs b f = list (meta_struct b) (struct f)

-- Texts that are longer than they may be, and why one is not made.
use Rattle.std.specs.Prelude.{ℕ, ◌≡◌, ◌≢◌, ◌<◌, ◌⊎◌, List, Contains, length, slice_get, Some, Err}
use Rattle.capnp_device.specs.declared.error.ErrorKind.{ErrorKind}
use Rattle.capnp_device.specs.declared.error.ErrorKind.TheVariants.{OutOfMemory, TooLarge}
use Rattle.capnp_schema.specs.Annotated.{TypedAnnotation, enum_annotations, enumerant_annotations, field_annotations, struct_annotations}
use Rattle.capnp_schema.specs.Schema.{Schemas, StructValue, ListValue, TypedField, default_of, field_at, Value as SchemaValue}
use Rattle.capnp_schema.specs.Types.{SchemaType}
use Rattle.capnp_records.specs.Text.{Out}
use Rattle.capnp_dynamic_readers.specs.Annotated.{stored_read}
use Rattle.capnp_dynamic_readers.specs.Pieces.{IsAppended}
use Rattle.capnp_json_fields.specs.Marks.{is_float}
use Rattle.capnp_structs.specs.Fields.{Line, UnionLine, FieldLine, all_enums, lines_of}
use Rattle.capnp_structs.specs.Values.{read_text}
use Rattle.capnp_structs.specs.declared.values.Numbers.{Numbers}
use Rattle.capnp_structs.specs.declared.values.Numbers.TheVariants.{Integers, Floats}

-- with a text behind it a string is longer than so many bytes
pub record IsLong (limit : ℕ) (old : List ℕ) (o : Out) : Type 0 where
  pub text : List ℕ
  pub put : IsAppended old o text
  pub long : limit < length text

-- ---- what has no text ----

abbrev pub IsFault : Out → Type 0
IsFault o = (kind : ErrorKind) × (o ≡ Err kind)

-- The text of a value is refused, so that it is told by its words. Where the refusal stands behind so many bytes, it is not seen.
abbrev pub IsRefused : Numbers → Schemas → SchemaType → SchemaValue → Type 0
IsRefused numbers set t (StructValue words) = IsFault (read_text numbers set t (stored_read set (StructValue words) t))
IsRefused numbers set t (ListValue words) = IsFault (read_text numbers set t (stored_read set (ListValue words) t))
IsRefused numbers set t v = ⊥

-- that of one of these annotations
abbrev pub HasRefusedAmong : Schemas → List TypedAnnotation → Type 0
HasRefusedAmong set xs = (i : ℕ) × (x : TypedAnnotation) × (slice_get xs i ≡ Some x) × IsRefused Integers set x.type x.annotation.value

-- that of a field's default, or of one of its annotations
abbrev pub IsRefusedDefault : Schemas → TypedField → Type 0
IsRefusedDefault set f = IsRefused (Floats (is_float f)) set f.type (default_of f.field)

abbrev pub HasRefusedField : Schemas → (brand index : ℕ) → Type 0
HasRefusedField set b i = IsRefusedDefault set (field_at set b i) ⊎ HasRefusedAmong set (field_annotations set b i)

abbrev pub HasRefusedPart : Schemas → Line → Type 0
HasRefusedPart set (UnionLine prefix b) = ⊥
HasRefusedPart set (FieldLine prefix b i) = HasRefusedField set b i

abbrev pub HasRefusedLine : Schemas → List Line → Type 0
HasRefusedLine set ls = (l : Line) × Contains ls l × HasRefusedPart set l

-- that of one of the annotations of an enum and its names
abbrev pub HasRefusedName : Schemas → (enumeration : ℕ) → Type 0
HasRefusedName set e = HasRefusedAmong set (enum_annotations set e) ⊎ ((i : ℕ) × HasRefusedAmong set (enumerant_annotations set e i))

abbrev pub HasRefusedEnum : Schemas → List ℕ → Type 0
HasRefusedEnum set es = (e : ℕ) × Contains es e × HasRefusedName set e

-- that of a value that the text of a struct tells
pub data HasRefused (set : Schemas) (brand : ℕ) : Type 0 where
  OfStruct : HasRefusedAmong set (struct_annotations set brand) → HasRefused set brand
  OfLine : HasRefusedLine set (lines_of set brand) → HasRefused set brand
  OfEnum : HasRefusedEnum set (all_enums set (lines_of set brand)) → HasRefused set brand

-- ---- why a text is not made ----

-- There was no memory; or it is too long, or a value in it is refused, which may not have been seen.
abbrev pub IsStopped : (limit : ℕ) → (old : List ℕ) → Out → (refused : Type 0) → ErrorKind → Type 0
IsStopped limit old o refused kind = kind ≢ OutOfMemory → (kind ≡ TooLarge) × (IsLong limit old o ⊎ refused)

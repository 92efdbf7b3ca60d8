-- The text of a value with its floats: as `text_of`, but where the numbers of a field are floats their bits are not shown, but
-- the float.
use Rattle.std.specs.Prelude.{ℕ, zero, suc, ℤ, pos, negsuc, List, [], ◌∷◌, ◌++◌, Bool, true, false, not, ◌||◌, ◌==◌, cond, codes, Option, Some, None, Err}
use Rattle.std.specs.Fmt.{signed_decimal}
use Rattle.capnp_device.specs.declared.error.ErrorKind.{ErrorKind}
use Rattle.capnp_device.specs.declared.error.ErrorKind.TheVariants.{TooDeep}
use Rattle.capnp_floats.specs.declared.width.Width.TheVariants.{Float32, Float64}
use Rattle.capnp_schema.specs.Schema.{Schemas, VoidValue, TypedField, default_of, field_at, is_member, fields_of, Value as SchemaValue}
use Rattle.capnp_schema.specs.Types.{SchemaType, UIntType, struct_number}
use Rattle.capnp_records.specs.Default.{read_of}
use Rattle.capnp_records.specs.Reading.{element_type}
use Rattle.capnp_records.specs.Record as value
use Rattle.capnp_records.specs.Record.{Value, Values, Union, Record, Parts, NoUnion, Active, Unknown, NoValues, MoreValues, is_there}
use Rattle.capnp_records.specs.Text.{Layout, Member, Out, before, data_text, deeper, element_texts, entering_fault, enum_text, is_entered, item, item_if, later, list_text, member_rest, print_levels, quoted_text, said_text, struct_text}
use Rattle.capnp_json_fields.specs.Marks.{is_float}
use Rattle.capnp_float_texts.specs.Numbers.{float_bytes}

-- ---- numbers ----

-- the bits that a number without a sign is
abbrev pub bits_of : ℤ → ℕ
bits_of (pos n) = n
bits_of (negsuc n) = 0

-- a number in decimal; where the numbers are floats, one without a sign of 32 or 64 bits is the bits of a float
abbrev pub unsigned_text : (floats : Bool) → (bytes : ℕ) → ℤ → List ℕ
unsigned_text floats bytes n =
    cond (bytes == 8) (cond floats (float_bytes Float64 (bits_of n)) (signed_decimal n))
    (cond (bytes == 4) (cond floats (float_bytes Float32 (bits_of n)) (signed_decimal n)) (signed_decimal n))

abbrev pub number_text : (floats : Bool) → SchemaType → ℤ → List ℕ
number_text floats (UIntType bytes) n = unsigned_text floats bytes n
number_text floats t n = signed_decimal n

-- ---- levels ----

-- the text of what stands one level further in, and whether the numbers there are floats
abbrev pub Inner : Type 0
Inner = (floats : Bool) → Layout → SchemaType → Value → Out

-- with no level left a struct or list has none
abbrev pub within : Option Inner → (Inner → Out) → Out
within None text = Err TooDeep
within (Some inner) text = text inner

-- with no level left a pointer of another kind is too deep before it is another kind, as for readers
abbrev pub fault_kind : Option Inner → SchemaType → ErrorKind → ErrorKind
fault_kind None t kind = cond (is_entered t) (entering_fault kind) kind
fault_kind (Some inner) t kind = kind

-- ---- structs ----

abbrev mutual
  -- a group is a record and takes no level; every other part is read, with its default in the place of a missing one
  pub part_text : Schemas → Inner → (floats : Bool) → Layout → SchemaValue → SchemaType → Value → Out
  part_text set inner floats at d t (value.Group r) = record_text set inner at (struct_number t) r
  part_text set inner floats at d t v = inner floats at t (read_of set d t v)

  -- each field says whether its numbers are floats, also one of a group
  pub record_text : Schemas → Inner → Layout → ℕ → Record → Out
  record_text set inner at b (Parts parts union) =
      struct_text at (fields_of set b) (shown set inner (deeper at) (fields_of set b) 0 parts (member set inner (deeper at) b union))

  -- the non-union fields that are there, by index; the active member stands before the first non-union field of greater index,
  -- whether that is shown or not, and else last
  pub shown : Schemas → Inner → Layout → List TypedField → ℕ → Values → Member → List Out
  shown set inner at fs i NoValues m = member_rest m
  shown set inner at [] i (MoreValues v vs) m = member_rest m
  shown set inner at (f ∷ fs) i (MoreValues v vs) m =
      elim (is_member f.field) [
        | true ↦ shown set inner at fs (suc i) vs m
        | false ↦ before m i ++ item_if (is_there v) (item f (part_text set inner (is_float f) at (default_of f.field) f.type v)) ++ shown set inner at fs (suc i) vs (later m i)
      ]

  -- a member of discriminant value 0 is shown where it is there, and every other one always
  pub member : Schemas → Inner → Layout → ℕ → Union → Member
  member set inner at b NoUnion = None
  member set inner at b (Unknown number) = None
  member set inner at b (Active i v) =
      let f : TypedField = field_at set b i in
      Some (i, item_if (is_there v || not (f.field.discriminant_value == 0)) (item f (part_text set inner (is_float f) at (default_of f.field) f.type v)))

-- ---- values ----

-- A value that was read, by the text of what stands one level further in, where a level is left. A list hands on to its
-- elements whether their numbers are floats. No read leaves a group, a missing value or a placeholder.
abbrev pub value_text : Schemas → Option Inner → Inner
value_text set inner floats at t value.Void = said_text (codes "()")
value_text set inner floats at t (value.Truth b) = said_text (cond b (codes "true") (codes "false"))
value_text set inner floats at t (value.Number n) = said_text (number_text floats t n)
value_text set inner floats at t (value.Enum n) = said_text (enum_text set t n)
value_text set inner floats at t (value.Text bs) = quoted_text bs
value_text set inner floats at t (value.Data bs) = said_text (data_text bs)
value_text set inner floats at t (value.Struct r) = within inner (λ text. record_text set text at (struct_number t) r)
value_text set inner floats at t (value.Elements vs) =
    within inner (λ text. list_text at (element_texts set (text floats) (deeper at) (element_type t) vs))
value_text set inner floats at t (value.Untyped x) = said_text (codes "<opaque pointer>")
value_text set inner floats at t (value.Fault kind) = Err (fault_kind inner t kind)
value_text set inner floats at t (value.Group r) = said_text []
value_text set inner floats at t (value.Missing l) = said_text []
value_text set inner floats at t value.Elsewhere = said_text []

-- the text of a value that was read under a type, with so many levels
abbrev pub text_within : Schemas → ℕ → Inner
text_within set zero = value_text set None
text_within set (suc levels) = value_text set (Some (text_within set levels))

-- The text of a value under a type, on one line or on lines, and whether its own numbers are floats, as it stands alone.
abbrev pub float_text_of : Schemas → (floats indented : Bool) → SchemaType → Value → Out
float_text_of set floats indented t v = part_text set (text_within set print_levels) floats (cond indented (Some 0) None) VoidValue t v

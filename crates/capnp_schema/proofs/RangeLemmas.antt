-- What the numbers of a set's entries are, of its brands' fields too.
use Rattle.std.proofs.Common.{All, ℤ, pos, negsuc, ◌≡◌, ℕ, zero, suc, ◌*◌, ◌-◌, ◌<◌, ◌^◌, List, [], ◌∷◌, Bool, true, false, Vec, get_or, length, map, slice_get, Some, refl, sym, ap, ◌∙◌, subst, arith}
use Rattle.std.specs.Option.{unwrap_or}
use Rattle.std.specs.declared.alloc.Global.{Global}
use Rattle.std.proofs.lemmas.List.Elements.{All-map}
use Rattle.std.proofs.lemmas.Nat.{pow_pos}
use Rattle.std.proofs.Math.Nat.{pow-succ'}
use Rattle.capnp_wire.specs.WellFormed.{is_width}
use Rattle.capnp_base.specs.declared.introspect.«Type».{«Type» as TypeHandle}
use Rattle.capnp_base.specs.declared.introspect.BaseType.{BaseType}
use Rattle.capnp_base.specs.declared.introspect.BaseType.TheVariants as base
use Rattle.capnp_base.specs.Types.{base_of, list_depth}
use Rattle.capnp_schema.specs.Types.{SchemaType, BoolType, IntType, UIntType, EnumType, width, seen_base, seen_type, lists_of}
use Rattle.capnp_schema.specs.Schema.{Schemas, Node, Brand, Enum, Field, FieldKind, Slot, Group, Value, VoidValue, BoolValue, IntValue, UIntValue, EnumValue, TextValue, DataValue, StructValue, ListValue, AnyPointerValue, no_node, no_field, typed_fields, node_of, brand_at, fields_of, field_at, kind_default, seen_brand, seen_enum, seen_types}
use Rattle.capnp_schema.specs.SlotValue.{bit_number, default_bits, unsigned_number}
use Rattle.capnp_schema.specs.Accepted.{IsAccepted, IsDefaultOf, KindDefault}
use Rattle.capnp_schema.specs.Entries.{lists_seen}
use Rattle.capnp_schema.specs.Ranges.{HasRanges, HasWidths, HaveWidths, IsSigned, NodeFits, ValueFits}
use Rattle.capnp_schema.specs.Steps.EntryRanges.{EntriesFit, FieldFits}
use Rattle.capnp_schema.specs.declared.lists.Lists.{Lists}
use Rattle.capnp_schema.specs.declared.record.AnnotationTypes.{AnnotationTypes as TypesRecord}
use Rattle.capnp_schema.proofs.EntryWalk.{at_node, entry_has}
use Rattle.capnp_schema.specs.Facts.Fields.{entry_some, of_node, typed_field}

-- ---- types ----

base_widths : (t : BaseType) → HasWidths (seen_base t)
base_widths base.Void = tt
base_widths base.Bool = tt
base_widths base.Int8 = refl
base_widths base.Int16 = refl
base_widths base.Int32 = refl
base_widths base.Int64 = refl
base_widths base.UInt8 = refl
base_widths base.UInt16 = refl
base_widths base.UInt32 = refl
base_widths base.UInt64 = refl
base_widths base.Text = tt
base_widths base.Data = tt
base_widths (base.Struct schema) = tt
base_widths base.AnyPointer = tt
base_widths (base.Enum schema) = tt

lists_widths : (count : ℕ) (t : SchemaType) → HasWidths t → HasWidths (lists_of count t)
lists_widths zero t h = h
lists_widths (suc count) t h = lists_widths count t h

-- each type of the code has them
pub type_widths : (t : TypeHandle) → HasWidths (seen_type t)
type_widths t = lists_widths (list_depth t) (seen_base (base_of t)) (base_widths (base_of t))

all_widths : (ts : List TypeHandle) → All HasWidths (map seen_type ts)
all_widths ts = All-map HasWidths seen_type ts (λ k d h. type_widths (get_or ts k d))

types_widths : (ts : TypesRecord) → HaveWidths (seen_types ts)
types_widths ts = (
  all_widths ts.own.items,
  All-map (All HasWidths) (λ (types : Vec TypeHandle Global). map seen_type types.items) ts.children.items (λ k d h. all_widths (get_or ts.children.items k d).items),
)

-- of all fields and annotations
pub record TypesFit (set : Schemas) : Type 0 where
  pub fields : All (λ (b : Brand). All HasWidths b.field_types) set.brands
  pub annotations : All (λ (b : Brand). HaveWidths b.annotation_types) set.brands
  pub enums : All (λ (e : Enum). HaveWidths e.annotation_types) set.enums

pub types_fit : (lists : Lists) → TypesFit (lists_seen lists)
types_fit lists = record {
  fields = All-map (λ (b : Brand). All HasWidths b.field_types) seen_brand lists.brands.items (λ k d h. all_widths (get_or lists.brands.items k d).field_types.items);
  annotations = All-map (λ (b : Brand). HaveWidths b.annotation_types) seen_brand lists.brands.items (λ k d h. types_widths (get_or lists.brands.items k d).annotation_types);
  enums = All-map (λ (e : Enum). HaveWidths e.annotation_types) seen_enum lists.enums.items (λ k d h. types_widths (get_or lists.enums.items k d).annotation_types);
}

-- ---- a default's bits ----

some_bytes : (k : ℕ) → is_width k ≡ true → 0 < k
some_bytes zero h = cc
some_bytes (suc k) h = omega arith

half : (n : ℕ) → 0 < n → 2 ^ n ≡ 2 * 2 ^ (n - 1)
half n a = let e : n ≡ suc (n - 1) = omega (arith, a) in ap (λ k. 2 ^ k) e ∙ pow-succ' 2 (n - 1)

pub unsigned_below : (k : ℕ) (x : ℤ) → 0 < k → IsSigned k x → unsigned_number (8 * k) x < 2 ^ (8 * k)
unsigned_below k (pos n) a small = omega (arith, half (8 * k) (omega (arith, a)), small)
unsigned_below k (negsuc n) a small = omega (arith, half (8 * k) (omega (arith, a)), small)

bit_below : (b : Bool) → bit_number b < 2 ^ 1
bit_below true = omega arith
bit_below false = omega arith

bool_below : (b : Bool) (t : SchemaType) → IsDefaultOf (BoolValue b) t → bit_number b < 2 ^ width t
bool_below b BoolType h = bit_below b
bool_below b t h = elim h [ ]

int_below : (k : ℕ) (x : ℤ) (t : SchemaType) → IsDefaultOf (IntValue k x) t → unsigned_number (8 * k) x < 2 ^ (8 * k) → unsigned_number (8 * k) x < 2 ^ width t
int_below k x (IntType n) h r = subst (λ m. unsigned_number (8 * k) x < 2 ^ (8 * m)) h r
int_below k x t h r = elim h [ ]

uint_below : (k x : ℕ) (t : SchemaType) → IsDefaultOf (UIntValue k x) t → x < 2 ^ (8 * k) → x < 2 ^ width t
uint_below k x (UIntType n) h r = subst (λ m. x < 2 ^ (8 * m)) h r
uint_below k x t h r = elim h [ ]

enum_below : (x : ℕ) (t : SchemaType) → IsDefaultOf (EnumValue x) t → x < 2 ^ 16 → x < 2 ^ width t
enum_below x (EnumType n) h r = r
enum_below x t h r = elim h [ ]

-- a default has no more bits than its type's slot
pub default_below : (v : Value) (t : SchemaType) → IsDefaultOf v t → ValueFits v → default_bits v < 2 ^ width t
default_below VoidValue t h r = pow_pos (width t)
default_below (BoolValue x) t h r = bool_below x t h
default_below (IntValue k x) t h r = int_below k x t h (unsigned_below k x (some_bytes k r.0) r.1)
default_below (UIntValue k x) t h r = uint_below k x t h r.1
default_below (EnumValue x) t h r = enum_below x t h r
default_below (TextValue x) t h r = pow_pos (width t)
default_below (DataValue x) t h r = pow_pos (width t)
default_below (StructValue x) t h r = pow_pos (width t)
default_below (ListValue x) t h r = pow_pos (width t)
default_below (AnyPointerValue x) t h r = pow_pos (width t)

kind_below : (k : FieldKind) (t : SchemaType) → KindDefault IsDefaultOf k t → ValueFits (kind_default k) → default_bits (kind_default k) < 2 ^ width t
kind_below (Slot offset default) t h r = default_below default t h r
kind_below (Group node) t h r = pow_pos (width t)

-- ---- fields of brands ----

typed_type : (fs : List Field) (ts : List SchemaType) (i : ℕ) → i < length (typed_fields fs ts) → slice_get ts i ≡ Some (unwrap_or (slice_get (typed_fields fs ts) i) no_field).type
typed_type [] ts i a = absurd (omega arith)
typed_type (f ∷ fs) [] i a = absurd (omega arith)
typed_type (f ∷ fs) (t ∷ ts) zero a = refl
typed_type (f ∷ fs) (t ∷ ts) (suc i) a = typed_type fs ts i (omega arith)

none_fits : NodeFits no_node
none_fits = record { data_words = omega arith; pointers = omega arith; discriminant_count = omega arith; discriminant_offset = omega arith }

-- the numbers of an accepted set, by those of its entries
pub has_ranges : (set : Schemas) → IsAccepted set → EntriesFit set → TypesFit set → HasRanges set
has_ranges set accepted entries types = record {
  nodes = at_node set NodeFits (λ k d h. (entries.nodes k d h).node) none_fits;
  discriminant_values = λ b i b_in i_in. (field b i b_in i_in).discriminant;
  kinds = λ b i b_in i_in. (field b i b_in i_in).kind;
  defaults = λ b i b_in i_in. (field b i b_in i_in).default;
  masks = λ b i b_in i_in. kind_below (field_at set b i).field.kind (field_at set b i).type (accepted.rule5 b i b_in i_in) (field b i b_in i_in).default;
  types = λ b i b_in i_in. entry_has HasWidths (brand_at set b).field_types i (field_at set b i).type (entry_has (λ (x : Brand). All HasWidths x.field_types) set.brands b (brand_at set b) types.fields (sym (entry_some set.brands b _ b_in)))
      (sym (typed_type (node_of set b).fields (brand_at set b).field_types i i_in));
  annotations = λ k d h. ((entries.nodes k d h).annotations, λ j e l. ((entries.nodes k d h).fields j e l).annotations);
  annotation_types = types.annotations;
  enum_annotations = entries.enums;
  enum_annotation_types = types.enums;
}
  where
    field : (b i : ℕ) → b < length set.brands → i < length (fields_of set b) → FieldFits (field_at set b i).field
    field b i b_in i_in = entry_has FieldFits (node_of set b).fields i (field_at set b i).field (of_node set accepted (λ (n : Node). All FieldFits n.fields) (λ k d h. (entries.nodes k d h).fields) b b_in)
        (sym (typed_field (node_of set b).fields (brand_at set b).field_types i i_in))

-- Which kinds the causes are that stand in the record of a set.
use Rattle.std.proofs.Common.{ℕ, ◌⊎◌, zero, suc, inl, inr, refl, List, slice_get, ◌==◌, Ok, Err, Option, Some, None}
use Rattle.std.specs.Option.{unwrap_or}
use Rattle.capnp_device.specs.declared.error.ErrorKind.{ErrorKind}
use Rattle.capnp_device.specs.declared.error.ErrorKind.TheVariants.{FloatType, InterfaceType, UnknownKind}
use Rattle.capnp_schema.specs.Meta.{meta, meta_structs, meta_struct}
use Rattle.capnp_schema.specs.Schema.{VoidValue}
use Rattle.capnp_records.specs.Default.{read_of}
use Rattle.capnp_records.specs.Facts.ReadFaults.{AllSound, RecordSound, Sound, read_of_sound}
use Rattle.capnp_records.specs.Part.{which_of}
use Rattle.capnp_records.specs.Record.{MoreValues, NoValues, Record, Value, Values}
use Rattle.capnp_sets.specs.Causes.{Causes, HasCause, IsAmong, SetRead, flat, refused_read, ◌<*>◌}
use Rattle.capnp_sets.specs.Fields.{field_of, kind_by, node_meant, slot_of}
use Rattle.capnp_sets.specs.Lists.{brand_of, brands_in, enum_meant, enumerant_of, made_types, set_meant}
use Rattle.capnp_sets.specs.Parts.{blob, name, number, meta_read_at, struct}
use Rattle.capnp_sets.specs.Types.{base_type_meant, base_types, generic_in, type_lists, type_meant, types}
use Rattle.capnp_sets.specs.Values.{annotation_meant, annotations, kinds, value_by, value_meant}
use Rattle.capnp_sets.proofs.Caused.{Caused, IsSetKind, caused_blob, caused_both, caused_if, caused_integer, caused_list, caused_name, caused_none, caused_number, caused_one, caused_struct, caused_structs, caused_text, caused_truth, elements_of_sound, nth_or, read_at_sound}

-- a reading whose causes are of these kinds
abbrev IsCausedOn : {A : Type 0} → (Value → SetRead A) → Type 0
IsCausedOn f = (v : Value) → Sound v → Caused (f v)

abbrev IsCausedIn : {A : Type 0} → (Record → SetRead A) → Type 0
IsCausedIn f = (r : Record) → RecordSound r → Caused (f r)

-- ---- values and annotations ----

with_number : {B : Type 0} (f : ℕ → B) → IsCausedOn (λ v. Ok f <*> number v)
with_number f v s = caused_both _ _ (caused_none f) (caused_number v s)

with_blob : {B : Type 0} (f : List ℕ → B) → IsCausedOn (λ v. Ok f <*> blob v)
with_blob f v s = caused_both _ _ (caused_none f) (caused_blob v s)

caused_kind : (i : ℕ) → IsCausedOn (unwrap_or (slice_get kinds i) (λ v. refused_read UnknownKind))
caused_kind = nth_or IsCausedOn kinds (λ v. refused_read UnknownKind) ((λ v s. caused_none _), ((λ v s. caused_both _ _ (caused_none _) (caused_truth v s)), ((λ v s. caused_both _ _ (caused_none _) (caused_integer v s)), ((λ v s. caused_both _ _ (caused_none _) (caused_integer v s)), ((λ v s. caused_both _ _ (caused_none _) (caused_integer v s)), ((λ v s. caused_both _ _ (caused_none _) (caused_integer v s)), (with_number _, (with_number _, (with_number _, (with_number _, (with_number _, ((λ v s. caused_both _ _ (caused_none _) (caused_text v s)), (with_blob _, (with_blob _, (with_blob _, tt))))))))))))))) (λ v s. caused_one _ UnknownKind refl)

caused_value_by : (o : Option ℕ) → IsCausedIn (value_by o)
unfolding value_by
caused_value_by None r s = caused_one _ UnknownKind refl
caused_value_by (Some i) r s = caused_kind i (meta_read_at 5 i r) (read_at_sound 5 i r s)

caused_value : IsCausedIn value_meant
unfolding value_meant
caused_value r s = caused_value_by (which_of r) r s

module _ (r : Record) (sound : RecordSound r) where
  number_in : (b i : ℕ) → Caused (number (meta_read_at b i r))
  number_in b i = caused_number (meta_read_at b i r) (read_at_sound b i r sound)

  name_in : (b i : ℕ) → Caused (name (meta_read_at b i r))
  name_in b i = caused_name (meta_read_at b i r) (read_at_sound b i r sound)

  value_in : (b i : ℕ) → Caused (struct value_meant (meta_read_at b i r))
  value_in b i = caused_struct value_meant caused_value (meta_read_at b i r) (read_at_sound b i r sound)

caused_annotation : IsCausedIn annotation_meant
unfolding annotation_meant
caused_annotation r s = caused_both _ _ (caused_both _ _ (caused_none _) (number_in r s 4 0)) (value_in r s 4 1)

annotations_in : (r : Record) → RecordSound r → (b i : ℕ) → Caused (annotations (meta_read_at b i r))
annotations_in r s b i = caused_structs 4 annotation_meant caused_annotation (meta_read_at b i r) (read_at_sound b i r s)

-- ---- fields and nodes ----

caused_slot : IsCausedIn slot_of
unfolding slot_of
caused_slot r s = caused_both _ _ (caused_both _ _ (caused_none _) (number_in r s 3 0)) (value_in r s 3 1)

caused_kind_by : (o : Option ℕ) → IsCausedIn (kind_by o)
unfolding kind_by
caused_kind_by None r s = caused_one _ UnknownKind refl
caused_kind_by (Some i) r s =
    caused_if (i == 3) _ _ (caused_struct slot_of caused_slot (meta_read_at 2 3 r) (read_at_sound 2 3 r s))
    (caused_if (i == 4) _ _ (caused_both _ _ (caused_none _) (number_in r s 2 4)) (caused_one _ UnknownKind refl))

caused_field : IsCausedIn field_of
unfolding field_of
caused_field r s =
    caused_both _ _ (caused_both _ _ (caused_both _ _ (caused_both _ _ (caused_none _) (number_in r s 2 0)) (name_in r s 2 1)) (annotations_in r s 2 2)) (caused_kind_by (which_of r) r s)

caused_node : IsCausedIn node_meant
unfolding node_meant
caused_node r s =
    caused_both _ _ (caused_both _ _ (caused_both _ _ (caused_both _ _ (caused_both _ _ (caused_both _ _ (caused_both _ _ (caused_both _ _ (caused_both _ _ (caused_none _)
    (number_in r s 1 0)) (number_in r s 1 1)) (number_in r s 1 2)) (number_in r s 1 3))
    (caused_truth (meta_read_at 1 4 r) (read_at_sound 1 4 r s))) (number_in r s 1 5)) (name_in r s 1 6)) (annotations_in r s 1 7))
    (caused_structs 2 field_of caused_field (meta_read_at 1 8 r) (read_at_sound 1 8 r s))

-- ---- types ----

caused_generic : (brands : Values) → AllSound brands → (b : ℕ) → Caused (generic_in brands b)
unfolding generic_in
caused_generic NoValues s b = caused_none 0
caused_generic (MoreValues v vs) s zero =
    caused_struct (λ r. number (meta_read_at 6 0 r)) (λ r h. number_in r h 6 0) (read_of meta VoidValue (meta_struct 6) v) (read_of_sound meta VoidValue (meta_struct 6) v s.0)
caused_generic (MoreValues v vs) s (suc b) = caused_generic vs s.1 b

caused_base : (brands : Values) → AllSound brands → (base n : ℕ) → Caused (base_type_meant brands base n)
unfolding base_type_meant
caused_base brands s base n = nth_or Caused (base_types brands n) (refused_read UnknownKind) (caused_none _, (caused_none _, (caused_none _, (caused_none _, (caused_none _, (caused_none _, (caused_none _, (caused_none _, (caused_none _, (caused_none _, (caused_one _ FloatType refl, (caused_one _ FloatType refl, (caused_none _, (caused_none _, (caused_one _ UnknownKind refl, (caused_none _, (caused_both _ _ (caused_none _) (caused_generic brands s n), (caused_one _ InterfaceType refl, (caused_none _, tt))))))))))))))))))) (caused_one _ UnknownKind refl) base

of_one_side : (causes others : Causes) (kind : ErrorKind) → (IsAmong causes kind → IsSetKind kind) → (IsAmong others kind → IsSetKind kind) → IsAmong causes kind ⊎ IsAmong others kind → IsSetKind kind
of_one_side causes others kind f g (inl h) = f h
of_one_side causes others kind f g (inr h) = g h

caused_flat : {A : Type 0} (f : ℕ → ℕ → SetRead A) → ((b n : ℕ) → Caused (f b n)) → (x y : SetRead ℕ) → Caused x → Caused y → Caused (flat (Ok f <*> x <*> y))
unfolding flat ◌<*>◌ HasCause
caused_flat f c (Ok b) (Ok n) cx cy = c b n
caused_flat f c (Ok b) (Err others) cx cy = cy
caused_flat f c (Err causes) (Ok n) cx cy = cx
caused_flat f c (Err causes) (Err others) cx cy = λ kind h. of_one_side causes others kind (cx kind) (cy kind) h

caused_enumerant : IsCausedIn enumerant_of
unfolding enumerant_of
caused_enumerant r s = caused_both _ _ (caused_both _ _ (caused_none _) (name_in r s 9 0)) (annotations_in r s 9 1)

module _ (brands : Values) (all : AllSound brands) where
  caused_type : IsCausedIn (type_meant brands)
  unfolding type_meant
  caused_type r s =
      caused_both _ _ (caused_both _ _ (caused_none _) (number_in r s 7 1))
      (caused_flat (base_type_meant brands) (caused_base brands all) (number (meta_read_at 7 0 r)) (number (meta_read_at 7 2 r)) (number_in r s 7 0) (number_in r s 7 2))

  caused_types : IsCausedOn (types brands)
  caused_types = caused_structs 7 (type_meant brands) caused_type

  types_in : (r : Record) → RecordSound r → (b i : ℕ) → Caused (types brands (meta_read_at b i r))
  types_in r s b i = caused_types (meta_read_at b i r) (read_at_sound b i r s)

  type_lists_in : (r : Record) → RecordSound r → (b i : ℕ) → Caused (type_lists brands (meta_read_at b i r))
  type_lists_in r s b i = caused_list (meta_structs 7) (types brands) caused_types (meta_read_at b i r) (read_at_sound b i r s)

  -- ---- brands and enums ----

  caused_brand : IsCausedIn (brand_of brands)
  unfolding brand_of
  caused_brand r s =
      caused_both _ _ (caused_both _ _ (caused_both _ _ (caused_none _) (number_in r s 6 0)) (types_in r s 6 1))
      (caused_both _ _ (caused_both _ _ (caused_none made_types) (types_in r s 6 2)) (type_lists_in r s 6 3))

  caused_enum : IsCausedIn (enum_meant brands)
  unfolding enum_meant
  caused_enum r s =
      caused_both _ _ (caused_both _ _ (caused_both _ _ (caused_both _ _ (caused_both _ _ (caused_none _) (number_in r s 8 0)) (name_in r s 8 1)) (annotations_in r s 8 2))
      (caused_structs 9 enumerant_of caused_enumerant (meta_read_at 8 3 r) (read_at_sound 8 3 r s)))
      (caused_both _ _ (caused_both _ _ (caused_none made_types) (types_in r s 8 4)) (type_lists_in r s 8 5))

-- ---- the whole record ----

pub caused_set : IsCausedIn set_meant
unfolding set_meant
caused_set r s =
    let brands = elements_of_sound (meta_read_at 0 1 r) (read_at_sound 0 1 r s) in
    caused_both _ _ (caused_both _ _ (caused_both _ _ (caused_none _) (caused_structs 1 node_meant caused_node (meta_read_at 0 0 r) (read_at_sound 0 0 r s)))
    (caused_structs 6 (brand_of (brands_in r)) (caused_brand (brands_in r) brands) (meta_read_at 0 1 r) (read_at_sound 0 1 r s)))
    (caused_structs 8 (enum_meant (brands_in r)) (caused_enum (brands_in r) brands) (meta_read_at 0 2 r) (read_at_sound 0 2 r s))

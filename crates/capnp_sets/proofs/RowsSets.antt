-- Worked rows of what records of the meta set stand for: types, values, fields and whole sets.
use Rattle.std.specs.Prelude.{ℕ, ◌≡◌, refl, List, [], ◌∷◌, negsuc, Ok, Some}
use Rattle.std.specs.Str.{chars, is_utf8}
use Rattle.capnp_device.specs.declared.error.ErrorKind.TheVariants.{FloatType, InterfaceType, NameNotUtf8, UnknownKind}
use Rattle.capnp_wire.specs.Place.{tree_at}
use Rattle.capnp_wire.specs.Tree.{MoreTrees, NoTrees, Numbers, Trees, empty_struct}
use Rattle.capnp_schema.specs.Builtin.{zero_word}
use Rattle.capnp_schema.specs.Meta.{meta}
use Rattle.capnp_schema.specs.Schema.{AnyPointerValue, IntValue, ListValue, Slot, TextValue, VoidValue}
use Rattle.capnp_schema.specs.Types.{ListType, StructType}
use Rattle.capnp_records.specs.Reading.{struct_record}
use Rattle.capnp_records.specs.Record as value
use Rattle.capnp_records.specs.Record.{Left, MoreValues, NoValues, Record, Values}
use Rattle.capnp_sets.specs.Causes.{flat, refused_read, ◌<*>◌}
use Rattle.capnp_sets.specs.Fields.{field_of, kind_by, made_field, slot_of}
use Rattle.capnp_sets.specs.Lists.{lists_meant, made_set, set_meant}
use Rattle.capnp_sets.specs.Message.{root_record}
use Rattle.capnp_sets.specs.Parts.{all_of, name, meta_read_at, struct}
use Rattle.capnp_sets.specs.Types.{base_type_meant, generic_in, type_meant}
use Rattle.capnp_sets.specs.Values.{value_by, value_meant}

-- a record of a brand, of a struct of these bytes and pointers
abbrev of_struct : List ℕ → Trees → ℕ → Record
of_struct bytes pointers b = struct_record meta (Left 60) (record { bytes = bytes; pointers = pointers }) b

-- ---- types, where the one brand has node 5 ----

abbrev brands : Values
brands = MoreValues (value.Struct (of_struct (5 ∷ 0 ∷ 0 ∷ 0 ∷ 0 ∷ 0 ∷ 0 ∷ 0 ∷ []) NoTrees 6)) NoValues

abbrev type_record : (base lists number : ℕ) → Record
type_record base lists number = of_struct (base ∷ 0 ∷ lists ∷ 0 ∷ number ∷ 0 ∷ 0 ∷ 0 ∷ []) NoTrees 7

struct_has_its_brands_node : type_meant brands (type_record 16 2 0) ≡ Ok (ListType (ListType (StructType 0 5)))
unfolding ◌<*>◌ flat base_type_meant generic_in meta_read_at type_meant
struct_has_its_brands_node = refl

struct_of_no_brand : type_meant brands (type_record 16 0 7) ≡ Ok (StructType 7 0)
unfolding ◌<*>◌ flat base_type_meant generic_in meta_read_at type_meant
struct_of_no_brand = refl

float : type_meant brands (type_record 11 0 0) ≡ refused_read FloatType
unfolding ◌<*>◌ flat base_type_meant generic_in meta_read_at type_meant
float = refl

interface : type_meant brands (type_record 17 0 0) ≡ refused_read InterfaceType
unfolding ◌<*>◌ flat base_type_meant generic_in meta_read_at type_meant
interface = refl

list_as_base : type_meant brands (type_record 14 0 0) ≡ refused_read UnknownKind
unfolding ◌<*>◌ flat base_type_meant generic_in meta_read_at type_meant
list_as_base = refl

past_the_last_base : type_meant brands (type_record 19 0 0) ≡ refused_read UnknownKind
unfolding ◌<*>◌ flat base_type_meant generic_in meta_read_at type_meant
past_the_last_base = refl

-- ---- values ----

minus_two : value_meant (of_struct (3 ∷ 0 ∷ 0 ∷ 0 ∷ 0 ∷ 0 ∷ 0 ∷ 0 ∷ 254 ∷ 255 ∷ 1 ∷ 1 ∷ 1 ∷ 1 ∷ 1 ∷ 1 ∷ []) NoTrees 5) ≡ Ok (IntValue 2 (negsuc 1))
unfolding ◌<*>◌ meta_read_at value_by value_meant
minus_two = refl

text_of_one_letter : value_meant (of_struct (11 ∷ 0 ∷ []) (MoreTrees (Numbers 1 (97 ∷ 0 ∷ [])) NoTrees) 5) ≡ Ok (TextValue (97 ∷ []))
unfolding ◌<*>◌ meta_read_at value_by value_meant
text_of_one_letter = refl

list_of_words : value_meant (of_struct (14 ∷ 0 ∷ []) (MoreTrees (Numbers 1 (1 ∷ [])) NoTrees) 5) ≡ Ok (ListValue (1 ∷ []))
unfolding ◌<*>◌ meta_read_at value_by value_meant
list_of_words = refl

no_words_are_untyped : value_meant (of_struct (14 ∷ 0 ∷ []) NoTrees 5) ≡ Ok (AnyPointerValue zero_word)
unfolding ◌<*>◌ meta_read_at value_by value_meant
no_words_are_untyped = refl

unknown_value : value_meant (of_struct (15 ∷ 0 ∷ []) NoTrees 5) ≡ refused_read UnknownKind
unfolding value_by value_meant
unknown_value = refl

missing_value_is_void : struct value_meant (meta_read_at 4 1 (of_struct [] NoTrees 4)) ≡ Ok VoidValue
unfolding ◌<*>◌ meta_read_at tree_at value_by value_meant
missing_value_is_void = refl

-- ---- names, fields and sets ----

not_utf8 : name (value.Text (255 ∷ [])) ≡ refused_read NameNotUtf8
unfolding chars is_utf8
not_utf8 = refl

missing_field : field_of (of_struct [] NoTrees 2) ≡ Ok (made_field 65535 [] [] (Slot 0 VoidValue))
unfolding ◌<*>◌ all_of chars field_of is_utf8 kind_by meta_read_at slot_of tree_at value_by value_meant
missing_field = refl

null_root : lists_meant (root_record empty_struct) ≡ Some (made_set [] [] [])
unfolding ◌<*>◌ all_of meta_read_at set_meant tree_at
null_root = refl

-- Worked rows of words.
use Rattle.std.proofs.Common.{pos, negsuc, ◌≡◌, [], ◌∷◌, ◌++◌, true, Some, None, Ok, Err, refl, codes}
use Rattle.std.specs.Char.{encode_utf8}
use Rattle.capnp_schema.specs.Types.{BoolType, IntType, UIntType, EnumType, TextType, DataType, ListType, StructType}
use Rattle.capnp_schema.specs.Builtin.{builtin}
use Rattle.capnp_records.specs.Call.{FieldNumber, FieldNamed, ElementAt}
use Rattle.capnp_records.specs.Record as value
use Rattle.capnp_words.specs.Paths.{path_at}
use Rattle.capnp_words.specs.Calls.{call_at}
use Rattle.capnp_words.specs.Calls as call
use Rattle.capnp_words.specs.Values.{value_by_word}
use Rattle.capnp_words.specs.Targets.{type_along}

-- ---- paths ----

path_whole : path_at 0 (codes "people.12.#3") ≡ Ok (FieldNamed (codes "people") ∷ ElementAt 12 ∷ FieldNumber 3 ∷ [])
path_whole = refl

path_empty : path_at 0 (codes ".") ≡ Ok []
path_empty = refl

path_nothing : path_at 0 [] ≡ Err 0
path_nothing = refl

path_two_dots : path_at 0 (codes "a..b") ≡ Err 2
path_two_dots = refl

path_ends_in_a_dot : path_at 0 (codes "a.") ≡ Err 2
path_ends_in_a_dot = refl

path_begins_with_a_dot : path_at 0 (codes ".a") ≡ Err 1
path_begins_with_a_dot = refl

path_field_past_the_last : path_at 0 (codes "#65536") ≡ Err 5
path_field_past_the_last = refl

path_zero_in_front : path_at 0 (codes "01") ≡ Err 1
path_zero_in_front = refl

path_space : path_at 0 (codes "a b") ≡ Err 1
path_space = refl

-- ---- calls ----

call_set : call_at (codes "set a b c") ≡ Ok (record { path = FieldNamed (codes "a") ∷ []; op = call.Set (codes "b c") 6 })
call_set = refl

call_which : call_at (codes "which .") ≡ Ok (record { path = []; op = call.Which })
call_which = refl

call_initn : call_at (codes "initn a 7") ≡ Ok (record { path = FieldNamed (codes "a") ∷ []; op = call.Initn 7 })
call_initn = refl

call_get_of_nothing : call_at (codes "get .") ≡ Err 4
call_get_of_nothing = refl

call_without_a_value : call_at (codes "set a") ≡ Err 5
call_without_a_value = refl

call_append : call_at (codes "append a b c") ≡ Ok (record { path = FieldNamed (codes "a") ∷ []; op = call.Append (codes "b c") 9 })
call_append = refl

call_insert : call_at (codes "insert a.b.3 ") ≡ Ok (record { path = FieldNamed (codes "a") ∷ FieldNamed (codes "b") ∷ []; op = call.Insert 3 [] 13 })
call_insert = refl

call_remove : call_at (codes "remove a.0.1") ≡ Ok (record { path = FieldNamed (codes "a") ∷ ElementAt 0 ∷ []; op = call.Remove 1 })
call_remove = refl

call_resize : call_at (codes "resize a 7") ≡ Ok (record { path = FieldNamed (codes "a") ∷ []; op = call.Resize 7 })
call_resize = refl

call_copy : call_at (codes "copy a .") ≡ Ok (record { path = FieldNamed (codes "a") ∷ []; op = call.Copy [] })
call_copy = refl

-- an index is missing
call_insert_nowhere : call_at (codes "insert a.b 1") ≡ Err 10
call_insert_nowhere = refl

call_remove_nothing : call_at (codes "remove a.#1") ≡ Err 11
call_remove_nothing = refl

call_copy_of_nothing : call_at (codes "copy a") ≡ Err 6
call_copy_of_nothing = refl

call_of_two_names : call_at (codes "resort a 1") ≡ Err 3
call_of_two_names = refl

call_of_another_name : call_at (codes "initm a") ≡ Err 4
call_of_another_name = refl

-- ---- values ----

value_least : value_by_word builtin (IntType 1) (codes "-128") ≡ Ok (value.Number (negsuc 127))
value_least = refl

value_below_the_least : value_by_word builtin (IntType 1) (codes "-129") ≡ Err 3
value_below_the_least = refl

value_minus_zero : value_by_word builtin (IntType 8) (codes "-0") ≡ Err 1
value_minus_zero = refl

value_greatest : value_by_word builtin (UIntType 8) (codes "18446744073709551615") ≡ Ok (value.Number (pos 18446744073709551615))
value_greatest = refl

value_past_the_greatest : value_by_word builtin (UIntType 8) (codes "18446744073709551616") ≡ Err 19
value_past_the_greatest = refl

value_truth : value_by_word builtin BoolType (codes "true") ≡ Ok (value.Truth true)
value_truth = refl

value_no_truth : value_by_word builtin BoolType (codes "falsy") ≡ Err 4
value_no_truth = refl

value_enumerant : value_by_word builtin (EnumType 0) (codes "twoBytes") ≡ Ok (value.Enum 3)
value_enumerant = refl

value_enum_number : value_by_word builtin (EnumType 0) (codes "65535") ≡ Ok (value.Enum 65535)
value_enum_number = refl

value_no_enumerant : value_by_word builtin (EnumType 0) (codes "bytes") ≡ Err 4
value_no_enumerant = refl

value_text : value_by_word builtin TextType (codes "a b") ≡ Ok (value.Text (codes "a b"))
value_text = refl

value_quoted : value_by_word builtin TextType (34 ∷ 92 ∷ 34 ∷ 92 ∷ 110 ∷ (92 ∷ (codes "u{41}" ++ 34 ∷ []))) ≡ Ok (value.Text (34 ∷ 10 ∷ 65 ∷ []))
unfolding encode_utf8
value_quoted = refl

value_half_a_character : value_by_word builtin TextType (34 ∷ 92 ∷ (codes "u{d800}" ++ 34 ∷ [])) ≡ Err 8
value_half_a_character = refl

value_data : value_by_word builtin DataType (codes "0x" ++ 34 ∷ (codes "00ff" ++ 34 ∷ [])) ≡ Ok (value.Data (0 ∷ 255 ∷ []))
value_data = refl

value_odd_data : value_by_word builtin DataType (codes "0x" ++ 34 ∷ (codes "00f" ++ 34 ∷ [])) ≡ Err 6
value_odd_data = refl

value_of_a_list : value_by_word builtin (ListType BoolType) (codes "[]") ≡ Err 0
value_of_a_list = refl

-- ---- types along paths ----

type_in_a_list : type_along builtin (StructType 7 7) (FieldNamed (codes "items") ∷ ElementAt 9 ∷ FieldNumber 0 ∷ []) ≡ Some (UIntType 2)
type_in_a_list = refl

type_of_nothing : type_along builtin (StructType 0 0) (ElementAt 0 ∷ []) ≡ None
type_of_nothing = refl

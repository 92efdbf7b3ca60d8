-- Rows of elements that are written, and of lists that become lists of structs.
use Rattle.std.proofs.Common.{Some, None, ◌≡◌, ◌≤◌, [], ◌∷◌, refl, true, false, arith}
use Rattle.capnp_wire.specs.Tree.{Null, Struct, Voids, Bits, Numbers, Pointers, Composite, Trees, NoTrees, MoreTrees, NoStructs, MoreStructs}
use Rattle.capnp_wire.specs.Edits.{HoldsStruct, extended_struct}
use Rattle.capnp_wire.specs.Elements.{with_bit_element, with_number_element, with_pointer_element, with_struct_element}
use Rattle.capnp_wire.specs.StructLists.{HoldsStructs, struct_list, struct_list_refusal}
use Rattle.capnp_device.specs.declared.error.ErrorKind.TheVariants.{SizePastFormat, WrongElementSize, WrongPointerKind}

-- one pointer alone, and two
abbrev one : Trees
one = MoreTrees (Numbers 1 (104 ∷ 105 ∷ 0 ∷ [])) NoTrees

abbrev two : Trees
two = MoreTrees Null one

-- ---- elements ----

pub bit_written : with_bit_element 1 true (Bits (false ∷ false ∷ true ∷ [])) ≡ Bits (false ∷ true ∷ true ∷ [])
bit_written = refl

pub number_written : with_number_element 2 1 513 (Numbers 2 (9 ∷ 9 ∷ 9 ∷ 9 ∷ 9 ∷ 9 ∷ [])) ≡ Numbers 2 (9 ∷ 9 ∷ 1 ∷ 2 ∷ 9 ∷ 9 ∷ [])
number_written = refl

pub number_written_in_a_struct : with_number_element 2 1 513 (Composite 1 0 (MoreStructs (9 ∷ 9 ∷ 9 ∷ 9 ∷ 9 ∷ 9 ∷ 9 ∷ 9 ∷ []) NoTrees (MoreStructs (9 ∷ 9 ∷ 9 ∷ 9 ∷ 9 ∷ 9 ∷ 9 ∷ 9 ∷ []) NoTrees NoStructs)))
    ≡ Composite 1 0 (MoreStructs (9 ∷ 9 ∷ 9 ∷ 9 ∷ 9 ∷ 9 ∷ 9 ∷ 9 ∷ []) NoTrees (MoreStructs (1 ∷ 2 ∷ 9 ∷ 9 ∷ 9 ∷ 9 ∷ 9 ∷ 9 ∷ []) NoTrees NoStructs))
number_written_in_a_struct = refl

pub pointer_written : with_pointer_element 1 Null (Pointers two) ≡ Pointers (MoreTrees Null (MoreTrees Null NoTrees))
pointer_written = refl

pub first_pointer_written : with_pointer_element 0 (Voids 3) (Composite 0 2 (MoreStructs [] two NoStructs)) ≡ Composite 0 2 (MoreStructs [] (MoreTrees (Voids 3) one) NoStructs)
first_pointer_written = refl

pub struct_written : with_struct_element 1 (record { bytes = []; pointers = one }) (Composite 0 1 (MoreStructs [] one (MoreStructs [] (MoreTrees Null NoTrees) NoStructs))) ≡ Composite 0 1 (MoreStructs [] one (MoreStructs [] one NoStructs))
struct_written = refl

-- ---- structs of at least a size ----

pub struct_extended : extended_struct (record { data_words = 2; pointers = 2 }) (record { bytes = 1 ∷ 2 ∷ 3 ∷ 4 ∷ 5 ∷ 6 ∷ 7 ∷ 8 ∷ []; pointers = one })
    ≡ record { bytes = 1 ∷ 2 ∷ 3 ∷ 4 ∷ 5 ∷ 6 ∷ 7 ∷ 8 ∷ 0 ∷ 0 ∷ 0 ∷ 0 ∷ 0 ∷ 0 ∷ 0 ∷ 0 ∷ []; pointers = MoreTrees (Numbers 1 (104 ∷ 105 ∷ 0 ∷ [])) (MoreTrees Null NoTrees) }
struct_extended = refl

pub larger_struct_stays : extended_struct (record { data_words = 0; pointers = 1 }) (record { bytes = 1 ∷ 2 ∷ 3 ∷ 4 ∷ 5 ∷ 6 ∷ 7 ∷ 8 ∷ []; pointers = two }) ≡ record { bytes = 1 ∷ 2 ∷ 3 ∷ 4 ∷ 5 ∷ 6 ∷ 7 ∷ 8 ∷ []; pointers = two }
larger_struct_stays = refl

pub same_size_is_enough : HoldsStruct (record { data_words = 1; pointers = 1 }) (Struct (1 ∷ 2 ∷ 3 ∷ 4 ∷ 5 ∷ 6 ∷ 7 ∷ 8 ∷ []) one)
same_size_is_enough = (omega arith, omega arith)

pub pointer_too_few : HoldsStruct (record { data_words = 1; pointers = 2 }) (Struct (1 ∷ 2 ∷ 3 ∷ 4 ∷ 5 ∷ 6 ∷ 7 ∷ 8 ∷ []) one) → ⊥
pointer_too_few h = let enough : 2 ≤ 1 = h.1 in omega arith

pub word_too_few : HoldsStruct (record { data_words = 2; pointers = 1 }) (Struct (1 ∷ 2 ∷ 3 ∷ 4 ∷ 5 ∷ 6 ∷ 7 ∷ 8 ∷ []) one) → ⊥
word_too_few h = let enough : 16 ≤ 8 = h.0 in omega arith

-- ---- lists of structs of at least a size ----

pub same_sizes_are_enough : HoldsStructs (record { data_words = 1; pointers = 2 }) (Composite 1 2 NoStructs)
same_sizes_are_enough = (omega arith, omega arith)

pub words_too_few : HoldsStructs (record { data_words = 2; pointers = 0 }) (Composite 1 2 NoStructs) → ⊥
words_too_few h = let enough : 2 ≤ 1 = h.0 in omega arith

pub pointers_too_few : HoldsStructs (record { data_words = 0; pointers = 3 }) (Composite 1 2 NoStructs) → ⊥
pointers_too_few h = let enough : 3 ≤ 2 = h.1 in omega arith

pub null_stays : struct_list (record { data_words = 1; pointers = 1 }) Null ≡ Null
null_stays = refl

pub numbers_as_structs : struct_list (record { data_words = 1; pointers = 0 }) (Numbers 2 (1 ∷ 0 ∷ 2 ∷ 0 ∷ []))
    ≡ Composite 1 0 (MoreStructs (1 ∷ 0 ∷ 0 ∷ 0 ∷ 0 ∷ 0 ∷ 0 ∷ 0 ∷ []) NoTrees (MoreStructs (2 ∷ 0 ∷ 0 ∷ 0 ∷ 0 ∷ 0 ∷ 0 ∷ 0 ∷ []) NoTrees NoStructs))
numbers_as_structs = refl

-- an element's own size counts where it is more than what is asked
pub numbers_keep_a_word : struct_list (record { data_words = 0; pointers = 1 }) (Numbers 8 (1 ∷ 2 ∷ 3 ∷ 4 ∷ 5 ∷ 6 ∷ 7 ∷ 8 ∷ [])) ≡ Composite 1 1 (MoreStructs (1 ∷ 2 ∷ 3 ∷ 4 ∷ 5 ∷ 6 ∷ 7 ∷ 8 ∷ []) (MoreTrees Null NoTrees) NoStructs)
numbers_keep_a_word = refl

pub pointers_as_structs : struct_list (record { data_words = 1; pointers = 2 }) (Pointers one) ≡ Composite 1 2 (MoreStructs (0 ∷ 0 ∷ 0 ∷ 0 ∷ 0 ∷ 0 ∷ 0 ∷ 0 ∷ []) (MoreTrees (Numbers 1 (104 ∷ 105 ∷ 0 ∷ [])) (MoreTrees Null NoTrees)) NoStructs)
pointers_as_structs = refl

pub voids_as_structs : struct_list (record { data_words = 0; pointers = 1 }) (Voids 2) ≡ Composite 0 1 (MoreStructs [] (MoreTrees Null NoTrees) (MoreStructs [] (MoreTrees Null NoTrees) NoStructs))
voids_as_structs = refl

pub structs_extended : struct_list (record { data_words = 1; pointers = 0 }) (Composite 0 2 (MoreStructs [] two NoStructs)) ≡ Composite 1 2 (MoreStructs (0 ∷ 0 ∷ 0 ∷ 0 ∷ 0 ∷ 0 ∷ 0 ∷ 0 ∷ []) two NoStructs)
structs_extended = refl

pub bits_are_refused : struct_list_refusal (record { data_words = 0; pointers = 0 }) (Bits (true ∷ [])) ≡ Some WrongElementSize
bits_are_refused = refl

pub struct_is_refused : struct_list_refusal (record { data_words = 0; pointers = 0 }) (Struct [] NoTrees) ≡ Some WrongPointerKind
struct_is_refused = refl

-- 2^28 elements of two words are 2^29 words
pub last_count_within : struct_list_refusal (record { data_words = 1; pointers = 1 }) (Voids 268435455) ≡ None
last_count_within = refl

pub first_count_past : struct_list_refusal (record { data_words = 1; pointers = 1 }) (Voids 268435456) ≡ Some SizePastFormat
first_count_past = refl

-- Worked rows: the calls of edits, appends to one list, and copies.
use Rattle.std.specs.Prelude.{◌≡◌, refl, [], ◌∷◌, true, false}
use Rattle.capnp_wire.specs.Tree.{MoreTrees, NoTrees, Null, Numbers, StructTree, Voids}
use Rattle.capnp_schema.specs.Types.{ListType, TextType, UIntType, VoidType}
use Rattle.capnp_records.specs.Call.{Clear, ElementAt, FieldNumber, Get, ListSource, Set, StructSource, UIntSource}
use Rattle.capnp_records.specs.Record.{Endless, Left}
use Rattle.capnp_edit_calls.specs.ActsMade.{AreAppends}
use Rattle.capnp_edit_calls.specs.Copies.{IsCopyOf}
use Rattle.capnp_edit_calls.specs.EditsMade.{call_along, set_list}
use Rattle.capnp_edit_calls.specs.PathReads.{is_list_type}

-- ---- the last step of a path is what the operation is done to ----

of_three_steps : call_along (FieldNumber 1 ∷ ElementAt 2 ∷ FieldNumber 3 ∷ []) Get ≡ record { path = FieldNumber 1 ∷ ElementAt 2 ∷ []; last = FieldNumber 3; op = Get }
of_three_steps = refl

of_one_step : call_along (ElementAt 2 ∷ []) Clear ≡ record { path = []; last = ElementAt 2; op = Clear }
of_one_step = refl

a_list_is_set : set_list (FieldNumber 1 ∷ FieldNumber 4 ∷ []) 64 VoidType (Voids 3) ≡ record { path = FieldNumber 1 ∷ []; last = FieldNumber 4; op = Set (ListSource (Left 64) (Voids 3) VoidType) }
a_list_is_set = refl

-- ---- lists ----

a_list_is_one : is_list_type (ListType TextType) ≡ true
a_list_is_one = refl

a_text_is_none : is_list_type TextType ≡ false
a_text_is_none = refl

-- ---- appends ----

nothing_is_appended : AreAppends [] [] []
nothing_is_appended = tt

a_value_without_an_act : AreAppends [] (UIntSource 1 7 ∷ []) [] ≡ ⊥
a_value_without_an_act = refl

-- ---- copies ----

abbrev three_bytes : StructTree
three_bytes = record { bytes = 1 ∷ 2 ∷ 3 ∷ []; pointers = MoreTrees Null NoTrees }

abbrev one_word : StructTree
one_word = record { bytes = 1 ∷ 2 ∷ 3 ∷ 0 ∷ 0 ∷ 0 ∷ 0 ∷ 0 ∷ []; pointers = MoreTrees Null NoTrees }

a_struct_is_rounded : IsCopyOf (StructSource Endless three_bytes 4) (StructSource (Left 63) one_word 4)
a_struct_is_rounded = (refl, refl)

a_list_stays : IsCopyOf (ListSource (Left 3) (Numbers 1 (7 ∷ [])) (UIntType 1)) (ListSource (Left 64) (Numbers 1 (7 ∷ [])) (UIntType 1))
a_list_stays = (refl, refl)

a_number_stays : IsCopyOf (UIntSource 2 9) (UIntSource 2 9)
a_number_stays = refl

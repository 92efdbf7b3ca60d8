-- Worked rows of places: the steps that lead to what is refused. They judge the definitions.
use Rattle.std.proofs.Common.{ℕ, zero, suc, ◌<◌, ◌≡◌, refl, List, [], ◌∷◌, true, pos, None, sym, arith, codes}
use Rattle.std.proofs.lemmas.Bool.{true≢false}
use Rattle.std.specs.Str.{is_utf8, chars}
use Rattle.std.specs.Fmt.{debug_escape, digits}
use lib.Utf8.{encode}
use Rattle.capnp_device.specs.declared.error.ErrorKind.{ErrorKind}
use Rattle.capnp_device.specs.declared.error.ErrorKind.TheVariants.{TooDeep, WrongPointerKind, BadPointer}
use Rattle.capnp_wire.specs.Tree.{Null}
use Rattle.capnp_schema.specs.Builtin.{builtin}
use Rattle.capnp_schema.specs.Schema.{field_at}
use Rattle.capnp_schema.specs.Types.{ListType, StructType}
use Rattle.capnp_records.specs.Record as value
use Rattle.capnp_records.specs.Record.{Active, Left, MoreValues, NoUnion, NoValues, Parts, Record, Values}
use Rattle.capnp_check.specs.Places.{RecordParts, IsPathTo, place_words, NoParts, RefusedAs, TextParts, element_refusal, field_refusal, value_parts}
use Rattle.capnp_check.specs.ShownFields.{is_shown}
use Rattle.capnp_check.specs.declared.place.PlaceStep.{PlaceStep}
use Rattle.capnp_check.specs.declared.place.PlaceStep.TheVariants.{Field, Element}

-- ---- an element of a list, and a field of it ----

abbrev node : value.Value → Record
node name = Parts (MoreValues (value.Number (pos 5)) (MoreValues name (MoreValues (value.Enum 2) NoValues))) NoUnion

abbrev nodes : Values
nodes = MoreValues (value.Struct (node (value.Text []))) (MoreValues (value.Struct (node (value.Fault WrongPointerKind))) NoValues)

first_element : (j : ℕ) → j < 1 → element_refusal builtin 63 (StructType 8 8) nodes j ≡ None
unfolding digits debug_escape is_utf8 chars encode
first_element zero lt = refl
first_element (suc j) lt = absurd (omega (arith, lt))

first_field : (j : ℕ) → j < 1 → is_shown (node (value.Fault WrongPointerKind)) (field_at builtin 8 j).field j ≡ true → field_refusal builtin 62 8 (node (value.Fault WrongPointerKind)) j ≡ None
unfolding digits
first_field zero lt shown = refl
first_field (suc j) lt shown = absurd (omega (arith, lt))

in_second_element : IsPathTo builtin (Element 1 ∷ Field 1 ∷ []) (value_parts 64 (ListType (StructType 8 8)) (value.Elements nodes)) (RefusedAs WrongPointerKind)
unfolding IsPathTo
in_second_element = (record { inside = omega arith; before = first_element }, (record { inside = omega arith; shown = refl; before = first_field }, refl))

words_of_second_element : place_words builtin (value_parts 64 (ListType (StructType 8 8)) (value.Elements nodes)) (Element 1 ∷ Field 1 ∷ []) ≡ codes ".1.displayName"
unfolding place_words digits
words_of_second_element = refl

-- the first one has a text
not_in_first_element : IsPathTo builtin (Element 0 ∷ Field 1 ∷ []) (value_parts 64 (ListType (StructType 8 8)) (value.Elements nodes)) (RefusedAs WrongPointerKind) → ⊥
unfolding IsPathTo
not_in_first_element path = text_unrefused path.1.1
  where
    text_unrefused : {kind : ErrorKind} → NoParts ≡ RefusedAs kind → ⊥
    text_unrefused e = cc

-- ---- the active member, a group, and a field of it behind its union ----

abbrev tag : Record
tag = Parts (MoreValues (value.Number (pos 1)) (MoreValues value.Elsewhere (MoreValues value.Elsewhere (MoreValues (value.Untyped Null) (MoreValues (value.Fault BadPointer) NoValues))))) (Active 2 (value.Number (pos 0)))

abbrev shapes : Record
shapes = Parts (MoreValues (value.Number (pos 0)) (MoreValues value.Elsewhere (MoreValues value.Elsewhere (MoreValues value.Elsewhere NoValues)))) (Active 2 (value.Group tag))

before_tag : (j : ℕ) → j < 2 → is_shown shapes (field_at builtin 3 j).field j ≡ true → field_refusal builtin 63 3 shapes j ≡ None
unfolding digits
before_tag zero lt shown = refl
before_tag (suc zero) lt shown = absurd (true≢false (sym shown))
before_tag (suc (suc j)) lt shown = absurd (omega (arith, lt))

before_name : (j : ℕ) → j < 4 → is_shown tag (field_at builtin 5 j).field j ≡ true → field_refusal builtin 63 5 tag j ≡ None
unfolding digits
before_name zero lt shown = refl
before_name (suc zero) lt shown = absurd (true≢false (sym shown))
before_name (suc (suc zero)) lt shown = refl
before_name (suc (suc (suc zero))) lt shown = refl
before_name (suc (suc (suc (suc j)))) lt shown = absurd (omega (arith, lt))

-- a group takes no level
in_group : IsPathTo builtin (Field 2 ∷ Field 4 ∷ []) (value_parts 64 (StructType 3 3) (value.Struct shapes)) (RefusedAs BadPointer)
unfolding IsPathTo
in_group = (record { inside = omega arith; shown = refl; before = before_tag }, (record { inside = omega arith; shown = refl; before = before_name }, refl))

words_in_group : place_words builtin (value_parts 64 (StructType 3 3) (value.Struct shapes)) (Field 2 ∷ Field 4 ∷ []) ≡ codes ".tag.q"
unfolding place_words
words_in_group = refl

-- a member that isn't active is not shown
not_in_inactive_member : (steps : List PlaceStep) (to : TextParts) → IsPathTo builtin (Field 1 ∷ steps) (RecordParts 63 3 shapes) to → ⊥
unfolding IsPathTo
not_in_inactive_member steps to path = true≢false (sym path.0.shown)

-- ---- levels ----

too_deep_element : IsPathTo builtin (Element 0 ∷ []) (value_parts 1 (ListType (StructType 8 8)) (value.Elements nodes)) (RefusedAs TooDeep)
unfolding IsPathTo
too_deep_element = (record { inside = omega arith; before = λ j lt. absurd (omega (arith, lt)) }, refl)

-- where no level is left a struct is too deep before its pointer is of another kind, and a bad pointer is bad
too_deep_root : IsPathTo builtin [] (value_parts 0 (StructType 8 8) (value.Fault WrongPointerKind)) (RefusedAs TooDeep)
unfolding IsPathTo
too_deep_root = refl

bad_root : IsPathTo builtin [] (value_parts 0 (StructType 8 8) (value.Fault BadPointer)) (RefusedAs BadPointer)
unfolding IsPathTo
bad_root = refl

-- Worked rows of a schema that grew: `Mixed`, and `Mixed2` with a non-union field and a member more.
use Rattle.std.proofs.Common.{ℕ, zero, suc, ◌<◌, ◌≡◌, refl, List, [], ◌∷◌, ◌++◌, false, ◌&&◌, ◌==◌, None, IsTrue, codes, arith, ap, sym, subst}
use Rattle.std.specs.Fmt.{debug_escape, digits}
use Rattle.std.specs.Str.{is_utf8, chars}
use Rattle.std.proofs.lemmas.Bool.{eqb-true}
use lib.Utf8.{encode}
use Rattle.capnp_wire.specs.Tree.{Tree, Null, Struct, Numbers, NoTrees, MoreTrees}
use Rattle.capnp_wire.specs.Place.{tree_at}
use Rattle.capnp_schema.specs.Types.{SchemaType, StructType, UIntType, TextType, DataType, VoidType}
use Rattle.capnp_schema.specs.Schema.{Schemas, Field, VoidValue, UIntValue, TextValue, DataValue, field_at}
use Rattle.capnp_schema.specs.SlotValue.{default_bits}
use Rattle.capnp_schema.specs.Builtin.{builtin, builtin_field, member, union_node, builtin_brand}
use Rattle.capnp_records.specs.Facts.Frame.{and_left, and_right}
use Rattle.capnp_records.specs.Record.{Left, Value}
use Rattle.capnp_records.specs.Part.{which_of}
use Rattle.capnp_records.specs.Reading.{struct_record, value_of}
use Rattle.capnp_records.specs.Text.{said_text, text_of}
use Rattle.capnp_records.specs.Compatible.{IsCompatible, Pairs, SharedField, SharedStruct, projected}

-- the built-in set with a struct of number 9 beside it
abbrev with_struct : ℕ → ℕ → List Field → List SchemaType → Schemas
with_struct data_words discriminant_offset fields types = record builtin {
  nodes = builtin.nodes ++ union_node 109 (codes "Mixed2") data_words 2 3 discriminant_offset fields ∷ [];
  brands = builtin.brands ++ builtin_brand 9 types ∷ [];
}

abbrev x : Field
x = member 0 (codes "x") 0 VoidValue

abbrev y : Field
y = member 1 (codes "y") 4 (UIntValue 1 0)

abbrev added : List Field
added = builtin_field (codes "c") 3 (UIntValue 2 0) ∷ member 2 (codes "v") 1 (TextValue []) ∷ []

-- `Mixed2`, by its first and fourth field
abbrev wider_with : Field → Field → List SchemaType → Schemas
wider_with a b types = with_struct 1 1 (a ∷ x ∷ y ∷ b ∷ added) types

abbrev types_of : SchemaType → List SchemaType
types_of t = UIntType 2 ∷ VoidType ∷ UIntType 1 ∷ t ∷ UIntType 2 ∷ TextType ∷ []

abbrev b : Field
b = builtin_field (codes "b") 0 (TextValue [])

-- `Mixed2` with another name for its first field
abbrev named_so : List ℕ → Schemas
named_so name = wider_with (builtin_field name 0 (UIntValue 2 0)) b (types_of TextType)

abbrev wider : Schemas
wider = named_so (codes "a")

-- ---- what is read ----

abbrev mixed2 : Tree
mixed2 = Struct (5 ∷ 0 ∷ 2 ∷ 0 ∷ 0 ∷ 0 ∷ 7 ∷ 0 ∷ []) (MoreTrees Null (MoreTrees (Numbers 1 (104 ∷ 105 ∷ 0 ∷ [])) NoTrees))

abbrev under : ℕ → Tree → Value
under b x = value_of wider x (Left 64) (StructType b b)

wider_member : text_of wider false (StructType 9 9) (under 9 mixed2) ≡ said_text (codes "(a = 5, c = 7, v = \"hi\")")
unfolding tree_at digits debug_escape is_utf8 chars encode
wider_member = refl

added_member_is_unknown : text_of wider false (StructType 1 1) (under 1 mixed2) ≡ said_text (codes "(a = 5)")
unfolding tree_at digits
added_member_is_unknown = refl

no_member_is_active : which_of (struct_record wider (Left 63) (record { bytes = 5 ∷ 0 ∷ 2 ∷ 0 ∷ 0 ∷ 0 ∷ 7 ∷ 0 ∷ []; pointers = NoTrees }) 1) ≡ None
no_member_is_active = refl

-- the record under the older schema is the projection of that under the newer
narrowed_is_projected : projected wider (StructType 1 1) (StructType 9 9) (under 9 mixed2) ≡ under 1 mixed2
narrowed_is_projected = refl

-- `Mixed` with a = 5 and y = 9
abbrev mixed : Tree
mixed = Struct (5 ∷ 0 ∷ 1 ∷ 0 ∷ 9 ∷ 0 ∷ 0 ∷ 0 ∷ []) (MoreTrees Null NoTrees)

wider_field : text_of wider false (StructType 9 9) (under 9 mixed) ≡ said_text (codes "(a = 5, y = 9, c = 0)")
unfolding tree_at digits
wider_field = refl

-- a schema without a union drops it
union_dropped : text_of wider false (StructType 0 0) (under 0 mixed) ≡ said_text (codes "(a = 5)")
unfolding tree_at digits
union_dropped = refl

union_dropped_is_projected : projected wider (StructType 0 0) (StructType 1 1) (under 1 mixed) ≡ under 0 mixed
union_dropped_is_projected = refl

-- ---- which are compatible ----

abbrev pub only : ℕ → ℕ → Pairs
only older newer a b = (a == older) && (b == newer)

-- a pair that leads to no other
closed_pair : (set : Schemas) (older newer : ℕ) → SharedStruct false set (only older newer) older newer → (a b : ℕ) → IsTrue (only older newer a b) → SharedStruct false set (only older newer) a b
closed_pair set older newer h a b e =
    subst (λ a. SharedStruct false set (only older newer) a b) (sym (eqb-true a older (and_left _ _ e)))
    (subst (λ b. SharedStruct false set (only older newer) older b) (sym (eqb-true b newer (and_right (a == older) _ e))) h)

mixed_grew_into_mixed2 : (name : List ℕ) → IsCompatible (named_so name) 1 9
mixed_grew_into_mixed2 name = record { pairs = only 1 9; given = refl; closed = closed_pair (named_so name) 1 9 shared }
  where
    fields : (i : ℕ) → i < 4 → SharedField false (named_so name) (only 1 9) (field_at (named_so name) 1 i) (field_at (named_so name) 9 i)
    fields zero a = record { kind = (refl, refl); discriminant_value = refl; type = refl }
    fields (suc zero) a = record { kind = (refl, refl); discriminant_value = refl; type = tt }
    fields (suc (suc zero)) a = record { kind = (refl, refl); discriminant_value = refl; type = refl }
    fields (suc (suc (suc zero))) a = record { kind = (refl, refl); discriminant_value = refl; type = tt }
    fields (suc (suc (suc (suc i)))) a = absurd (omega (arith, a))

    shared : SharedStruct false (named_so name) (only 1 9) 1 9
    shared = record { beginning = omega arith; fields = fields; union = λ a. (refl, omega arith) }

flat_grew_into_mixed : IsCompatible builtin 0 1
flat_grew_into_mixed = record { pairs = only 0 1; given = refl; closed = closed_pair builtin 0 1 shared }
  where
    fields : (i : ℕ) → i < 1 → SharedField false builtin (only 0 1) (field_at builtin 0 i) (field_at builtin 1 i)
    fields zero a = record { kind = (refl, refl); discriminant_value = refl; type = refl }
    fields (suc i) a = absurd (omega (arith, a))

    shared : SharedStruct false builtin (only 0 1) 0 1
    shared = record { beginning = omega arith; fields = fields; union = λ a. absurd (omega (arith, a)) }

-- `Loop` leads to itself
loop_with_itself : IsCompatible builtin 6 6
loop_with_itself = record { pairs = only 6 6; given = refl; closed = closed_pair builtin 6 6 shared }
  where
    fields : (i : ℕ) → i < 2 → SharedField false builtin (only 6 6) (field_at builtin 6 i) (field_at builtin 6 i)
    fields zero a = record { kind = (refl, refl); discriminant_value = refl; type = tt }
    fields (suc zero) a = record { kind = (refl, refl); discriminant_value = refl; type = refl }
    fields (suc (suc i)) a = absurd (omega (arith, a))

    shared : SharedStruct false builtin (only 6 6) 6 6
    shared = record { beginning = omega arith; fields = fields; union = λ a. (refl, omega arith) }

not_the_other_way : IsCompatible wider 9 1 → ⊥
not_the_other_way h = omega (arith, (h.closed 9 1 h.given).beginning)

not_with_another_default : IsCompatible (wider_with (builtin_field (codes "a") 0 (UIntValue 2 1)) b (types_of TextType)) 1 9 → ⊥
not_with_another_default h = other ((h.closed 1 9 h.given).fields 0 (omega arith)).kind.1
  where
    other : UIntValue 2 0 ≡ UIntValue 2 1 → ⊥
    other e = omega (arith, ap default_bits e)

not_at_another_offset : IsCompatible (with_struct 1 1 (builtin_field (codes "a") 0 (UIntValue 2 0) ∷ x ∷ member 1 (codes "y") 5 (UIntValue 1 0) ∷ b ∷ added) (types_of TextType)) 1 9 → ⊥
not_at_another_offset h = omega (arith, ((h.closed 1 9 h.given).fields 2 (omega arith)).kind.0)

not_with_another_union : IsCompatible (with_struct 2 4 (builtin_field (codes "a") 0 (UIntValue 2 0) ∷ x ∷ y ∷ b ∷ added) (types_of TextType)) 1 9 → ⊥
not_with_another_union h = omega (arith, ((h.closed 1 9 h.given).union (omega arith)).0)

not_in_another_order : IsCompatible (with_struct 1 1 (builtin_field (codes "a") 0 (UIntValue 2 0) ∷ y ∷ x ∷ b ∷ added) (UIntType 2 ∷ UIntType 1 ∷ VoidType ∷ TextType ∷ UIntType 2 ∷ TextType ∷ [])) 1 9 → ⊥
not_in_another_order h = ((h.closed 1 9 h.given).fields 1 (omega arith)).type

not_with_another_type : IsCompatible (wider_with (builtin_field (codes "a") 0 (UIntValue 2 0)) (builtin_field (codes "b") 0 (DataValue [])) (types_of DataType)) 1 9 → ⊥
not_with_another_type h = ((h.closed 1 9 h.given).fields 3 (omega arith)).type

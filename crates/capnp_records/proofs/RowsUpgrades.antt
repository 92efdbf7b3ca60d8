-- Worked rows of a list of numbers that became one of structs: `Tally`, `Tally2`, and `Pair`, which stands where a number stood.
use Rattle.std.proofs.Common.{ℕ, zero, suc, ◌<◌, ◌≡◌, refl, List, [], ◌∷◌, ◌++◌, ◌==◌, false, true, IsTrue, codes, Err, arith, sym, subst}
use Rattle.std.specs.Fmt.{digits}
use Rattle.std.proofs.lemmas.Bool.{eqb-true}
use Rattle.capnp_device.specs.declared.error.ErrorKind.TheVariants.{WrongElementSize}
use Rattle.capnp_wire.specs.Tree.{Tree, Struct, Numbers, NoTrees, MoreTrees}
use Rattle.capnp_wire.specs.Place.{tree_at}
use Rattle.capnp_schema.specs.Types.{SchemaType, BoolType, StructType, ListType, UIntType}
use Rattle.capnp_schema.specs.Schema.{Schemas, Field, Node, BoolValue, ListValue, UIntValue, field_at}
use Rattle.capnp_schema.specs.Builtin.{builtin, builtin_field, member, builtin_struct_node, union_node, builtin_brand, zero_word}
use Rattle.capnp_records.specs.Facts.Frame.{and_left, and_right}
use Rattle.capnp_records.specs.Record.{Left, Value, Fault, MoreValues, NoUnion, NoValues, Parts}
use Rattle.capnp_records.specs.Record as value
use Rattle.capnp_records.specs.Reading.{value_of}
use Rattle.capnp_records.specs.Text.{said_text, text_of}
use Rattle.capnp_records.specs.Compatible.{IsCompatible, IsCompatibleOrUpgraded, SharedField, SharedStruct, projected}
use Rattle.capnp_records.specs.Upgrades.{lists_read}
use Rattle.capnp_records.proofs.RowsCompatible.{only}

abbrev list_node : ℕ → List ℕ → Node
list_node id name = builtin_struct_node id name 0 1 (builtin_field (codes "xs") 0 (ListValue zero_word) ∷ [])

-- the built-in set with `Tally` of lists of a type, `Tally2` and a struct of number 11
abbrev with_lists : SchemaType → Node → List SchemaType → Schemas
with_lists element pair types = record builtin {
  nodes = builtin.nodes ++ list_node 109 (codes "Tally") ∷ list_node 110 (codes "Tally2") ∷ pair ∷ [];
  brands = builtin.brands ++ builtin_brand 9 (ListType element ∷ []) ∷ builtin_brand 10 (ListType (StructType 11 11) ∷ []) ∷ builtin_brand 11 types ∷ [];
}

abbrev pair_node : Field → Field → Node
pair_node v w = builtin_struct_node 111 (codes "Pair") 1 0 (v ∷ w ∷ [])

abbrev v_at : ℕ → ℕ → Field
v_at offset default = builtin_field (codes "v") offset (UIntValue 2 default)

abbrev w_at : ℕ → Field
w_at offset = builtin_field (codes "w") offset (UIntValue 2 0)

abbrev numbers : List SchemaType
numbers = UIntType 2 ∷ UIntType 2 ∷ []

abbrev tallies : Schemas
tallies = with_lists (UIntType 2) (pair_node (v_at 0 0) (w_at 1)) numbers

-- ---- which are upgrades ----

closed_pair : (set : Schemas) → SharedStruct true set (only 9 10) 9 10 → (a b : ℕ) → IsTrue (only 9 10 a b) → SharedStruct true set (only 9 10) a b
closed_pair set h a b e =
    subst (λ a. SharedStruct true set (only 9 10) a b) (sym (eqb-true a 9 (and_left _ _ e)))
    (subst (λ b. SharedStruct true set (only 9 10) 9 b) (sym (eqb-true b 10 (and_right (a == 9) _ e))) h)

tally_became_tally2 : IsCompatibleOrUpgraded tallies 9 10
tally_became_tally2 = record { pairs = only 9 10; given = refl; closed = closed_pair tallies shared }
  where
    fields : (i : ℕ) → i < 1 → SharedField true tallies (only 9 10) (field_at tallies 9 i) (field_at tallies 10 i)
    fields zero a = record { kind = (refl, refl); discriminant_value = refl; type = refl }
    fields (suc i) a = absurd (omega (arith, a))

    shared : SharedStruct true tallies (only 9 10) 9 10
    shared = record { beginning = omega arith; fields = fields; union = λ a. absurd (omega (arith, a)) }

not_without_upgrades : IsCompatible tallies 9 10 → ⊥
not_without_upgrades h = ((h.closed 9 10 h.given).fields 0 (omega arith)).type

not_the_other_way : IsCompatibleOrUpgraded tallies 10 9 → ⊥
not_the_other_way h = ((h.closed 10 9 h.given).fields 0 (omega arith)).type

not_with_a_default : IsCompatibleOrUpgraded (with_lists (UIntType 2) (pair_node (v_at 0 1) (w_at 1)) numbers) 9 10 → ⊥
not_with_a_default h = ((h.closed 9 10 h.given).fields 0 (omega arith)).type

not_at_another_offset : IsCompatibleOrUpgraded (with_lists (UIntType 2) (pair_node (v_at 1 0) (w_at 0)) numbers) 9 10 → ⊥
not_at_another_offset h = ((h.closed 9 10 h.given).fields 0 (omega arith)).type

not_a_member : IsCompatibleOrUpgraded (with_lists (UIntType 2) (union_node 111 (codes "Pair") 1 0 2 1 (member 0 (codes "v") 0 (UIntValue 2 0) ∷ member 1 (codes "w") 0 (UIntValue 2 0) ∷ [])) numbers) 9 10 → ⊥
not_a_member h = ((h.closed 9 10 h.given).fields 0 (omega arith)).type

not_of_bits : IsCompatibleOrUpgraded (with_lists BoolType (builtin_struct_node 111 (codes "Pair") 1 0 (builtin_field (codes "v") 0 (BoolValue false) ∷ [])) (BoolType ∷ [])) 9 10 → ⊥
not_of_bits h = ((h.closed 9 10 h.given).fields 0 (omega arith)).type

-- ---- what is read ----

abbrev under : ℕ → Tree → Value
under b x = value_of tallies x (Left 64) (StructType b b)

-- the numbers 1 and 2
abbrev two_numbers : Tree
two_numbers = Struct [] (MoreTrees (Numbers 2 (1 ∷ 0 ∷ 2 ∷ 0 ∷ [])) NoTrees)

as_structs : text_of tallies false (StructType 10 10) (under 10 two_numbers) ≡ said_text (codes "(xs = [(v = 1, w = 0), (v = 2, w = 0)])")
unfolding tree_at digits
as_structs = refl

as_numbers : text_of tallies false (StructType 9 9) (under 9 two_numbers) ≡ said_text (codes "(xs = [1, 2])")
unfolding tree_at digits
as_numbers = refl

numbers_are_projected : projected tallies (StructType 9 9) (StructType 10 10) (under 10 two_numbers) ≡ under 9 two_numbers
numbers_are_projected = refl

numbers_are_read : lists_read tallies (StructType 9 9) (StructType 10 10) (under 9 two_numbers) (under 10 two_numbers) ≡ true
numbers_are_read = refl

-- the byte 1, which is no list of numbers of two bytes
abbrev one_byte : Tree
one_byte = Struct [] (MoreTrees (Numbers 1 (1 ∷ [])) NoTrees)

byte_as_struct : text_of tallies false (StructType 10 10) (under 10 one_byte) ≡ said_text (codes "(xs = [(v = 1, w = 0)])")
unfolding tree_at digits
byte_as_struct = refl

byte_is_refused : under 9 one_byte ≡ value.Struct (Parts (MoreValues (Fault WrongElementSize) NoValues) NoUnion)
byte_is_refused = refl

byte_has_no_text : text_of tallies false (StructType 9 9) (under 9 one_byte) ≡ Err WrongElementSize
unfolding tree_at
byte_has_no_text = refl

byte_is_not_read : lists_read tallies (StructType 9 9) (StructType 10 10) (under 9 one_byte) (under 10 one_byte) ≡ false
byte_is_not_read = refl

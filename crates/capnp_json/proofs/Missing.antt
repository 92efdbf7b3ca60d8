-- Whether an element of a list is missing.
use Rattle.std.proofs.Common.{ℕ, ◌≡◌, refl, Bool, true, false, not, ◌==◌, ap, sym, ◌∙◌}
use Rattle.std.proofs.lemmas.Bool.{true≢false}
use Rattle.capnp_device.specs.declared.error.ErrorKind.TheVariants.{TooDeep}
use Rattle.capnp_wire.specs.Reading.{element_levels, element_pointer, is_null_tree}
use Rattle.capnp_wire.specs.Tree.{Tree}
use Rattle.capnp_schema.specs.Schema.{Schemas}
use Rattle.capnp_schema.specs.Types.{SchemaType, VoidType, BoolType, IntType, UIntType, EnumType, TextType, DataType, StructType, ListType, AnyPointerType}
use Rattle.capnp_records.specs.Facts.ListValues.{below_of}
use Rattle.capnp_records.specs.Facts.Readers.{element_is_read, null_is, value_there}
use Rattle.capnp_records.specs.Reading.{element_value, entered_value, record_of, value_of}
use Rattle.capnp_records.specs.Record as value
use Rattle.capnp_records.specs.Record.{Left, Levels, Value, is_there, levels_asked, one_less}
use Rattle.capnp_json.specs.Steps.Shown.{has_null}

there_by : (set : Schemas) (x : Tree) (l : Levels) (t : SchemaType) (q : Bool) → is_null_tree x ≡ q → is_there (value_of set x l t) ≡ not q
there_by set x l t true e = ap (λ (z : Tree). is_there (value_of set z l t)) (null_is x e)
there_by set x l t false e = value_there set x l t e

entered_there : (l : Levels) (v : Value) → is_there v ≡ true → false ≡ not (is_there (entered_value l v))
entered_there l v e = go (levels_asked l == 0)
  where
    go : (q : Bool) → false ≡ not (is_there (elim q as (λ _. Value) [ true ↦ value.Fault TooDeep | false ↦ v ]))
    go true = refl
    go false = sym (ap not e)

module _ (set : Schemas) (x : Tree) (n i : ℕ) where
  read_there : (t : SchemaType) → element_value set x (below_of set x) (Left n) t i ≡ value_of set (element_pointer x i n) (Left (element_levels x n)) t →
      (q : Bool) → q ≡ is_null_tree (element_pointer x i n) → q ≡ not (is_there (element_value set x (below_of set x) (Left n) t i))
  read_there t e q is =
      sym (ap not (ap is_there e ∙ there_by set (element_pointer x i n) (Left (element_levels x n)) t q (sym is)) ∙ twice q)
    where
      twice : (q : Bool) → not (not q) ≡ q
      twice true = refl
      twice false = refl

  pub pointer_there : (t : SchemaType) → has_null t ≡ true → (q : Bool) → q ≡ is_null_tree (element_pointer x i n) → q ≡ not (is_there (element_value set x (below_of set x) (Left n) t i))
  pointer_there TextType h q is = read_there TextType (element_is_read set x n TextType i) q is
  pointer_there DataType h q is = read_there DataType (element_is_read set x n DataType i) q is
  pointer_there (ListType e) h q is = read_there (ListType e) (element_is_read set x n (ListType e) i) q is
  pointer_there AnyPointerType h q is = read_there AnyPointerType (element_is_read set x n AnyPointerType i) q is
  pointer_there VoidType h q is = absurd (true≢false (sym h))
  pointer_there BoolType h q is = absurd (true≢false (sym h))
  pointer_there (IntType k) h q is = absurd (true≢false (sym h))
  pointer_there (UIntType k) h q is = absurd (true≢false (sym h))
  pointer_there (EnumType m) h q is = absurd (true≢false (sym h))
  pointer_there (StructType b g) h q is = absurd (true≢false (sym h))

  pub always_there : (t : SchemaType) → has_null t ≡ false → false ≡ not (is_there (element_value set x (below_of set x) (Left n) t i))
  always_there VoidType h = refl
  always_there BoolType h = refl
  always_there (IntType k) h = refl
  always_there (UIntType k) h = refl
  always_there (EnumType m) h = refl
  always_there (StructType b g) h = entered_there (Left n) (value.Struct (record_of set (one_less (Left n)) ((below_of set x).element_body i).bytes ((below_of set x).element_body i).pointers b)) refl
  always_there TextType h = absurd (true≢false h)
  always_there DataType h = absurd (true≢false h)
  always_there (ListType e) h = absurd (true≢false h)
  always_there AnyPointerType h = absurd (true≢false h)

-- What stands behind the pointers at the places of fields is what is read of the struct's record.
use Rattle.std.specs.Borrow.{Bor}
use Rattle.std.proofs.Common.{ℕ, ◌+◌, ◌<◌, ◌≡◌, ◌∙◌, ap, ap₂, refl, sym, true, List, [], Result, IfOk, Ok, ◌==◌}
use Rattle.capnp_device.specs.declared.error.Error.{Error}
use Rattle.capnp_wire.specs.Reading.{as_data, as_list, as_struct, as_text}
use Rattle.capnp_wire.specs.Standing.{bytes_read, levels_of, list_levels, list_read, struct_levels, struct_of, struct_read, tree_of}
use Rattle.capnp_wire.specs.Tree as tree
use Rattle.capnp_wire.specs.Tree.{StructTree, Tree, nth_tree}
use Rattle.capnp_wire.specs.declared.list_reader.ListReader.{ListReader}
use Rattle.capnp_wire.specs.declared.pointer_reader.PointerReader.{PointerReader}
use Rattle.capnp_wire.specs.declared.size.ElementSize.{ElementSize}
use Rattle.capnp_wire.specs.declared.struct_reader.StructReader.{StructReader}
use Rattle.capnp_schema.specs.Builtin.{zero_word}
use Rattle.capnp_schema.specs.Schema.{DataValue, ListValue, Schemas, Slot, StructValue, TextValue, Value as SchemaValue}
use Rattle.capnp_schema.specs.Types.{DataType, ListType, SchemaType, TextType, element_size, is_pointer}
use Rattle.capnp_records.specs.Default.{read_of}
use Rattle.capnp_records.specs.Facts.Entered.{never_ok}
use Rattle.capnp_records.specs.Facts.Frame.{chosen_first}
use Rattle.capnp_records.specs.Facts.Pointers.{values_of_nth}
use Rattle.capnp_records.specs.Reading.{Reading, value_of}
use Rattle.capnp_records.specs.Record as value
use Rattle.capnp_records.specs.Record.{Left, NoValues}
use Rattle.capnp_dynamic_readers.specs.Reads.{pointer_read}
use Rattle.capnp_known.specs.Known.{IsActive, IsSlot, data_value, list_value, read_at, record_in, struct_type, struct_value, text_value}
use Rattle.capnp_known.specs.Facts.PartsSeen.{seen_by}
use Rattle.capnp_known.specs.Facts.PointersMet.{data_met, list_met, null_list, null_list_read, struct_met, text_met}

-- what is read both as data and as a struct is null
pub only_null : (x : Tree) (n : ℕ) (bytes : List ℕ) (s : StructTree) → Ok bytes ≡ as_data x → Ok s ≡ as_struct x n → x ≡ tree.Null
only_null tree.Null n bytes s e h = refl
only_null (tree.Numbers w b) n bytes s e h = absurd (never_ok (n == 0) _ _ _ h)
only_null x n bytes s e h = cc

module _ (set : Schemas) (s : StructReader) (b i : ℕ) (active : IsActive set b i s) (p : PointerReader) (place : ℕ) (tree_is : tree_of p ≡ nth_tree (struct_of s).pointers place) (levels : levels_of p ≡ struct_levels s) where
  pointer_there : (d : SchemaValue) (t : SchemaType) → is_pointer t ≡ true → IsSlot set b i t place d → pointer_read set d t p ≡ read_at set b i (record_in set b s)
  pointer_there d t is slot =
      sym (seen_by set s b i active (Slot place d) t slot.0 slot.1
      ∙ ap (read_of set d t)
      (chosen_first (is_pointer t) _ _ is
      ∙ (ap (λ (f : Reading). f (Left (struct_levels s)) t) (values_of_nth set (struct_of s).pointers place)
      ∙ ap₂ (λ x n. value_of set x (Left n) t) (sym tree_is) (sym levels))))

  pub text_there : IsSlot set b i TextType place (TextValue []) → (r : Result (Bor (List ℕ)) Error) → bytes_read r ≡ as_text (tree_of p) → text_value r ≡ read_at set b i (record_in set b s)
  text_there slot r e = text_met set (tree_of p) (Left (levels_of p)) (bytes_read r) e ∙ pointer_there (TextValue []) TextType refl slot

  pub data_there : IsSlot set b i DataType place (DataValue []) → (r : Result (Bor (List ℕ)) Error) → bytes_read r ≡ as_data (tree_of p) → data_value r ≡ read_at set b i (record_in set b s)
  data_there slot r e = data_met set (tree_of p) (Left (levels_of p)) (bytes_read r) e ∙ pointer_there (DataValue []) DataType refl slot

  pub struct_there : (inner : ℕ) → IsSlot set b i (struct_type inner) place (StructValue zero_word) → (r : Result StructReader Error) → struct_read r ≡ as_struct (tree_of p) (levels_of p) → IfOk r (λ x. struct_levels x + 1 ≡ levels_of p) →
      struct_value set inner r ≡ read_at set b i (record_in set b s)
  struct_there inner slot r e left = struct_met set inner (tree_of p) (levels_of p) r e left ∙ pointer_there (StructValue zero_word) (struct_type inner) refl slot

  pub list_there : (t : SchemaType) (size : ElementSize) → element_size t ≡ size → IsSlot set b i (ListType t) place (ListValue zero_word) → (r : Result ListReader Error) → list_read r ≡ as_list size (tree_of p) (levels_of p) → IfOk r (λ x. list_levels x + 1 ≡ levels_of p) →
      list_value set t r ≡ read_at set b i (record_in set b s)
  list_there t size sized slot r e left = list_met set t size sized (ListValue zero_word) (null_list set t) (tree_of p) (levels_of p) r e left ∙ pointer_there (ListValue zero_word) (ListType t) refl slot

  -- the list behind a null pointer is empty, where a level is left for it
  pub null_there : (t : SchemaType) → IsSlot set b i (ListType t) place (ListValue zero_word) → tree_of p ≡ tree.Null → 0 < levels_of p → value.Elements NoValues ≡ read_at set b i (record_in set b s)
  null_there t slot null left = sym (null_list_read set (ListValue zero_word) t (null_list set t) p null left) ∙ pointer_there (ListValue zero_word) (ListType t) refl slot

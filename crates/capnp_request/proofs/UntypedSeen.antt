-- An untyped pointer is what stands at its slot's place, and null where nothing does.
use Rattle.std.proofs.Common.{ℕ, ◌≡◌, ◌∙◌, ap, ap₂, refl, sym, true}
use Rattle.capnp_wire.specs.Standing.{levels_of, struct_levels, struct_of, tree_of}
use Rattle.capnp_wire.specs.Tree as tree
use Rattle.capnp_wire.specs.Tree.{Tree, nth_tree}
use Rattle.capnp_wire.specs.declared.pointer_reader.PointerReader.{PointerReader}
use Rattle.capnp_wire.specs.declared.struct_reader.StructReader.{StructReader}
use Rattle.capnp_schema.specs.Builtin.{zero_word}
use Rattle.capnp_schema.specs.Schema.{AnyPointerValue, Slot, Value as SchemaValue}
use Rattle.capnp_schema.specs.Types.{AnyPointerType, SchemaType, is_pointer}
use Rattle.capnp_records.specs.Default.{read_of}
use Rattle.capnp_records.specs.Facts.Frame.{chosen_first}
use Rattle.capnp_records.specs.Facts.Pointers.{values_of_nth}
use Rattle.capnp_records.specs.Reading.{Reading, value_of}
use Rattle.capnp_records.specs.Record as value
use Rattle.capnp_records.specs.Record.{Left, Levels}
use Rattle.capnp_known.specs.Facts.PartsSeen.{seen_by}
use Rattle.capnp_known.specs.Known.{IsActive, IsSlot, read_at, record_in}
use Rattle.capnp_request.specs.RequestSet.{request_set}

untyped_read : (x : Tree) (l : Levels) → value.Untyped x ≡ read_of request_set (AnyPointerValue zero_word) AnyPointerType (value_of request_set x l AnyPointerType)
untyped_read tree.Null l = refl
untyped_read (tree.Struct bytes ps) l = refl
untyped_read (tree.Voids n) l = refl
untyped_read (tree.Bits bs) l = refl
untyped_read (tree.Numbers w bytes) l = refl
untyped_read (tree.Pointers ps) l = refl
untyped_read (tree.Composite d p es) l = refl
untyped_read (tree.FaultLeaf k) l = refl

module _ (s : StructReader) (b i : ℕ) (active : IsActive request_set b i s) (p : PointerReader) (place : ℕ) (tree_is : tree_of p ≡ nth_tree (struct_of s).pointers place) (levels : levels_of p ≡ struct_levels s) where
  pointer_there : (d : SchemaValue) (t : SchemaType) → is_pointer t ≡ true → IsSlot request_set b i t place d → read_of request_set d t (value_of request_set (tree_of p) (Left (levels_of p)) t) ≡ read_at request_set b i (record_in request_set b s)
  pointer_there d t is slot =
      sym (seen_by request_set s b i active (Slot place d) t slot.0 slot.1
      ∙ ap (read_of request_set d t)
      (chosen_first (is_pointer t) _ _ is
      ∙ (ap (λ (f : Reading). f (Left (struct_levels s)) t) (values_of_nth request_set (struct_of s).pointers place)
      ∙ ap₂ (λ x n. value_of request_set x (Left n) t) (sym tree_is) (sym levels))))

  pub untyped_there : IsSlot request_set b i AnyPointerType place (AnyPointerValue zero_word) → value.Untyped (tree_of p) ≡ read_at request_set b i (record_in request_set b s)
  untyped_there slot = untyped_read (tree_of p) (Left (levels_of p)) ∙ pointer_there (AnyPointerValue zero_word) AnyPointerType refl slot

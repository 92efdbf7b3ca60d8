-- What a pointer leads to, by its target alone.
use Rattle.std.specs.Prelude.{Bool, false, suc, true, zero, ℕ}
use Rattle.capnp_wire.specs.Reading.{reads_bits, reads_numbers, reads_pointers, reads_voids}
use Rattle.capnp_wire.specs.declared.size.ElementSize.{ElementSize}
use Rattle.capnp_arena.specs.Shape.{CompositeIn, ListIn, NoShape, Shape, StructIn}

abbrev pub is_no_shape : Shape → Bool
is_no_shape NoShape = true
is_no_shape (StructIn start d p) = false
is_no_shape (ListIn start size count) = false
is_no_shape (CompositeIn tag count d p) = false

abbrev pub is_struct_shape : Shape → Bool
is_struct_shape NoShape = false
is_struct_shape (StructIn start d p) = true
is_struct_shape (ListIn start size count) = false
is_struct_shape (CompositeIn tag count d p) = false

abbrev pub is_list_shape : Shape → Bool
is_list_shape NoShape = false
is_list_shape (StructIn start d p) = false
is_list_shape (ListIn start size count) = true
is_list_shape (CompositeIn tag count d p) = true

-- whether a list of elements of the size with a number is read as one of the size that is asked
abbrev pub reads_kind : ElementSize → ℕ → Bool
reads_kind asked zero = reads_voids asked
reads_kind asked (suc zero) = reads_bits asked
reads_kind asked (suc (suc zero)) = reads_numbers asked 1
reads_kind asked (suc (suc (suc zero))) = reads_numbers asked 2
reads_kind asked (suc (suc (suc (suc zero)))) = reads_numbers asked 4
reads_kind asked (suc (suc (suc (suc (suc zero))))) = reads_numbers asked 8
reads_kind asked (suc (suc (suc (suc (suc (suc size)))))) = reads_pointers asked

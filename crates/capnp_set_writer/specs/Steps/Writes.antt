-- What the calls of the writer do to a tree, one after another: steps of the code.
use Rattle.std.specs.Prelude.{ℕ, zero, suc, ◌≡◌, ◌*◌, ⊤, List, [], ◌∷◌}
use Rattle.capnp_device.specs.declared.error.ErrorKind.{ErrorKind}
use Rattle.capnp_device.specs.declared.error.ErrorKind.TheVariants.{SizePastFormat, UnknownKind}
use Rattle.capnp_wire.specs.Edits.{nulls, with_bytes, with_number, with_pointer_tree}
use Rattle.capnp_wire.specs.Place.{struct_tree}
use Rattle.capnp_wire.specs.Tree.{MoreStructs, MoreTrees, NoStructs, NoTrees, Null, StructTree, Structs, Tree, Trees}
use Rattle.capnp_arena.specs.Built.{IsBuilt, built_at}
use Rattle.capnp_arena.specs.declared.arena.Arena.{Arena}
use Rattle.capnp_arena.specs.declared.arena.Place.{Place}
use Rattle.capnp_base.specs.declared.introspect.TypeVariant.{TypeVariant}
use Rattle.capnp_base.specs.declared.introspect.TypeVariant.TheVariants as variant
use Rattle.capnp_schema.specs.Schema.{FieldKind, Group, Node, Slot}
use Rattle.capnp_schema.specs.SlotValue.{bit_number}
use Rattle.capnp_set_writer.specs.Trees.{value_tree, zeros}
use Rattle.capnp_set_writer.specs.Writes.{IsWriteRefusal}

-- and for a value only where not each has its kind, and for a length only where not each fits
abbrev pub IsPartWriteRefusal : (kinds fits : Type 0) → ErrorKind → Type 0
IsPartWriteRefusal kinds fits kind = IsWriteRefusal kind × (kind ≡ UnknownKind → kinds → ⊥) × (kind ≡ SizePastFormat → fits → ⊥)

-- a new struct of so many words and pointers
abbrev pub blank : (data_words pointers : ℕ) → StructTree
blank data_words pointers = record { bytes = zeros (8 * data_words); pointers = nulls pointers }

-- it stands at a place
pub record IsNew (d p : ℕ) (a : Arena) (place : Place) : Type 0 where
  pub planted : IsBuilt a place
  pub is : built_at a place ≡ blank d p
  pub data_words : place.data_words ≡ d
  pub pointers : place.pointers ≡ p

-- with a number of so many bytes at an offset in units of its width
abbrev pub number_put : (width offset number : ℕ) → StructTree → StructTree
number_put width offset number s = with_bytes s (with_number width offset number s.bytes)

-- a struct of these sections stands at a place
pub record HasSections (d p : ℕ) (a : Arena) (place : Place) : Type 0 where
  pub planted : IsBuilt a place
  pub data_words : place.data_words ≡ d
  pub pointers : place.pointers ≡ p

-- with the numbers of a node
abbrev pub sections_written : Node → StructTree → StructTree
sections_written n s =
    number_put 4 4 n.discriminant_offset (number_put 1 14 (bit_number n.is_group)
    (number_put 2 6 n.discriminant_count (number_put 2 5 n.pointer_count (number_put 2 4 n.data_word_count (number_put 8 0 n.id s)))))

-- with the kind of a field
abbrev pub kind_written : FieldKind → StructTree → StructTree
kind_written (Slot offset default) s = with_pointer_tree (number_put 4 1 offset (number_put 2 1 0 s)) 2 (struct_tree (value_tree default))
kind_written (Group node) s = number_put 4 1 node (number_put 2 1 1 s)

-- a row of structs, the first so many of these and the rest blank
abbrev pub filled_rows : StructTree → List StructTree → ℕ → Structs
filled_rows z [] i = NoStructs
filled_rows z (s ∷ ss) zero = MoreStructs z.bytes z.pointers (filled_rows z ss zero)
filled_rows z (s ∷ ss) (suc i) = MoreStructs s.bytes s.pointers (filled_rows z ss i)

-- a row of trees, the first so many of these and the rest null
abbrev pub filled_trees : List Tree → ℕ → Trees
filled_trees [] i = NoTrees
filled_trees (t ∷ ts) zero = MoreTrees Null (filled_trees ts zero)
filled_trees (t ∷ ts) (suc i) = MoreTrees t (filled_trees ts i)

-- a layer of a type that is no list
abbrev pub IsBare : TypeVariant → Type 0
IsBare (variant.List element) = ⊥
IsBare v = ⊤

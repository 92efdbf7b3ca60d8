-- Worked examples of what handles give, computed on the built-in set.
use Rattle.std.specs.Prelude.{◌≡◌, refl, [], ◌∷◌, replicate, Some, None}
use Rattle.capnp_wire.specs.Tree as tree
use Rattle.capnp_wire.specs.Tree.{NoTrees, MoreTrees}
use Rattle.capnp_wire.specs.Place.{tree_at, tree_below}
use Rattle.capnp_schema.specs.Types.{ListType, StructType, TextType, UIntType}
use Rattle.capnp_schema.specs.Schema.{TextValue, default_of, field_at, no_node, node_of}
use Rattle.capnp_schema.specs.Builtin.{builtin}
use Rattle.capnp_schema.specs.Defaults.{IsDefaultReadAs, value_default_tree}
use Rattle.capnp_schema.specs.Discriminant.{discriminant_of}
use Rattle.capnp_schema.specs.StructHandles.{generic_at}

-- Shapes.tag has its discriminant in bytes 6 and 7, Loop in bytes 0 and 1; Flat has no union
tag_discriminant : discriminant_of (node_of builtin 5) ≡ Some 48
tag_discriminant = refl

loop_discriminant : discriminant_of (node_of builtin 6) ≡ Some 0
loop_discriminant = refl

flat_discriminant : discriminant_of (node_of builtin 0) ≡ None
flat_discriminant = refl

-- past the last brand stands nothing
nothing_past_the_end : node_of builtin 9 ≡ no_node
nothing_past_the_end = refl

no_discriminant_past_the_end : discriminant_of (node_of builtin 9) ≡ None
no_discriminant_past_the_end = refl

node_numbers : generic_at builtin 5 ≡ 5
node_numbers = refl

no_node_number : generic_at builtin 9 ≡ 0
no_node_number = refl

-- the default of Loop.again is a struct; that of Lists.items is null, and texts, numbers and groups have none
again_default : value_default_tree (default_of (field_at builtin 6 1).field) ≡ tree.Struct (1 ∷ replicate 7 0) (MoreTrees tree.Null NoTrees)
unfolding tree_at tree_below
again_default = refl

items_default : value_default_tree (default_of (field_at builtin 7 3).field) ≡ tree.Null
unfolding tree_at
items_default = refl

text_default : value_default_tree (TextValue (97 ∷ [])) ≡ tree.Null
text_default = refl

group_default : value_default_tree (default_of (field_at builtin 3 1).field) ≡ tree.Null
group_default = refl

-- bytes are read as a list of bytes, and not as a text's slot or a struct
bytes_are_read : IsDefaultReadAs (ListType (UIntType 1)) (tree.Numbers 1 (7 ∷ []))
bytes_are_read = (tt, refl)

bytes_are_no_struct : IsDefaultReadAs (StructType 0 0) (tree.Numbers 1 (7 ∷ [])) → ⊥
bytes_are_no_struct h = h

bytes_are_no_text : IsDefaultReadAs TextType (tree.Numbers 1 (7 ∷ [])) → ⊥
bytes_are_no_text h = cc

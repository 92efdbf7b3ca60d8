-- The one element of the new list was all zero, and takes all of the struct.
use Rattle.std.proofs.Common.{arith, ap, ap₂, ◌∙◌, ◌≡◌, ◌*◌, length}
use Rattle.std.proofs.lemmas.List.{length-replicate}
use Rattle.capnp_wire.specs.Edits.{fitted_struct, zero_structs}
use Rattle.capnp_wire.specs.Elements.{with_struct_element}
use Rattle.capnp_wire.specs.Facts.Rows.{tree_count_nulls}
use Rattle.capnp_wire.specs.Reading.{element_struct}
use Rattle.capnp_wire.specs.Standing.{struct_of}
use Rattle.capnp_wire.specs.Tree.{Composite, MoreStructs, NoStructs, StructTree, Tree, tree_count}
use Rattle.capnp_wire.specs.declared.size.StructSize.{StructSize}
use Rattle.capnp_splices.specs.Alone.{struct_alone, whole_size}
use Rattle.capnp_splices.proofs.Filled.{fitted_whole}
use Rattle.capnp_splices.proofs.alone.list_struct.Goals as goal

put_whole : (least size : StructSize) (s : StructTree) (t : Tree) → size ≡ whole_size least s → t ≡ zero_structs size 1
    → with_struct_element 0 (fitted_struct (length (element_struct t 0).bytes) (tree_count (element_struct t 0).pointers) s) t ≡ struct_alone least s
put_whole least size s t is new =
    ap (λ x. with_struct_element 0 (fitted_struct (length (element_struct x 0).bytes) (tree_count (element_struct x 0).pointers) s) x) (new ∙ ap (λ z. zero_structs z 1) is)
    ∙ (ap₂ (λ m n. with_struct_element 0 (fitted_struct m n s) (zero_structs (whole_size least s) 1)) (length-replicate (8 * (whole_size least s).data_words) 0) (tree_count_nulls (whole_size least s).pointers)
    ∙ ap (λ (x : StructTree). Composite (whole_size least s).data_words (whole_size least s).pointers (MoreStructs x.bytes x.pointers NoStructs))
    (fitted_whole (whole_size least s) s (omega arith) (omega arith)))

pub returns-clause-tree : goal.returns-clause-tree
returns-clause-tree c =
    c.in_ok-put_struct.ensures.tree
    ∙ put_whole c.args.least c.size_for-size.result (struct_of c.args.source.now) _ c.size_for-size.ensures c.in_ok-init_struct_list.ensures.tree

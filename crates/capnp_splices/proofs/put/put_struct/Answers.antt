-- What a call leaves in the element's struct is what it leaves in the list.
use Rattle.std.proofs.Common.{ap, length, sym, ◌*◌, ◌≡◌, ◌∙◌}
use Rattle.capnp_wire.specs.Edits.{fitted_struct}
use Rattle.capnp_wire.specs.Elements.{with_struct_element}
use Rattle.capnp_wire.specs.Standing.{struct_of}
use Rattle.capnp_wire.specs.Tree.{StructTree, tree_count}
use Rattle.capnp_arena.specs.Forest.{struct_from, tree}
use Rattle.capnp_arena.specs.Segment.{segment}
use Rattle.capnp_arena.specs.Facts.Places.{data_of, pointers_of}
use Rattle.capnp_splices.proofs.put.put_struct.Goals as goal

pub returns-clause-message : goal.returns-clause-message
returns-clause-message c = (c.get_struct_at-place.ensures.leaves _ c.in_ok-copy_content_from.ensures.planted c.in_ok-copy_content_from.ensures.changes).forest

pub returns-clause-tree : goal.returns-clause-tree
returns-clause-tree c =
    let p = c.get_struct_at-place.result in
    let old : StructTree = struct_from (segment c.args.arena.now) p.start p.data_words p.pointers in
    let size : fitted_struct (8 * p.data_words) p.pointers (struct_of c.args.source.now) ≡ fitted_struct (length old.bytes) (tree_count old.pointers) (struct_of c.args.source.now) =
    ap (λ n. fitted_struct n p.pointers (struct_of c.args.source.now)) (sym (data_of (segment c.args.arena.now) p.start p.data_words p.pointers c.get_struct_at-place.ensures.planted))
    ∙ ap (λ n. fitted_struct (length old.bytes) n (struct_of c.args.source.now)) (sym (pointers_of (segment c.args.arena.now) p.start p.data_words p.pointers)) in
    (c.get_struct_at-place.ensures.leaves _ c.in_ok-copy_content_from.ensures.planted c.in_ok-copy_content_from.ensures.changes).tree
    ∙ (ap (λ (s : StructTree). with_struct_element c.args.index s (tree (segment c.args.arena.now) 0)) (c.in_ok-copy_content_from.ensures.tree ∙ size)
    ∙ ap (λ (s : StructTree). with_struct_element c.args.index (fitted_struct (length s.bytes) (tree_count s.pointers) (struct_of c.args.source.now)) (tree (segment c.args.arena.now) 0)) c.get_struct_at-place.ensures.tree)

-- The struct that was got is the root; else the copy was refused, or what was copied is a list.
use Rattle.std.proofs.Common.{ap, arith, refl, ◌∙◌}
use Rattle.std.proofs.lemmas.Result.{err_from_is_err_and}
use Rattle.capnp_wire.specs.Edits.{extended_struct, struct_in}
use Rattle.capnp_wire.specs.Place.{struct_tree}
use Rattle.capnp_wire.specs.Standing.{tree_of}
use Rattle.capnp_wire.specs.Tree.{Tree}
use Rattle.capnp_arena.specs.Message.{message_tree}
use Rattle.capnp_call.proofs.Starts.{copied_root, copy_stops, refused_whole, root_copied, stopped_whole}
use Rattle.capnp_call.proofs.message.copied_root.Goals as goal

pub returns-in_err-set_root-clause-cause : goal.returns-in_err-set_root-clause-cause
returns-in_err-set_root-clause-cause c =
    let p = err_from_is_err_and c.from_residual.result c.from_residual.ensures.1 in
    rw (p.1, p.2) (copy_stops _ (tree_of c.args.source) c.in_err-set_root.ensures.cause)

pub returns-in_err-get_struct-clause-cause : goal.returns-in_err-get_struct-clause-cause
returns-in_err-get_struct-clause-cause c =
    let p = err_from_is_err_and c.from_residual-in_err-get_struct.result c.from_residual-in_err-get_struct.ensures.1 in
    rw (p.1, p.2) (stopped_whole _ (tree_of c.args.source) _ c.in_ok-set_root.ensures.sound c.in_ok-set_root.ensures.tree c.in_err-get_struct.ensures.cause)

pub returns-clause-root : goal.returns-clause-root
returns-clause-root c =
    copied_root c.args.schema c.size_of-size.result (extended_struct c.size_of-size.result (struct_in (tree_of c.args.source))) (tree_of c.args.source) (message_tree c.get_struct.new.self) c.size_of-size.ensures
    refl (c.in_ok-get_struct.ensures.tree ∙ ap (λ (t : Tree). struct_tree (extended_struct c.size_of-size.result (struct_in t))) c.in_ok-set_root.ensures.tree) (omega arith) (omega arith)
    c.pointer_is_well_formed.ensures

pub returns-clause-copied : goal.returns-clause-copied
returns-clause-copied c =
    root_copied c.args.schema c.size_of-size.result (extended_struct c.size_of-size.result (struct_in (tree_of c.args.source))) c.args.source (message_tree c.get_struct.new.self) c.size_of-size.ensures
    refl (c.in_ok-get_struct.ensures.tree ∙ ap (λ (t : Tree). struct_tree (extended_struct c.size_of-size.result (struct_in t))) c.in_ok-set_root.ensures.tree)

pub returns-clause-sound : goal.returns-clause-sound
returns-clause-sound c = refused_whole (tree_of c.args.source) _ _ c.in_ok-set_root.ensures.sound c.in_ok-set_root.ensures.tree c.in_ok-get_struct.ensures.within

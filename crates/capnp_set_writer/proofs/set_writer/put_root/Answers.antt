-- The root is new, of the size of a set's record.
use Rattle.std.proofs.Common.{refl}
use Rattle.capnp_set_writer.proofs.Places.{made, new_struct}
use Rattle.capnp_set_writer.proofs.Trees.{both_ok}
use Rattle.capnp_set_writer.proofs.set_writer.put_root.Goals as goal

pub put_lists-requires : goal.put_lists-requires
put_lists-requires c = new_struct c.init_struct.new.self 0 c.in_ok-root.root 0 3 _ c.in_ok-root.ensures.forest c.in_ok-root.ensures.place c.in_ok-root.ensures.tree refl refl

pub returns-clause-forest : goal.returns-clause-forest
returns-clause-forest c = both_ok c.put_lists.result
    (λ h e. (made c.args.arena.now 0 c.in_ok-root.root c.in_ok-root.ensures.forest c.in_ok-root.ensures.place c.in_ok-root.ensures.changes h e).frame.forest)
    c.put_lists.ensures.frame c.put_lists.ensures.written

pub returns-clause-written : goal.returns-clause-written
returns-clause-written c = both_ok c.put_lists.result
    (λ h e. (made c.args.arena.now 0 c.in_ok-root.root c.in_ok-root.ensures.forest c.in_ok-root.ensures.place c.in_ok-root.ensures.changes h e).tree)
    c.put_lists.ensures.frame c.put_lists.ensures.written

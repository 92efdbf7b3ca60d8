-- The struct is new, and of the part's size.
use Rattle.capnp_set_writer.proofs.Places.{made, new_struct}
use Rattle.capnp_set_writer.proofs.Trees.{both_ok}
use Rattle.capnp_set_writer.proofs.rows.put_struct.Goals as goal

pub put-requires : goal.put-requires
put-requires g c =
    new_struct c.init_struct.new.self c.args.at c.in_ok-place.place g.T.Part.data_words g.T.Part.pointers c.size.result c.in_ok-place.ensures.forest c.in_ok-place.ensures.place
    c.in_ok-place.ensures.tree c.size.ensures.data_words c.size.ensures.pointers

pub returns-clause-frame : goal.returns-clause-frame
returns-clause-frame g c = both_ok c.put.result
    (λ h e. (made c.args.arena.now c.args.at c.in_ok-place.place c.in_ok-place.ensures.forest c.in_ok-place.ensures.place c.in_ok-place.ensures.changes h e).frame)
    c.put.ensures.frame c.put.ensures.written

pub returns-clause-written : goal.returns-clause-written
returns-clause-written g c = both_ok c.put.result
    (λ h e. (made c.args.arena.now c.args.at c.in_ok-place.place c.in_ok-place.ensures.forest c.in_ok-place.ensures.place c.in_ok-place.ensures.changes h e).tree)
    c.put.ensures.frame c.put.ensures.written

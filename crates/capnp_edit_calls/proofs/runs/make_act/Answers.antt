-- A call, an edit, or a copy.
use Rattle.std.proofs.Common.{[], ◌∷◌, refl, subst, sym}
use Rattle.capnp_arena.specs.Built.{built_at}
use Rattle.capnp_arena.specs.Segment.{segment}
use Rattle.capnp_schema.specs.StructHandles.{number_of, set_of}
use Rattle.capnp_call.specs.Seen.{path_seen, reply_seen}
use Rattle.capnp_call.proofs.Making.{call_made}
use Rattle.capnp_edit_calls.specs.ActsMade.{ActsMade, called, copied, edited}
use Rattle.capnp_edit_calls.specs.ChangesSeen.{change_seen}
use Rattle.capnp_edit_calls.specs.declared.acts.Act.{Act}
use Rattle.capnp_edit_calls.proofs.Acting.{copies_at, edits_at}
use Rattle.capnp_edit_calls.proofs.runs.make_act.Goals as goal

pub returns-in-Call-clause-made : goal.returns-in-Call-clause-made
returns-in-Call-clause-made c =
    let old = built_at c.args.arena.now c.args.place in
    let new = built_at c.walk.new.arena c.args.place in
    subst (λ (a : Act). ActsMade c.args.schema old (a ∷ []) (c.walk.result ∷ []) new) (sym c.in-Call.is)
    (called c.in-Call.call c.walk.result old new (record {
      step = call_made (set_of c.args.schema) (number_of c.args.schema) c.in-Call.call _ old c.walk.result new refl c.walk.ensures.walks;
      rests = c.walk.ensures.rests;
    }))

pub returns-in-Edit-clause-made : goal.returns-in-Edit-clause-made
returns-in-Edit-clause-made c =
    let old = built_at c.args.arena.now c.args.place in
    let new = built_at c.edit_list.new.arena c.args.place in
    let e = c.in-Edit.edit in
    subst (λ (a : Act). ActsMade c.args.schema old (a ∷ []) (c.edit_list.result ∷ []) new) (sym c.in-Edit.is)
    (edited e c.edit_list.result old new
    (edits_at c.args.schema c.args.place (path_seen e.path.now) (change_seen e.change) (reply_seen c.edit_list.result) (segment c.args.arena.now) (segment c.edit_list.new.arena) c.edit_list.ensures.edits))

pub returns-in-Copy-clause-made : goal.returns-in-Copy-clause-made
returns-in-Copy-clause-made c =
    let old = built_at c.args.arena.now c.args.place in
    let new = built_at c.copy_part.new.arena c.args.place in
    let k = c.in-Copy.copy in
    subst (λ (a : Act). ActsMade c.args.schema old (a ∷ []) (c.copy_part.result ∷ []) new) (sym c.in-Copy.is)
    (copied k c.copy_part.result old new
    (copies_at c.args.schema c.args.place (path_seen k.path.now) (path_seen k.from.now) (reply_seen c.copy_part.result) (segment c.args.arena.now) (segment c.copy_part.new.arena) c.copy_part.ensures.copies))

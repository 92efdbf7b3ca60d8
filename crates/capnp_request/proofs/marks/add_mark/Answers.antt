use Rattle.capnp_request.proofs.FieldsDone.{marked_more}
use Rattle.capnp_request.proofs.marks.add_mark.Goals as goal

pub returns-in_ok-push-2-clause-added : goal.returns-in_ok-push-2-clause-added
returns-in_ok-push-2-clause-added c = marked_more _ _ _ _ _ _ c.requires c.in_ok-push.ensures.items c.in_ok-push-2.ensures.items c.float_mark.ensures c.mark_type.ensures _ c.if-is_float.true

-- What a step makes stands behind what was made before, so its bytes are those that are taken.
use Rattle.std.proofs.Common.{inr, rules}
use Rattle.std.proofs.lemmas.Result.{err_from_is_err_and}
use Rattle.capnp_request.proofs.SizesTaken.{left_after, more_than_left}
use Rattle.capnp_request.proofs.within.make_next_within.Goals as goal

pub returns-in_err-rest-clause-refused : goal.returns-in_err-rest-clause-refused
returns-in_err-rest-clause-refused c = λ hs h.
    let done = c.in_ok-more.ensures.done hs h in
    let p = err_from_is_err_and c.from_residual-in_err-rest.result c.from_residual-in_err-rest.ensures.1 in
    rw (p.1, p.2) (λ is. inr (c.in_err-rest.ensures.1, (c.in_ok-more.more, (done.0, (done.2, more_than_left c.args.progress.now.made c.make_next.new.self.made c.len-structs.result c.len-enums.result (search rules) (search rules) c.in_ok-more.ensures.structs c.in_ok-more.ensures.enums c.args.left.now c.in_err-rest.ensures.0)))))

pub returns-clause-left : goal.returns-clause-left
returns-clause-left c = left_after c.args.progress.now.made c.make_next.new.self.made c.len-structs.result c.len-enums.result (search rules) (search rules) c.in_ok-more.ensures.structs c.in_ok-more.ensures.enums c.args.left.now c.in_ok-rest.rest c.in_ok-rest.ensures

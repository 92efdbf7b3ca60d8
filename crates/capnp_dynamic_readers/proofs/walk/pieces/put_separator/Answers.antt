-- Between lines a separator is a comma and a new line: the two put in turn are its text, and a stop in either is one in it.
use Rattle.capnp_dynamic_readers.proofs.Streams.{below_put, below_stopped, handed_on, separator_begun}
use Rattle.capnp_dynamic_readers.proofs.walk.pieces.put_separator.Goals as goal

pub returns-in_ok-put-in-Some-clause-put : goal.returns-in_ok-put-in-Some-clause-put
returns-in_ok-put-in-Some-clause-put g c =
    below_put c.put_line-in-Some.result c.args.at c.in-Some.field-0 c.args.first (g.O.Out.text c.args.out.now) (g.O.Out.text c.put-in-Some.new.self) (g.O.Out.text c.put_line-in-Some.new.out) c.if-first.false c.in-Some.is
    c.in_ok-put-in-Some.ensures.put c.put_line-in-Some.ensures.put

pub returns-in_err-put-in-Some-clause-stopped : goal.returns-in_err-put-in-Some-clause-stopped
returns-in_err-put-in-Some-clause-stopped g c =
    handed_on c.from_residual.result _ _ c.from_residual.ensures.1
    (separator_begun c.args.at c.in-Some.field-0 c.args.first (g.O.Out.text c.args.out.now) c.in_err-put-in-Some.field-0.0 c.if-first.false c.in-Some.is c.in_err-put-in-Some.ensures.stopped)

pub returns-in_ok-put-in-Some-clause-stopped : goal.returns-in_ok-put-in-Some-clause-stopped
returns-in_ok-put-in-Some-clause-stopped g c =
    below_stopped c.put_line-in-Some.result c.args.at c.in-Some.field-0 c.args.first (g.O.Out.text c.args.out.now) (g.O.Out.text c.put-in-Some.new.self) c.if-first.false c.in-Some.is
    c.in_ok-put-in-Some.ensures.put c.put_line-in-Some.ensures.stopped

-- An opening, the digits and a quote, put in turn, are the data's text; a stop in one of the three is a stop in it.
use Rattle.std.specs.Prelude.{codes, flat_map}
use Rattle.capnp_dynamic_readers.specs.Steps.Leaf.{two_digits}
use Rattle.capnp_dynamic_readers.proofs.Steps.{err_map, ok_map}
use Rattle.capnp_dynamic_readers.proofs.Streams.{first_of_three, handed_on, second_of_three, third_of_three, three_put}
use Rattle.capnp_dynamic_readers.proofs.walk.leaves.put_data.Goals as goal

pub returns-in_err-put-clause-stopped : goal.returns-in_err-put-clause-stopped
returns-in_err-put-clause-stopped g c =
    let old = g.O.Out.text c.args.out.now in
    let stop = c.in_err-put.field-0.0 in
    handed_on c.from_residual.result _ stop c.from_residual.ensures.1
    (first_of_three old old old (codes "0x\"") (flat_map two_digits c.args.bytes.now) (codes "\"") stop c.in_err-put.ensures.stopped)

pub returns-in_err-put_digits-clause-stopped : goal.returns-in_err-put_digits-clause-stopped
returns-in_err-put_digits-clause-stopped g c =
    let mid = g.O.Out.text c.put.new.self in
    let stop = c.in_err-put_digits.field-0.0 in
    handed_on c.from_residual-in_err-put_digits.result _ stop c.from_residual-in_err-put_digits.ensures.1
    (second_of_three (g.O.Out.text c.args.out.now) mid mid (codes "0x\"") (flat_map two_digits c.args.bytes.now) (codes "\"") stop c.in_ok-put.ensures.put c.in_err-put_digits.ensures.stopped)

pub returns-clause-put : goal.returns-clause-put
returns-clause-put g c =
    ok_map c.put-2.result
    (three_put (g.O.Out.text c.args.out.now) (g.O.Out.text c.put.new.self) (g.O.Out.text c.put_digits.new.out) (g.O.Out.text c.put-2.new.self)
    (codes "0x\"") (flat_map two_digits c.args.bytes.now) (codes "\"") c.in_ok-put.ensures.put c.in_ok-put_digits.ensures.put)
    c.put-2.ensures.put

pub returns-clause-stopped : goal.returns-clause-stopped
returns-clause-stopped g c =
    err_map c.put-2.result
    (λ stop. third_of_three (g.O.Out.text c.args.out.now) (g.O.Out.text c.put.new.self) (g.O.Out.text c.put_digits.new.out)
    (codes "0x\"") (flat_map two_digits c.args.bytes.now) (codes "\"") stop c.in_ok-put.ensures.put c.in_ok-put_digits.ensures.put)
    c.put-2.ensures.stopped

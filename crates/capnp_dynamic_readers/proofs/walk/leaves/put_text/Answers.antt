-- Bytes that are UTF-8 are put in quotes; others are three pieces, whose middle is their numbers. A stop in one is a stop in all.
use Rattle.std.specs.Prelude.{codes}
use Rattle.capnp_records.specs.Text.{decimals}
use Rattle.capnp_dynamic_readers.proofs.Pieces.{numbers_put, numbers_stopped, string_put, string_stopped}
use Rattle.capnp_dynamic_readers.proofs.Steps.{err_map, ok_map}
use Rattle.capnp_dynamic_readers.proofs.Streams.{first_of_three, handed_on, second_of_three, third_of_three}
use Rattle.capnp_dynamic_readers.proofs.walk.leaves.put_text.Goals as goal

pub returns-in-Ok-clause-put : goal.returns-in-Ok-clause-put
returns-in-Ok-clause-put g c =
    ok_map c.put_debug.result (string_put c.args.bytes.now c.in-Ok.string.now (g.O.Out.text c.args.out.now) (g.O.Out.text c.put_debug.new.self) c.in-Ok.ensures.cases) c.put_debug.ensures.put

pub returns-in-Ok-clause-stopped : goal.returns-in-Ok-clause-stopped
returns-in-Ok-clause-stopped g c =
    err_map c.put_debug.result (λ stop. string_stopped c.args.bytes.now c.in-Ok.string.now (g.O.Out.text c.args.out.now) stop c.in-Ok.ensures.cases) c.put_debug.ensures.stopped

pub returns-in_err-put-clause-stopped : goal.returns-in_err-put-clause-stopped
returns-in_err-put-clause-stopped g c =
    let old = g.O.Out.text c.args.out.now in
    let stop = c.in_err-put.field-0.0 in
    handed_on c.from_residual.result _ stop c.from_residual.ensures.1
    (numbers_stopped c.args.bytes.now old stop c.in_default.ensures.cases.0
    (first_of_three old old old (codes "<invalid utf-8: [") (decimals c.args.bytes.now) (codes "]>") stop c.in_err-put.ensures.stopped))

pub returns-in_err-put_decimals-clause-stopped : goal.returns-in_err-put_decimals-clause-stopped
returns-in_err-put_decimals-clause-stopped g c =
    let old = g.O.Out.text c.args.out.now in
    let mid = g.O.Out.text c.put.new.self in
    let stop = c.in_err-put_decimals.field-0.0 in
    handed_on c.from_residual-in_err-put_decimals.result _ stop c.from_residual-in_err-put_decimals.ensures.1
    (numbers_stopped c.args.bytes.now old stop c.in_default.ensures.cases.0
    (second_of_three old mid mid (codes "<invalid utf-8: [") (decimals c.args.bytes.now) (codes "]>") stop c.in_ok-put.ensures.put c.in_err-put_decimals.ensures.stopped))

pub returns-clause-put : goal.returns-clause-put
returns-clause-put g c =
    ok_map c.put-2.result
    (numbers_put c.args.bytes.now (g.O.Out.text c.args.out.now) (g.O.Out.text c.put.new.self) (g.O.Out.text c.put_decimals.new.out) (g.O.Out.text c.put-2.new.self)
    c.in_default.ensures.cases.0 c.in_ok-put.ensures.put c.in_ok-put_decimals.ensures.put)
    c.put-2.ensures.put

pub returns-clause-stopped : goal.returns-clause-stopped
returns-clause-stopped g c =
    let old = g.O.Out.text c.args.out.now in
    err_map c.put-2.result
    (λ stop h. numbers_stopped c.args.bytes.now old stop c.in_default.ensures.cases.0
    (third_of_three old (g.O.Out.text c.put.new.self) (g.O.Out.text c.put_decimals.new.out) (codes "<invalid utf-8: [") (decimals c.args.bytes.now) (codes "]>") stop
    c.in_ok-put.ensures.put c.in_ok-put_decimals.ensures.put h))
    c.put-2.ensures.stopped

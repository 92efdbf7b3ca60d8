-- A closing is a line, one level shallower, and a bracket; a stop in either is one in their joined text.
use Rattle.std.proofs.Common.{arith, codes, length-append, refl, subst, ◌++◌}
use Rattle.capnp_records.specs.Text.{Layout, line, said_text}
use Rattle.capnp_dynamic_readers.specs.Steps.Pieces.{IsPut, IsStopped}
use Rattle.capnp_dynamic_readers.proofs.Streams.{handed_on, known_stopped, stopped_inside, two_put}
use Rattle.capnp_dynamic_readers.proofs.walk.groups.close.Goals as goal

pub returns-in-Some-clause-closed : goal.returns-in-Some-clause-closed
returns-in-Some-clause-closed g c = (
  subst (λ (z : Layout). IsPut (g.O.Out.text c.args.out.now) (said_text (line z ++ codes ")")) (g.O.Out.text c.put.new.self)) c.one_shallower-at.ensures
      (two_put (g.O.Out.text c.args.out.now) (g.O.Out.text c.put_line.new.out) (g.O.Out.text c.put.new.self) (line c.one_shallower-at.result) (codes ")") c.in_ok-put_line.ensures.put c.in_ok-put.ensures.put),
  record {
    set = c.in-Some.ensures.set;
    depth = c.in-Some.ensures.depth;
    frames = c.in-Some.ensures.frames;
    first = refl;
    at = c.one_shallower-at.ensures;
  },
)

pub returns-in-None-clause-closed : goal.returns-in-None-clause-closed
returns-in-None-clause-closed g c = (
  subst (λ (z : Layout). IsPut (g.O.Out.text c.args.out.now) (said_text (line z ++ codes ")")) (g.O.Out.text c.put.new.self)) c.one_shallower-at.ensures
      (two_put (g.O.Out.text c.args.out.now) (g.O.Out.text c.put_line.new.out) (g.O.Out.text c.put.new.self) (line c.one_shallower-at.result) (codes ")") c.in_ok-put_line.ensures.put c.in_ok-put.ensures.put),
  c.in-None.ensures.frames,
)

pub returns-in_err-put_line-clause-stopped : goal.returns-in_err-put_line-clause-stopped
returns-in_err-put_line-clause-stopped g c =
    let own = line c.one_shallower-at.result in
    let stop = c.in_err-put_line.field-0.0 in
    handed_on c.from_residual.result _ stop c.from_residual.ensures.1
    (subst (λ (z : Layout). IsStopped (g.O.Out.text c.args.out.now) (said_text (line z ++ codes ")")) stop) c.one_shallower-at.ensures
    (known_stopped (g.O.Out.text c.args.out.now) own (own ++ codes ")") stop (omega (arith, length-append own (codes ")"))) c.in_err-put_line.ensures.stopped))

pub returns-in_err-put-clause-stopped : goal.returns-in_err-put-clause-stopped
returns-in_err-put-clause-stopped g c =
    let own = line c.one_shallower-at.result in
    let stop = c.in_err-put.field-0.0 in
    handed_on c.from_residual-in_err-put.result _ stop c.from_residual-in_err-put.ensures.1
    (subst (λ (z : Layout). IsStopped (g.O.Out.text c.args.out.now) (said_text (line z ++ codes ")")) stop) c.one_shallower-at.ensures
    (stopped_inside (g.O.Out.text c.args.out.now) (g.O.Out.text c.put_line.new.out) own (codes ")") (own ++ codes ")") stop (omega (arith, length-append own (codes ")"))) c.in_ok-put_line.ensures.put c.in_err-put.ensures.stopped))

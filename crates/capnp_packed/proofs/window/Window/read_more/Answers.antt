-- What is read stands behind what waits.
use Rattle.std.proofs.Common.{◌≡◌, ◌∙◌, ◌++◌, ◌-◌, length, take, ap, arith, rules}
use Rattle.std.proofs.lemmas.List.{length-take}
use Rattle.capnp_packed.specs.Sources.{held}
use Rattle.capnp_packed.specs.Steps.Windows.{held_end}
use Rattle.capnp_packed.proofs.Held.{read_behind}
use Rattle.capnp_packed.proofs.window.Window.read_more.Goals as goal

pub returns-clause-read : goal.returns-clause-read
unfolding held held_end
returns-clause-read g c =
    let w = c.move_to_front.new.self in
    let long : length w.bytes ≡ 4096 = search rules in
    let inside = c.in-Ok.ensures.bound in
    let same : length c.read_some.new.buffer ≡ 4096 - w.end = search rules in
    let t = length-take c.in-Ok.count c.read_some.new.buffer in
    record {
      read = take c.in-Ok.count c.read_some.new.buffer;
      count = omega (arith, t, inside);
      behind = read_behind w.bytes c.read_some.new.buffer _ w.start w.end c.in-Ok.count w.inside (omega (arith, long)) (omega (arith, inside))
          ∙ ap (λ x. x ++ take c.in-Ok.count c.read_some.new.buffer) c.move_to_front.ensures.same;
      consumed = c.in-Ok.ensures.bytes.0;
      end = λ z. c.in-Ok.ensures.bytes.1 z (omega (arith, same, c.move_to_front.ensures.end));
    }

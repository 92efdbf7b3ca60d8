-- What is behind the open brackets in the rest is what is behind the value.
-- Each part opens a bracket, closes one, or ends the value where none is open; the rest gets shorter.
use Rattle.std.proofs.Common.{arith}
use Rattle.std.proofs.lemmas.List.{nil_from_length}
use Rattle.capnp_json_text.specs.Texts.{after_value}
use Rattle.capnp_json_text.proofs.Enough.{begun_shorter}
use Rattle.capnp_json_text.proofs.Nesting.{closes, ends, fails, opens}
use Rattle.capnp_json_text.proofs.values.skip_value.Goals as goal

pub returns-in-Err-clause-read : goal.returns-in-Err-clause-read
returns-in-Err-clause-read c = fails c.parts.brackets.items c.parts.part c.parts.rest.now c.in-Err.fault.now (after_value c.args.bytes.now) c.in-Err.ensures c.parts.invariant

pub parts-smaller-in-Some : goal.parts-smaller-in-Some
parts-smaller-in-Some c = begun_shorter c.parts.part c.in-Ok.read.0 c.in-Ok.read.1.now c.parts.rest.now c.in-Ok.ensures

pub parts-preserved-in-Some : goal.parts-preserved-in-Some
parts-preserved-in-Some c =
    opens c.parts.brackets.items c.push.new.self.items c.parts.part c.in-Ok.read.0 c.in-Some.opened c.parts.rest.now c.in-Ok.read.1.now (after_value c.args.bytes.now)
    c.in-Some.is c.in_ok-push.ensures.items c.in-Ok.ensures c.parts.invariant

pub parts-smaller : goal.parts-smaller
parts-smaller c = begun_shorter c.parts.part c.in-Ok.read.0 c.in-Ok.read.1.now c.parts.rest.now c.in-Ok.ensures

pub returns-in_default-pop-clause-read : goal.returns-in_default-pop-clause-read
returns-in_default-pop-clause-read c =
    let size = c.parts.brackets.ok.0 in
    let none = c.in_default-pop.ensures.cases.0 in
    ends c.parts.brackets.items c.parts.part c.in-Ok.read.0 c.parts.rest.now c.in-Ok.read.1.now (after_value c.args.bytes.now) c.in_default.is
    (nil_from_length c.parts.brackets.items (omega (arith, size, none))) c.in-Ok.ensures c.parts.invariant

pub parts-preserved : goal.parts-preserved
parts-preserved c =
    closes c.pop.new.self.items c.parts.brackets.items c.parts.part c.in-Ok.read.0 c.in-Some-pop.closed c.parts.rest.now c.in-Ok.read.1.now (after_value c.args.bytes.now)
    c.in_default.is c.in-Some-pop.ensures.items c.in-Ok.ensures c.parts.invariant

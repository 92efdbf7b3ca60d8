-- A look at the bytes is the value at its place, the text's length less the bytes'; so the leaf of that look is the value's leaf.
use Rattle.std.proofs.Common.{◌≡◌, ◌-◌, length, ap, subst, ◌∙◌, arith}
use Rattle.capnp_schema.specs.Types.{seen_variant}
use Rattle.capnp_from_json.specs.LeafReads.{IsLeafOf, under}
use Rattle.capnp_from_json.specs.Looks.{look_seen}
use Rattle.capnp_from_json.specs.Records.{value_of_json}
use Rattle.capnp_from_json.proofs.values.read_leaf.Goals as goal

pub returns-in-Ok-clause-read : goal.returns-in-Ok-clause-read
returns-in-Ok-clause-read c = λ rules e floats levels part.
    let place : c.saturating_sub-place.result ≡ c.args.whole - length c.args.bytes.now = omega arith in
    subst (λ j. IsLeafOf (value_of_json rules j levels (under (seen_variant c.args.of) part c.args.is_float c.args.form)) c.read_looked.result)
    (ap (λ p. look_seen c.args.whole p c.in-Ok.look) place ∙ c.in-Ok.ensures.read c.args.whole)
    (c.read_looked.ensures.read rules e floats levels part)

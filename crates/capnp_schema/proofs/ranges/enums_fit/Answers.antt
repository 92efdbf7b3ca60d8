-- The walk keeps that all enums before the index fit, each with its own annotations' values and its enumerants'.
use Rattle.std.proofs.Common.{arith, map}
use Rattle.std.proofs.lemmas.List.{length-map}
use Rattle.capnp_schema.specs.Schema.{Enum, seen_enum}
use Rattle.capnp_schema.specs.Accepted.{EachOfEnum}
use Rattle.capnp_schema.specs.Ranges.{ValuesFit}
use Rattle.capnp_schema.proofs.EntryWalk.{all_stand, is_so_here, more_stand, none_stand, seen_read}
use Rattle.capnp_schema.proofs.ranges.enums_fit.Goals as goal

abbrev Fits : Enum → Type 0
Fits a = EachOfEnum ValuesFit a

pub loop-i-init : goal.loop-i-init
loop-i-init c = none_stand _ Fits

pub loop-i-preserved : goal.loop-i-preserved
loop-i-preserved c = more_stand _ Fits _ c.loop-i.invariant (is_so_here (map seen_enum c.args.enums.now) Fits c.loop-i.i _ (seen_read seen_enum c.args.enums.now c.loop-i.i c.index-enums-i.result c.loop-i-test.true c.index-enums-i.is) c.enum_fits.ensures)

pub returns : goal.returns
returns c = all_stand _ Fits _ c.loop-i.invariant (let n = length-map c.args.enums.now seen_enum in omega arith)

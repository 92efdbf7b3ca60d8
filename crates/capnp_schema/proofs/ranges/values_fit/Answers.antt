-- The walk keeps that the values of all annotations before the index fit; the value of the annotation read there does too.
use Rattle.std.proofs.Common.{arith, map}
use Rattle.std.proofs.lemmas.List.{length-map}
use Rattle.capnp_schema.specs.Schema.{Annotation, seen_annotation}
use Rattle.capnp_schema.specs.Ranges.{ValueFits}
use Rattle.capnp_schema.proofs.EntryWalk.{all_stand, is_so_here, more_stand, none_stand, seen_read}
use Rattle.capnp_schema.proofs.ranges.values_fit.Goals as goal

abbrev Fits : Annotation → Type 0
Fits a = ValueFits a.value

pub loop-i-init : goal.loop-i-init
loop-i-init c = none_stand _ Fits

pub loop-i-preserved : goal.loop-i-preserved
loop-i-preserved c =
    let here = rw (← c.index-annotations-i.is) at c.value_fits.ensures in
    more_stand _ Fits _ c.loop-i.invariant (is_so_here (map seen_annotation c.args.annotations.now) Fits c.loop-i.i _ (seen_read seen_annotation c.args.annotations.now c.loop-i.i c.index-annotations-i.result c.loop-i-test.true c.index-annotations-i.is) here)

pub returns : goal.returns
returns c = all_stand _ Fits _ c.loop-i.invariant (let n = length-map c.args.annotations.now seen_annotation in omega arith)

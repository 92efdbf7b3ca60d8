-- The walk keeps that the annotations' values of all enumerants before the index fit; those of the enumerant read there do too.
use Rattle.std.proofs.Common.{◌≡◌, ap, arith, map, sym, ◌∙◌}
use Rattle.std.proofs.lemmas.List.{length-map}
use Rattle.capnp_schema.specs.Schema.{Enumerant, seen_enumerant}
use Rattle.capnp_schema.specs.Ranges.{ValuesFit}
use Rattle.capnp_schema.specs.declared.record.EnumerantRecord.{EnumerantRecord}
use Rattle.capnp_schema.proofs.EntryWalk.{all_stand, is_so_here, more_stand, none_stand, seen_read}
use Rattle.capnp_schema.proofs.ranges.enumerants_fit.Goals as goal

abbrev Fits : Enumerant → Type 0
Fits a = ValuesFit a.annotations

pub loop-i-init : goal.loop-i-init
loop-i-init c = none_stand _ Fits

pub loop-i-preserved : goal.loop-i-preserved
loop-i-preserved c =
    let e : c.deref.result.now ≡ c.index-enumerants-i.result.annotations.items = c.deref.ensures.value ∙ ap (λ (x : EnumerantRecord). x.annotations.items) (sym c.index-enumerants-i.is) in
    let here = rw e at c.values_fit.ensures in
    more_stand _ Fits _ c.loop-i.invariant (is_so_here (map seen_enumerant c.args.enumerants.now) Fits c.loop-i.i _ (seen_read seen_enumerant c.args.enumerants.now c.loop-i.i c.index-enumerants-i.result c.loop-i-test.true c.index-enumerants-i.is) here)

pub returns : goal.returns
returns c = all_stand _ Fits _ c.loop-i.invariant (let n = length-map c.args.enumerants.now seen_enumerant in omega arith)

-- The walk keeps that the values before the index have whole words; one that has not refutes it of all.
use Rattle.std.proofs.Common.{arith, map, refl}
use Rattle.std.proofs.lemmas.List.{length-map}
use Rattle.capnp_schema.specs.Accepted.{HasWords}
use Rattle.capnp_schema.specs.Schema.{Annotation, seen_annotation}
use Rattle.capnp_schema.proofs.EntryWalk.{all_stand, breaks_all, entry_breaks, is_so_here, more_stand, none_stand, seen_read}
use Rattle.capnp_schema.proofs.check.values.have_words.Goals as goal

abbrev HasOwnWords : Annotation → Type 0
HasOwnWords a = HasWords a.value

pub loop-i-init : goal.loop-i-init
loop-i-init c = none_stand _ HasOwnWords

pub loop-i-preserved : goal.loop-i-preserved
loop-i-preserved c =
    let words = rw (← c.index-annotations-i.is) at (c.has_words.ensures.0 c.if-not-has_words.false) in
    more_stand _ HasOwnWords _ c.loop-i.invariant (is_so_here (map seen_annotation c.args.annotations.now) HasOwnWords c.loop-i.i _ (seen_read seen_annotation c.args.annotations.now c.loop-i.i c.index-annotations-i.result c.loop-i-test.true c.index-annotations-i.is) words)

pub returns-then-not-has_words : goal.returns-then-not-has_words
returns-then-not-has_words c =
    (λ e. cc, λ all. absurd (breaks_all (map seen_annotation c.args.annotations.now) HasOwnWords c.loop-i.i (entry_breaks (map seen_annotation c.args.annotations.now) HasOwnWords c.loop-i.i _ (seen_read seen_annotation c.args.annotations.now c.loop-i.i c.index-annotations-i.result c.loop-i-test.true c.index-annotations-i.is) (λ words. let t = c.has_words.ensures.1 (rw c.index-annotations-i.is at words) in cc)) all))

pub returns : goal.returns
returns c = (λ _. all_stand _ HasOwnWords _ c.loop-i.invariant (let n = length-map c.args.annotations.now seen_annotation in omega arith), λ _. refl)

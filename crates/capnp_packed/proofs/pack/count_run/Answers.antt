-- A run ends where no word is left, and where a word does not go on with it.
use Rattle.std.proofs.Common.{◌≡◌, ◌+◌, ◌-◌, length, ap, sym, ◌∙◌, arith, rules}
use Rattle.std.proofs.lemmas.List.{length-drop}
use Rattle.capnp_packed.specs.Packing.{goes_on_packed, words_passing}
use Rattle.capnp_packed.proofs.Tags.{count_ends, counted, full_count, too_short}
use Rattle.capnp_packed.proofs.pack.count_run.Goals as goal

pub returns-then-left-lt8-clause-words : goal.returns-then-left-lt8-clause-words
returns-then-left-lt8-clause-words c =
    count_ends c.args.zeros c.loop-count.count _ c.loop-count.left.now (too_short c.args.zeros c.loop-count.left.now (search rules)) c.loop-count.invariant.words

pub returns-then-not-goes_on-clause-words : goal.returns-then-not-goes_on-clause-words
returns-then-not-goes_on-clause-words c =
    count_ends c.args.zeros c.loop-count.count _ c.loop-count.left.now
    (ap (goes_on_packed c.args.zeros) (sym c.part.ensures) ∙ sym c.goes_on.ensures ∙ c.if-not-goes_on.true) c.loop-count.invariant.words

pub loop-count-preserved : goal.loop-count-preserved
loop-count-preserved c =
    let long : length c.rest-left.result.now ≡ length c.loop-count.left.now - 8 = ap length c.rest-left.ensures ∙ length-drop 8 c.loop-count.left.now in
    record {
      words = ap (λ x. (c.loop-count.count + 1) + words_passing (goes_on_packed c.args.zeros) (255 - (c.loop-count.count + 1)) x) c.rest-left.ensures
          ∙ counted c.args.zeros c.loop-count.count _ c.loop-count.left.now (search rules)
          (ap (goes_on_packed c.args.zeros) (sym c.part.ensures) ∙ sym c.goes_on.ensures ∙ c.if-not-goes_on.false) c.loop-count.invariant.words;
      inside = let some = c.if-left-lt8.false in let h = c.loop-count.invariant.inside in grind (arith, long, some, h);
    }

pub returns-clause-words : goal.returns-clause-words
returns-clause-words c = full_count c.args.zeros c.loop-count.count _ c.loop-count.left.now (search rules) c.loop-count.invariant.words

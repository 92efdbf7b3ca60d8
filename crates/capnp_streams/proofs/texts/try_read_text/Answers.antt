-- Lines of blanks were read one after another.
use Rattle.std.proofs.Common.{ℕ, suc, List, [], ◌∷◌, ◌≡◌, ◌<◌, ◌∙◌, arith, length, refl, rules, subst, sym}
use Rattle.capnp_json_text.specs.Readings.{after_blanks}
use Rattle.capnp_streams.specs.Texts.{AreBlanksRead, no_blanks, one_blank}
use Rattle.capnp_streams.proofs.texts.try_read_text.Goals as goal

none_of : {A : Type 0} (xs : List A) → (0 < length xs → ⊥) → xs ≡ []
none_of [] h = refl
none_of (x ∷ xs) h = absurd (h (omega arith))

pub lines-init : goal.lines-init
lines-init g c = record {
  blanks_read = no_blanks (g.S.Source.left c.args.source.now);
  small = omega arith;
  worked = refl;
}

pub returns-then-not-branch-clause-text : goal.returns-then-not-branch-clause-text
returns-then-not-branch-clause-text g c = record {
  count = c.lines.blanks;
  mid = g.S.Source.left c.lines.source;
  blanks = c.lines.invariant.blanks_read;
  over = search rules;
}

pub lines-preserved : goal.lines-preserved
lines-preserved g c =
    let more = c.in-Some.ensures in
    let next : c.in-Some.next ≡ suc c.lines.blanks = omega (arith, more) in
    record {
      blanks_read = subst (λ (n : ℕ). AreBlanksRead n (g.S.Source.left c.args.source.now) (g.S.Source.left c.read_line.new.source)) (sym next)
          (one_blank c.lines.blanks _ _ _ c.read_line.new.line.items c.lines.invariant.blanks_read (search rules)
          (subst (λ (xs : List ℕ). after_blanks xs ≡ []) c.deref.ensures.value (sym c.skip_blanks.ensures ∙ none_of c.skip_blanks.result.now (λ h. search rules))));
      small = omega (arith, more);
      worked = search rules;
    }

-- What is read of the rest, behind the parts so far, is what is read of all. A part that is refused refuses all; one more part
-- goes on, and the last one ends it.
use Rattle.std.proofs.Common.{◌≡◌, ◌-◌, ◌∷◌, ◌++◌, [], Ok, sym, subst, ap, ◌∙◌, arith, rules}
use Rattle.std.specs.Prelude.{IfErr, IfOk}
use Rattle.capnp_value_texts.specs.Errors.{IsErrorOf, read_as}
use Rattle.capnp_value_texts.specs.Steps.Seen.{name_seen, parts_view, written_read}
use Rattle.capnp_value_texts.specs.Seen.{shown_view}
use Rattle.capnp_value_texts.specs.Written.{NoPart, part_at, parts_within, written_within}
use Rattle.capnp_value_texts.specs.declared.error.RefusalKind.TheVariants.{TooDeep}
use Rattle.capnp_value_texts.proofs.Grammar.{at_leaf, bracket_read, bracket_refused, bracket_too_deep, nothing_left, parts_end, parts_fail, parts_more}
use Rattle.capnp_value_texts.proofs.Refusals.{error_as, error_at, error_same}
use Rattle.capnp_value_texts.proofs.Trees.{before_none, one_more, onto, parts_pushed}
use Rattle.capnp_value_texts.proofs.shown.+show.Goals as goal

pub read_parts-returns-in-Err-clause-refused : goal.read_parts-returns-in-Err-clause-refused
read_parts-returns-in-Err-clause-refused t c =
    let l = c.parts in
    let n = l.invariant.0 in
    let one = part_at (written_within c.args.levels c.args.whole) c.args.bracket c.args.whole in
    error_same _ _ c.in-Err.error l.invariant.2 (error_as (onto l.parts.items) (parts_within one n l.rest.now) c.in-Err.error (parts_fail one n l.rest.now c.in-Err.error (omega (arith, l.invariant.1)) c.in-Err.ensures.refused))

pub read_parts-returns-then-not-goes_on-clause-read : goal.read_parts-returns-then-not-goes_on-clause-read
read_parts-returns-then-not-goes_on-clause-read t c =
    let l = c.parts in
    let n = l.invariant.0 in
    let one = part_at (written_within c.args.levels c.args.whole) c.args.bracket c.args.whole in
    let p = c.in-Ok.one.part in
    let r = c.in-Ok.one.rest.now in
    let pushed : c.push.new.self.items ≡ l.parts.items ++ p ∷ [] = search rules in
    let last = parts_end one n l.rest.now r (name_seen p.0, shown_view p.1) c.in-Ok.one.goes_on (omega (arith, l.invariant.1)) c.if-not-goes_on.true c.in-Ok.ensures.read in
    l.invariant.2 ∙ (ap (read_as (onto l.parts.items)) last ∙ ap (λ ps. Ok (ps, r)) (parts_pushed l.parts.items p NoPart ∙ (before_none (l.parts.items ++ p ∷ []) ∙ ap parts_view (sym pushed))))

pub read_parts-parts-preserved : goal.read_parts-parts-preserved
read_parts-parts-preserved t c =
    let l = c.parts in
    let n = l.invariant.0 in
    let one = part_at (written_within c.args.levels c.args.whole) c.args.bracket c.args.whole in
    let p = c.in-Ok.one.part in
    let r = c.in-Ok.one.rest.now in
    let less = c.in-Ok.ensures.shorter in
    let pushed : c.push.new.self.items ≡ l.parts.items ++ p ∷ [] = search rules in
    let turn = parts_more one n l.rest.now r (name_seen p.0, shown_view p.1) c.in-Ok.one.goes_on (omega (arith, l.invariant.1)) c.if-not-goes_on.false c.in-Ok.ensures.read in (
      n - 1,
      omega (arith, l.invariant.1, less),
      l.invariant.2 ∙ (ap (read_as (onto l.parts.items)) turn ∙ (one_more l.parts.items p (parts_within one (n - 1) r) ∙ ap (λ ps. read_as (onto ps) (parts_within one (n - 1) r)) (sym pushed))),
      omega (arith, l.invariant.3, less),
    )

-- ---- what stands at the front ----

pub read_within-returns-in_default-clause-refused : goal.read_within-returns-in_default-clause-refused
read_within-returns-in_default-clause-refused t c = nothing_left c.args.levels c.args.whole c.args.bytes.now c.cannot_stand.result c.in_default.len_below c.cannot_stand.ensures

pub read_within-returns-in_default-bracket_of-clause-read : goal.read_within-returns-in_default-bracket_of-clause-read
read_within-returns-in_default-bracket_of-clause-read t c =
    let is = at_leaf c.args.levels c.args.whole c.args.bytes.now c.in-len1-up.len_at_least (sym c.bracket_of.ensures ∙ c.in_default-bracket_of.is) in
    subst (λ q. IfOk c.read_leaf.result (λ r. q ≡ Ok (written_read r))) (sym is) c.read_leaf.ensures.read

pub read_within-returns-in_default-bracket_of-clause-refused : goal.read_within-returns-in_default-bracket_of-clause-refused
read_within-returns-in_default-bracket_of-clause-refused t c =
    let is = at_leaf c.args.levels c.args.whole c.args.bytes.now c.in-len1-up.len_at_least (sym c.bracket_of.ensures ∙ c.in_default-bracket_of.is) in
    subst (λ q. IfErr c.read_leaf.result (IsErrorOf q)) (sym is) c.read_leaf.ensures.refused

pub read_within-returns-then-levels-eq0-clause-refused : goal.read_within-returns-then-levels-eq0-clause-refused
read_within-returns-then-levels-eq0-clause-refused t c =
    error_at _ c.refused.result TooDeep c.place_of-place.result _ c.refused.ensures c.place_of-place.ensures
    (bracket_too_deep c.args.levels c.args.whole c.args.bytes.now c.in-Some.bracket c.in-len1-up.len_at_least (sym c.bracket_of.ensures ∙ c.in-Some.is) c.if-levels-eq0.true)

pub read_within-returns-in-Ok-clause-read : goal.read_within-returns-in-Ok-clause-read
read_within-returns-in-Ok-clause-read t c =
    bracket_read c.args.levels c.args.whole c.place_of-place.result c.args.bytes.now c.behind_blanks.result.now c.in-Ok.held.1.now c.in-Some.bracket (parts_view c.in-Ok.held.0.items) (shown_view c.bracketed.result)
    c.in-len1-up.len_at_least (sym c.bracket_of.ensures ∙ c.in-Some.is) (omega (arith, c.if-levels-eq0.false)) c.behind_blanks.ensures.is c.place_of-place.ensures c.in-Ok.ensures.read c.bracketed.ensures

pub read_within-returns-in-Err-clause-refused : goal.read_within-returns-in-Err-clause-refused
read_within-returns-in-Err-clause-refused t c =
    bracket_refused c.args.levels c.args.whole c.args.bytes.now c.behind_blanks.result.now c.in-Some.bracket c.in-Err.error c.in-len1-up.len_at_least (sym c.bracket_of.ensures ∙ c.in-Some.is)
    (omega (arith, c.if-levels-eq0.false)) c.behind_blanks.ensures.is c.in-Err.ensures.refused

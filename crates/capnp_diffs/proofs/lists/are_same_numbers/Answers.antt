-- Elements that are the same add nothing, and one that differs adds a change.
use Rattle.std.proofs.Common.{arith, refl, sym, ◌∙◌}
use Rattle.capnp_schema.specs.Entries.{lists_seen}
use Rattle.capnp_schema.specs.Types.{seen_type}
use Rattle.capnp_diffs.proofs.NumbersFound.{numbers_differ, numbers_end, numbers_next, numbers_start, read_is}
use Rattle.capnp_diffs.proofs.lists.are_same_numbers.Goals as goal

pub loop-index-init : goal.loop-index-init
loop-index-init c = numbers_start (lists_seen c.args.schemas.now) c.args.old c.args.new (seen_type c.args.element) c.requires.number c.requires.length

pub returns-then-not-is_same_leaf-clause-same : goal.returns-then-not-is_same_leaf-clause-same
returns-then-not-is_same_leaf-clause-same c =
    let set = lists_seen c.args.schemas.now in
    let source = read_is set c.args.element c.requires.number c.new-source.result c.args.old (record { at_set = c.new-source.ensures.set; at_element = c.new-source.ensures.element; at_reader = c.new-source.ensures.reader }) c.loop-index.index c.in_ok-get.field-0 c.in_ok-get.ensures.value in
    let target = read_is set c.args.element c.requires.number c.new-target.result c.args.new (record { at_set = c.new-target.ensures.set; at_element = c.new-target.ensures.element; at_reader = c.new-target.ensures.reader }) c.loop-index.index c.in_ok-get-2.field-0 c.in_ok-get-2.ensures.value in (
      λ yes. cc,
      λ none. absurd (numbers_differ set c.args.old c.args.new (seen_type c.args.element) c.requires.number c.requires.length c.loop-index.index (omega (arith, c.loop-index-test.true, c.len-index-end.ensures.length, c.requires.length)) _ _ source target c.loop-index.invariant (sym c.if-not-is_same_leaf.true ∙ c.is_same_leaf.ensures) none),
    )

pub loop-index-preserved : goal.loop-index-preserved
loop-index-preserved c =
    let set = lists_seen c.args.schemas.now in
    let source = read_is set c.args.element c.requires.number c.new-source.result c.args.old (record { at_set = c.new-source.ensures.set; at_element = c.new-source.ensures.element; at_reader = c.new-source.ensures.reader }) c.loop-index.index c.in_ok-get.field-0 c.in_ok-get.ensures.value in
    let target = read_is set c.args.element c.requires.number c.new-target.result c.args.new (record { at_set = c.new-target.ensures.set; at_element = c.new-target.ensures.element; at_reader = c.new-target.ensures.reader }) c.loop-index.index c.in_ok-get-2.field-0 c.in_ok-get-2.ensures.value in
    numbers_next set c.args.old c.args.new (seen_type c.args.element) c.requires.number c.requires.length c.loop-index.index (omega (arith, c.loop-index-test.true, c.len-index-end.ensures.length, c.requires.length)) _ _ source target c.loop-index.invariant (sym c.if-not-is_same_leaf.false ∙ c.is_same_leaf.ensures)

pub returns-clause-same : goal.returns-clause-same
returns-clause-same c = (
  λ yes. numbers_end (lists_seen c.args.schemas.now) c.args.old c.args.new (seen_type c.args.element) c.requires.number c.requires.length c.loop-index.index (omega (arith, c.loop-index-test.false, c.len-index-end.ensures.length)) c.loop-index.invariant,
  λ none. refl,
)

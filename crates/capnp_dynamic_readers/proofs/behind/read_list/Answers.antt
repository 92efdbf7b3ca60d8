-- Each answer is the read of the pointer, or of its default.
use Rattle.std.proofs.Common.{◌≡◌, ◌+◌, arith, subst, IfOk, sym, ap, ap₂, ◌∙◌}
use Rattle.capnp_wire.specs.Reading.{as_list, is_null_tree}
use Rattle.capnp_wire.specs.Standing.{levels_of, list_levels, list_of, tree_of}
use Rattle.capnp_schema.specs.Schema.{kind_default, seen_kind}
use Rattle.capnp_dynamic_readers.proofs.Pointed.{list_bare, list_from_words, list_null, list_there}
use Rattle.capnp_dynamic_readers.proofs.behind.read_list.Goals as goal

pub returns-then-not-is_null : goal.returns-then-not-is_null
returns-then-not-is_null c set t sized =
    list_there set t c.args.size sized (kind_default (seen_kind c.args.kind.now)) (tree_of c.args.pointer.now) (levels_of c.args.pointer.now) (list_of c.in_ok-here.here) (list_levels c.in_ok-here.here)
    (grind (arith, c.is_null.ensures, c.if-not-is_null.true)) c.in_ok-here.ensures.read c.in_ok-here.ensures.levels

pub returns-in_default : goal.returns-in_default
returns-in_default c set t sized =
    list_bare set t c.args.size sized (kind_default (seen_kind c.args.kind.now)) (tree_of c.args.pointer.now) (levels_of c.args.pointer.now) (list_of c.in_ok-here.here) (list_levels c.in_ok-here.here)
    (grind (arith, c.is_null.ensures, c.if-not-is_null.false)) c.in_ok-here.ensures.read c.in_ok-here.ensures.levels c.in_default.ensures

pub returns-then-is_null : goal.returns-then-is_null
returns-then-is_null c set t sized =
    list_null set t c.args.size sized (kind_default (seen_kind c.args.kind.now)) (tree_of c.args.pointer.now) (levels_of c.args.pointer.now) (list_of c.in_ok-here.here) (list_levels c.in_ok-here.here) c.in-Some.words.now
    (grind (arith, c.is_null.ensures, c.if-not-is_null.false)) c.in_ok-here.ensures.read c.in_ok-here.ensures.levels c.in-Some.ensures
    (ap is_null_tree (sym c.from_words-default.ensures.tree) ∙ grind (arith, c.is_null-2.ensures, c.if-is_null.true))

pub returns : goal.returns
returns c set t sized =
    list_from_words set t c.args.size sized (kind_default (seen_kind c.args.kind.now)) (tree_of c.args.pointer.now) (levels_of c.args.pointer.now) c.get_list-2.result (list_levels c.in_ok-here.here) c.in-Some.words.now
    (grind (arith, c.is_null.ensures, c.if-not-is_null.false)) c.in_ok-here.ensures.levels c.in-Some.ensures
    (ap is_null_tree (sym c.from_words-default.ensures.tree) ∙ grind (arith, c.is_null-2.ensures, c.if-is_null.false))
    (c.get_list-2.ensures.read ∙ ap₂ (as_list c.args.size) c.from_words-default.ensures.tree c.from_words-default.ensures.levels)
    (subst (λ n. IfOk c.get_list-2.result (λ s. list_levels s + 1 ≡ n)) c.from_words-default.ensures.levels c.get_list-2.ensures.levels)

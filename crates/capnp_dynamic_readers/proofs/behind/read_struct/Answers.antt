-- Each answer is the read of the pointer, or of its default.
use Rattle.std.proofs.Common.{◌≡◌, ◌+◌, arith, subst, IfOk, sym, ap, ap₂, ◌∙◌}
use Rattle.capnp_wire.specs.Reading.{as_struct, is_null_tree}
use Rattle.capnp_wire.specs.Standing.{levels_of, struct_levels, struct_of, tree_of}
use Rattle.capnp_schema.specs.Schema.{kind_default, seen_kind}
use Rattle.capnp_dynamic_readers.proofs.Pointed.{struct_bare, struct_from_words, struct_null, struct_there}
use Rattle.capnp_dynamic_readers.proofs.behind.read_struct.Goals as goal

pub returns-then-not-is_null : goal.returns-then-not-is_null
returns-then-not-is_null c set b g =
    struct_there set b g (kind_default (seen_kind c.args.kind.now)) (tree_of c.args.pointer.now) (levels_of c.args.pointer.now) (struct_of c.in_ok-here.here) (struct_levels c.in_ok-here.here)
    (grind (arith, c.is_null.ensures, c.if-not-is_null.true)) c.in_ok-here.ensures.read c.in_ok-here.ensures.levels

pub returns-in_default : goal.returns-in_default
returns-in_default c set b g =
    struct_bare set b g (kind_default (seen_kind c.args.kind.now)) (tree_of c.args.pointer.now) (levels_of c.args.pointer.now) (struct_of c.in_ok-here.here) (struct_levels c.in_ok-here.here)
    (grind (arith, c.is_null.ensures, c.if-not-is_null.false)) c.in_ok-here.ensures.read c.in_ok-here.ensures.levels c.in_default.ensures

pub returns-then-is_null : goal.returns-then-is_null
returns-then-is_null c set b g =
    struct_null set b g (kind_default (seen_kind c.args.kind.now)) (tree_of c.args.pointer.now) (levels_of c.args.pointer.now) (struct_of c.in_ok-here.here) (struct_levels c.in_ok-here.here) c.in-Some.words.now
    (grind (arith, c.is_null.ensures, c.if-not-is_null.false)) c.in_ok-here.ensures.read c.in_ok-here.ensures.levels c.in-Some.ensures
    (ap is_null_tree (sym c.from_words-default.ensures.tree) ∙ grind (arith, c.is_null-2.ensures, c.if-is_null.true))

pub returns : goal.returns
returns c set b g =
    struct_from_words set b g (kind_default (seen_kind c.args.kind.now)) (tree_of c.args.pointer.now) (levels_of c.args.pointer.now) c.get_struct-2.result (struct_levels c.in_ok-here.here) c.in-Some.words.now
    (grind (arith, c.is_null.ensures, c.if-not-is_null.false)) c.in_ok-here.ensures.levels c.in-Some.ensures
    (ap is_null_tree (sym c.from_words-default.ensures.tree) ∙ grind (arith, c.is_null-2.ensures, c.if-is_null.false))
    (c.get_struct-2.ensures.read ∙ ap₂ as_struct c.from_words-default.ensures.tree c.from_words-default.ensures.levels)
    (subst (λ n. IfOk c.get_struct-2.result (λ s. struct_levels s + 1 ≡ n)) c.from_words-default.ensures.levels c.get_struct-2.ensures.levels)

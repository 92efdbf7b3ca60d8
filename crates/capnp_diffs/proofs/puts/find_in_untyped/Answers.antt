use Rattle.std.proofs.Common.{sym, ◌∙◌}
use Rattle.std.proofs.lemmas.Bool.{true≢false}
use Rattle.capnp_diffs.proofs.Whole.{ok_map, untyped_cleared, untyped_unchanged}
use Rattle.capnp_wire.specs.Standing.{levels_of, tree_of}
use Rattle.capnp_diffs.proofs.Refused.{err_map, memory_where, other_untyped}
use Rattle.capnp_diffs.proofs.puts.find_in_untyped.Goals as goal

pub returns-then-has_same_tree-clause-found : goal.returns-then-has_same_tree-clause-found
returns-then-has_same_tree-clause-found c = λ set. untyped_unchanged set c.args.step c.args.path.now c.args.out.now.items _ _ (c.has_same_tree.ensures.0 c.if-has_same_tree.true)

pub returns-clause-found : goal.returns-clause-found
returns-clause-found c = ok_map c.put_clear.result
    (λ adds set. untyped_cleared set c.args.step c.args.path.now c.args.out.now.items c.put_clear.new.out.items _ _ (λ same. true≢false (sym (c.has_same_tree.ensures.1 same) ∙ c.if-has_same_tree.false)) (sym c.is_null.ensures ∙ c.if-not-is_null.false) (adds set))
    c.put_clear.ensures.added

pub returns-then-not-is_null-clause-refused : goal.returns-then-not-is_null-clause-refused
returns-then-not-is_null-clause-refused c =
    other_untyped (tree_of c.args.old.now) (levels_of c.args.old.now) (tree_of c.args.new.now) (levels_of c.args.new.now) c.from.result.kind c.from.ensures
    (λ same. true≢false (sym (c.has_same_tree.ensures.1 same) ∙ c.if-has_same_tree.false)) (sym c.is_null.ensures ∙ c.if-not-is_null.true)

pub returns-clause-refused : goal.returns-clause-refused
returns-clause-refused c = err_map c.put_clear.result (λ e. memory_where _ e.kind) c.put_clear.ensures.cause

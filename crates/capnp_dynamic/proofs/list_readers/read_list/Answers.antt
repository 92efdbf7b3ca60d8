-- A null is read as a list of no elements, and a list as it stands.
use Rattle.std.proofs.Common.{◌≡◌, false, true, subst, sym, ◌∙◌}
use Rattle.capnp_wire.specs.Elements.{or_empty}
use Rattle.capnp_wire.specs.Reading.{empty_list, is_null_tree}
use Rattle.capnp_wire.specs.Tree.{Tree}
use Rattle.capnp_arena.specs.Forest.{tree}
use Rattle.capnp_arena.specs.Same.{IsCutOf}
use Rattle.capnp_arena.specs.Segment.{segment}
use Rattle.capnp_dynamic.proofs.Readers.{empty_cut, or_empty_list, or_empty_null}
use Rattle.capnp_dynamic.proofs.list_readers.read_list.Goals as goal

pub returns-then-is_null-clause-cut : goal.returns-then-is_null-clause-cut
returns-then-is_null-clause-cut c =
    let x : Tree = tree (segment c.args.arena.now) c.args.at in
    let null : is_null_tree x ≡ true = sym c.is_null.ensures ∙ c.if-is_null.true in
    subst (λ (t : Tree). IsCutOf t (or_empty c.args.size x)) (sym c.get_list_reader.ensures.read)
    (subst (IsCutOf (empty_list c.args.size)) (sym (or_empty_null c.args.size x null)) (empty_cut c.args.size))

pub returns-then-is_null-clause-list : goal.returns-then-is_null-clause-list
returns-then-is_null-clause-list c = λ below.
    let x : Tree = tree (segment c.args.arena.now) c.args.at in
    let null : is_null_tree x ≡ true = sym c.is_null.ensures ∙ c.if-is_null.true in
    c.get_list_reader.ensures.read ∙ sym (or_empty_null c.args.size x null)

pub returns-clause-cut : goal.returns-clause-cut
returns-clause-cut c =
    let x : Tree = tree (segment c.args.arena.now) c.args.at in
    let some : is_null_tree x ≡ false = sym c.is_null.ensures ∙ c.if-is_null.false in
    subst (λ (t : Tree). IsCutOf t (or_empty c.args.size x)) (sym (c.new.ensures.list ∙ (c.look.ensures ∙ c.pointer.ensures)))
    (subst (IsCutOf _) (sym (or_empty_list c.args.size x some)) c.get_pointer_reader-pointer.ensures.cut)

pub returns-clause-list : goal.returns-clause-list
returns-clause-list c = λ below.
    let x : Tree = tree (segment c.args.arena.now) c.args.at in
    let some : is_null_tree x ≡ false = sym c.is_null.ensures ∙ c.if-is_null.false in
    c.new.ensures.list ∙ (c.look.ensures ∙ (c.pointer.ensures ∙ (c.get_pointer_reader-pointer.ensures.tree below ∙ sym (or_empty_list c.args.size x some))))

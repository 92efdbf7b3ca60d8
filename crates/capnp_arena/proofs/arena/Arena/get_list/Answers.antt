-- A null is the empty list, and a struct is refused.
-- A list of either kind is got if its elements read as the size asked for, and else refused.
use Rattle.std.proofs.Common.{rules, ◌∙◌, ◌≡◌, Err, ap, false, sym, true}
use Rattle.capnp_wire.specs.Reading.{as_list, reads_structs}
use Rattle.capnp_arena.specs.Steps.Reads.{reads_kind}
use Rattle.capnp_arena.proofs.ListsRead.{plain_got, plain_refused, structs_got, structs_refused}
use Rattle.capnp_arena.proofs.Refusals.{null_is}
use Rattle.capnp_arena.specs.Facts.Structs.{tree_struct}
use Rattle.capnp_arena.proofs.arena.Arena.get_list.Goals as goal

pub returns-in-Null-clause-read : goal.returns-in-Null-clause-read
returns-in-Null-clause-read c = sym (ap (λ t. as_list c.args.size t 1) (null_is _ _ c.requires.forest (sym c.in-Null.ensures.shape)))

pub returns-in-Struct-clause-read : goal.returns-in-Struct-clause-read
returns-in-Struct-clause-read c = ap Err (search rules) ∙ sym (ap (λ t. as_list c.args.size t 1) (tree_struct _ _ _ _ _ c.requires.forest (sym c.in-Struct.ensures.shape)))

pub returns-then-not-reads_as-clause-read : goal.returns-then-not-reads_as-clause-read
returns-then-not-reads_as-clause-read c =
    let h : reads_kind c.args.size c.in-List.element_size ≡ false = search rules in
    ap Err (search rules) ∙ sym (plain_refused _ _ c.requires.forest c.args.size _ _ _ (sym c.in-List.ensures.shape) h)

pub returns-else-not-reads_as-clause-read : goal.returns-else-not-reads_as-clause-read
returns-else-not-reads_as-clause-read c =
    let h : reads_kind c.args.size c.in-List.element_size ≡ true = search rules in
    sym (plain_got _ _ c.requires.forest c.args.size _ _ _ (sym c.in-List.ensures.shape) h)

pub returns-then-not-reads_structs_as-clause-read : goal.returns-then-not-reads_structs_as-clause-read
returns-then-not-reads_structs_as-clause-read c =
    let h : reads_structs c.args.size c.in-Composite.data_words c.in-Composite.pointers ≡ false = search rules in
    ap Err (search rules) ∙ sym (structs_refused _ _ c.requires.forest c.args.size _ _ _ _ (sym c.in-Composite.ensures.shape) h)

pub returns-else-not-reads_structs_as-clause-read : goal.returns-else-not-reads_structs_as-clause-read
returns-else-not-reads_structs_as-clause-read c =
    let h : reads_structs c.args.size c.in-Composite.data_words c.in-Composite.pointers ≡ true = search rules in
    sym (structs_got _ _ c.requires.forest c.args.size _ _ _ _ (sym c.in-Composite.ensures.shape) h)

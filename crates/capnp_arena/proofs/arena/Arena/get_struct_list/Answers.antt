use Rattle.std.proofs.Common.{rules, arith, ◌≡◌, ◌∙◌, ap, sym}
use Rattle.capnp_arena.specs.Shape.{ListIn, shape_at}
use Rattle.capnp_arena.proofs.Refusals.{some_due}
use Rattle.capnp_arena.proofs.StructListTrees.{bits_due, list_reads, null_reads, null_stays, null_within, plain_holds_none, struct_holds_none, struct_list_due, structs_hold, structs_stay, structs_within}
use Rattle.capnp_arena.proofs.arena.Arena.get_struct_list.Goals.{else-size-data_words-via-else-size-data_words, else-size-data_words-via-then-size-data_words+else-size-pointers}
use Rattle.capnp_arena.proofs.arena.Arena.get_struct_list.Goals as goal

-- ---- a null ----

pub returns-in-Null-clause-tree : goal.returns-in-Null-clause-tree
returns-in-Null-clause-tree c = null_stays _ _ c.requires.forest (sym c.in-Null.ensures.shape) c.args.size

pub returns-in-Null-clause-reads : goal.returns-in-Null-clause-reads
returns-in-Null-clause-reads c = null_reads _ _ c.requires.forest (sym c.in-Null.ensures.shape) c.args.size

pub returns-in-Null-clause-within : goal.returns-in-Null-clause-within
returns-in-Null-clause-within c = null_within _ _ c.requires.forest (sym c.in-Null.ensures.shape) c.args.size

-- ---- a struct ----

pub returns-in-Struct-clause-cause : goal.returns-in-Struct-clause-cause
returns-in-Struct-clause-cause c = some_due c.from.result _ _ (struct_list_due _ _ c.requires.forest _ _ _ c.args.size (sym c.in-Struct.ensures.shape)) (search rules)

pub returns-in-Struct-clause-succeeds : goal.returns-in-Struct-clause-succeeds
returns-in-Struct-clause-succeeds c = λ h. absurd (struct_holds_none _ _ c.requires.forest _ _ _ c.args.size (sym c.in-Struct.ensures.shape) h)

-- ---- a list that is not of structs ----

pub returns-then-element_size-eq1-clause-cause : goal.returns-then-element_size-eq1-clause-cause
returns-then-element_size-eq1-clause-cause c =
    let e : shape_at c.args.self.now.bytes.items c.args.at ≡ ListIn c.in-List.start 1 c.in-List.count = sym c.in-List.ensures.shape ∙ ap (λ k. ListIn c.in-List.start k c.in-List.count) c.if-element_size-eq1.true in
    some_due c.from-then-element_size-eq1.result _ _ (bits_due _ _ c.requires.forest _ _ c.args.size e) (search rules)

pub returns-then-element_size-eq1-clause-succeeds : goal.returns-then-element_size-eq1-clause-succeeds
returns-then-element_size-eq1-clause-succeeds c = λ h. absurd (plain_holds_none _ _ c.requires.forest _ _ _ (sym c.in-List.ensures.shape) c.args.size h)

pub returns-in_err-grown-in-List-clause-succeeds : goal.returns-in_err-grown-in-List-clause-succeeds
returns-in_err-grown-in-List-clause-succeeds c = λ h. absurd (plain_holds_none _ _ c.requires.forest _ _ _ (sym c.in-List.ensures.shape) c.args.size h)

pub returns-in_ok-grown-in-List-clause-stays : goal.returns-in_ok-grown-in-List-clause-stays
returns-in_ok-grown-in-List-clause-stays c = λ h. absurd (plain_holds_none _ _ c.requires.forest _ _ _ (sym c.in-List.ensures.shape) c.args.size h)

pub returns-in_ok-grown-in-List-clause-reads : goal.returns-in_ok-grown-in-List-clause-reads
returns-in_ok-grown-in-List-clause-reads c = list_reads _ _ c.in_ok-grown-in-List.ensures.forest _ _ _ _ _ c.in_ok-grown-in-List.ensures.place c.in_ok-grown-in-List.ensures.tree

-- ---- structs ----

pub returns-then-size-pointers-clause-tree : goal.returns-then-size-pointers-clause-tree
returns-then-size-pointers-clause-tree c = structs_stay _ _ c.requires.forest _ _ _ _ (sym c.in-Composite.ensures.shape) c.args.size c.if-size-data_words.true c.if-size-pointers.true

pub returns-then-size-pointers-clause-reads : goal.returns-then-size-pointers-clause-reads
returns-then-size-pointers-clause-reads c =
    list_reads _ _ c.requires.forest _ _ _ _ _ (sym c.in-Composite.ensures.shape) (structs_stay _ _ c.requires.forest _ _ _ _ (sym c.in-Composite.ensures.shape) c.args.size c.if-size-data_words.true c.if-size-pointers.true)

pub returns-then-size-pointers-clause-within : goal.returns-then-size-pointers-clause-within
returns-then-size-pointers-clause-within c = structs_within _ _ c.requires.forest _ _ _ _ (sym c.in-Composite.ensures.shape) c.args.size c.if-size-data_words.true c.if-size-pointers.true

pub returns-in_err-grown-in-Composite-clause-succeeds : goal.returns-in_err-grown-in-Composite-clause-succeeds
returns-in_err-grown-in-Composite-clause-succeeds c = λ h.
    let l = structs_hold _ _ c.requires.forest _ _ _ _ (sym c.in-Composite.ensures.shape) c.args.size h in
    absurd (elim c.else-size-data_words.branch [
      | else-size-data_words-via-then-size-data_words+else-size-pointers w ↦ omega (arith, l.1, w.if-size-pointers.false)
      | else-size-data_words-via-else-size-data_words w ↦ omega (arith, l.0, w.if-size-data_words.false)
    ])

pub returns-in_ok-grown-in-Composite-clause-stays : goal.returns-in_ok-grown-in-Composite-clause-stays
returns-in_ok-grown-in-Composite-clause-stays c = λ h.
    let l = structs_hold _ _ c.requires.forest _ _ _ _ (sym c.in-Composite.ensures.shape) c.args.size h in
    absurd (elim c.else-size-data_words.branch [
      | else-size-data_words-via-then-size-data_words+else-size-pointers w ↦ omega (arith, l.1, w.if-size-pointers.false)
      | else-size-data_words-via-else-size-data_words w ↦ omega (arith, l.0, w.if-size-data_words.false)
    ])

pub returns-in_ok-grown-in-Composite-clause-reads : goal.returns-in_ok-grown-in-Composite-clause-reads
returns-in_ok-grown-in-Composite-clause-reads c = list_reads _ _ c.in_ok-grown-in-Composite.ensures.forest _ _ _ _ _ c.in_ok-grown-in-Composite.ensures.place c.in_ok-grown-in-Composite.ensures.tree

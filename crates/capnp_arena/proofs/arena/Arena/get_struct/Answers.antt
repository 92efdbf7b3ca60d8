use Rattle.std.proofs.Common.{IfOk, rules, arith, ◌≡◌, sym, subst}
use Rattle.std.proofs.lemmas.Result.{IfErr-weaker, IfOk-weaker}
use Rattle.capnp_arena.specs.Forest.{tree}
use Rattle.capnp_arena.proofs.Refusals.{composite_due, composite_holds, list_at_due, list_at_holds, none_due, null_due, null_extended, null_holds, some_due, struct_due, struct_grown, struct_holds, struct_stays}
use Rattle.capnp_arena.proofs.arena.Arena.get_struct.Goals.{else-size-data_words-via-else-size-data_words, else-size-data_words-via-then-size-data_words+else-size-pointers}
use Rattle.capnp_arena.proofs.arena.Arena.get_struct.Goals as goal

-- ---- one that is large enough ----

pub returns-then-size-pointers-clause-tree : goal.returns-then-size-pointers-clause-tree
returns-then-size-pointers-clause-tree c = struct_stays _ _ c.requires.forest _ _ _ (sym c.in-Struct.ensures.shape) c.args.size c.if-size-data_words.true c.if-size-pointers.true

pub returns-then-size-pointers-clause-within : goal.returns-then-size-pointers-clause-within
returns-then-size-pointers-clause-within c = struct_due _ _ c.requires.forest _ _ _ (sym c.in-Struct.ensures.shape)

-- ---- a null ----

pub returns-in-Null-clause-tree : goal.returns-in-Null-clause-tree
returns-in-Null-clause-tree c = subst (λ z. IfOk c.init_struct.result (λ _. tree c.init_struct.new.self.bytes.items c.args.at ≡ z)) (null_extended _ _ c.requires.forest (sym c.in-Null.ensures.shape) c.args.size) c.init_struct.ensures.tree

pub returns-in-Null-clause-within : goal.returns-in-Null-clause-within
returns-in-Null-clause-within c = IfOk-weaker c.init_struct.result _ _ (λ _ _. null_due _ _ c.requires.forest (sym c.in-Null.ensures.shape)) c.init_struct.ensures.tree

pub returns-in-Null-clause-cause : goal.returns-in-Null-clause-cause
returns-in-Null-clause-cause c = IfErr-weaker c.init_struct.result _ _ (λ e h. none_due e _ (null_due _ _ c.requires.forest (sym c.in-Null.ensures.shape)) h) c.init_struct.ensures.kind

pub returns-in-Null-clause-succeeds : goal.returns-in-Null-clause-succeeds
returns-in-Null-clause-succeeds c = λ h. absurd (null_holds _ _ c.requires.forest (sym c.in-Null.ensures.shape) c.args.size h)

pub returns-in-Null-clause-stays : goal.returns-in-Null-clause-stays
returns-in-Null-clause-stays c = λ h. absurd (null_holds _ _ c.requires.forest (sym c.in-Null.ensures.shape) c.args.size h)

-- ---- one that is not ----

pub returns-else-size-data_words-clause-tree : goal.returns-else-size-data_words-clause-tree
returns-else-size-data_words-clause-tree c = subst (λ z. IfOk c.extend_struct.result (λ _. tree c.extend_struct.new.self.bytes.items c.args.at ≡ z)) (struct_grown _ _ c.requires.forest _ _ _ (sym c.in-Struct.ensures.shape) c.args.size c.grow.result c.grow.ensures.data c.grow.ensures.pointers) c.extend_struct.ensures.tree

pub returns-else-size-data_words-clause-within : goal.returns-else-size-data_words-clause-within
returns-else-size-data_words-clause-within c = IfOk-weaker c.extend_struct.result _ _ (λ _ _. struct_due _ _ c.requires.forest _ _ _ (sym c.in-Struct.ensures.shape)) c.extend_struct.ensures.tree

pub returns-else-size-data_words-clause-cause : goal.returns-else-size-data_words-clause-cause
returns-else-size-data_words-clause-cause c = IfErr-weaker c.extend_struct.result _ _ (λ e h. none_due e _ (struct_due _ _ c.requires.forest _ _ _ (sym c.in-Struct.ensures.shape)) h) c.extend_struct.ensures.kind

pub returns-else-size-data_words-clause-succeeds : goal.returns-else-size-data_words-clause-succeeds
returns-else-size-data_words-clause-succeeds c = λ h.
    let l = struct_holds _ _ c.requires.forest _ _ _ (sym c.in-Struct.ensures.shape) c.args.size h in
    absurd (elim c.else-size-data_words.branch [
      | else-size-data_words-via-then-size-data_words+else-size-pointers w ↦ omega (arith, l.1, w.if-size-pointers.false)
      | else-size-data_words-via-else-size-data_words w ↦ omega (arith, l.0, w.if-size-data_words.false)
    ])

pub returns-else-size-data_words-clause-stays : goal.returns-else-size-data_words-clause-stays
returns-else-size-data_words-clause-stays c = λ h.
    let l = struct_holds _ _ c.requires.forest _ _ _ (sym c.in-Struct.ensures.shape) c.args.size h in
    absurd (elim c.else-size-data_words.branch [
      | else-size-data_words-via-then-size-data_words+else-size-pointers w ↦ omega (arith, l.1, w.if-size-pointers.false)
      | else-size-data_words-via-else-size-data_words w ↦ omega (arith, l.0, w.if-size-data_words.false)
    ])

-- ---- lists ----

pub returns-in-List-clause-cause : goal.returns-in-List-clause-cause
returns-in-List-clause-cause c = some_due c.from.result _ _ (list_at_due _ _ c.requires.forest _ _ _ (sym c.in-List.ensures.shape)) (search rules)

pub returns-in-List-clause-succeeds : goal.returns-in-List-clause-succeeds
returns-in-List-clause-succeeds c = λ h. absurd (list_at_holds _ _ c.requires.forest _ _ _ c.args.size (sym c.in-List.ensures.shape) h)

pub returns-in-Composite-clause-cause : goal.returns-in-Composite-clause-cause
returns-in-Composite-clause-cause c = some_due c.from-in-Composite.result _ _ (composite_due _ _ c.requires.forest _ _ _ _ (sym c.in-Composite.ensures.shape)) (search rules)

pub returns-in-Composite-clause-succeeds : goal.returns-in-Composite-clause-succeeds
returns-in-Composite-clause-succeeds c = λ h. absurd (composite_holds _ _ c.requires.forest _ _ _ _ c.args.size (sym c.in-Composite.ensures.shape) h)

use Rattle.std.proofs.Common.{Option, None, IfErr, IfOk, OnOk, ◌≡◌, sym, ap, ◌∙◌, subst}
use Rattle.capnp_device.specs.declared.error.ErrorKind.{ErrorKind}
use Rattle.capnp_wire.specs.Defaults.{default_tree, struct_default_refusal}
use Rattle.capnp_wire.specs.Edits.{IsDueRefusal, extended_struct, struct_in}
use Rattle.capnp_wire.specs.Place.{struct_tree}
use Rattle.capnp_arena.specs.Forest.{tree}
use Rattle.capnp_arena.specs.Segment.{segment}
use Rattle.capnp_wire.specs.Facts.FilledDefaults.{is_taken, left_struct, left_tree, no_struct, taken_struct, taken_tree}
use Rattle.capnp_arena.proofs.arena.Arena.get_struct_or_default.Goals as goal

-- ---- a default that is copied ----

pub put_struct-requires-clause-null : goal.put_struct-requires-clause-null
put_struct-requires-clause-null c = (is_taken c.args.default _ c.in-Some.reader (sym c.in-Some.is ∙ c.take_default.ensures)).null

pub returns-in-Some-clause-tree : goal.returns-in-Some-clause-tree
returns-in-Some-clause-tree c =
    let t = tree (segment c.args.self.now) c.args.at in
    let taken = is_taken c.args.default t c.in-Some.reader (sym c.in-Some.is ∙ c.take_default.ensures) in
    subst (λ u. IfOk c.put_struct.result (λ _. tree (segment c.put_struct.new.self) c.args.at ≡ struct_tree (extended_struct c.args.size (struct_in u)))) (taken.is ∙ taken_tree (default_tree c.args.default) t taken.null) c.put_struct.ensures.tree

pub returns-in-Some-clause-within : goal.returns-in-Some-clause-within
returns-in-Some-clause-within c =
    let t = tree (segment c.args.self.now) c.args.at in
    let taken = is_taken c.args.default t c.in-Some.reader (sym c.in-Some.is ∙ c.take_default.ensures) in
    subst (λ (u : Option ErrorKind). OnOk c.put_struct.result (u ≡ None)) (ap struct_default_refusal taken.is ∙ taken_struct (default_tree c.args.default) t taken.null) c.put_struct.ensures.within

pub returns-in-Some-clause-cause : goal.returns-in-Some-clause-cause
returns-in-Some-clause-cause c =
    let t = tree (segment c.args.self.now) c.args.at in
    let taken = is_taken c.args.default t c.in-Some.reader (sym c.in-Some.is ∙ c.take_default.ensures) in
    subst (λ u. IfErr c.put_struct.result (λ e. IsDueRefusal e u)) (ap struct_default_refusal taken.is ∙ taken_struct (default_tree c.args.default) t taken.null) c.put_struct.ensures.cause

pub returns-in-Some-clause-succeeds : goal.returns-in-Some-clause-succeeds
returns-in-Some-clause-succeeds c = λ h. no_struct c.args.size _ (is_taken c.args.default _ c.in-Some.reader (sym c.in-Some.is ∙ c.take_default.ensures)).null h

pub returns-in-Some-clause-stays : goal.returns-in-Some-clause-stays
returns-in-Some-clause-stays c = λ h. no_struct c.args.size _ (is_taken c.args.default _ c.in-Some.reader (sym c.in-Some.is ∙ c.take_default.ensures)).null h

-- ---- none ----

pub returns-in-None-clause-tree : goal.returns-in-None-clause-tree
returns-in-None-clause-tree c =
    let t = tree (segment c.args.self.now) c.args.at in
    subst (λ u. IfOk c.get_struct.result (λ _. tree (segment c.get_struct.new.self) c.args.at ≡ struct_tree (extended_struct c.args.size (struct_in u)))) (left_tree c.args.default t (sym c.in-None.is ∙ c.take_default.ensures)) c.get_struct.ensures.tree

pub returns-in-None-clause-within : goal.returns-in-None-clause-within
returns-in-None-clause-within c =
    let t = tree (segment c.args.self.now) c.args.at in
    subst (λ (u : Option ErrorKind). OnOk c.get_struct.result (u ≡ None)) (left_struct (default_tree c.args.default) t (left_tree c.args.default t (sym c.in-None.is ∙ c.take_default.ensures))) c.get_struct.ensures.within

pub returns-in-None-clause-cause : goal.returns-in-None-clause-cause
returns-in-None-clause-cause c =
    let t = tree (segment c.args.self.now) c.args.at in
    subst (λ u. IfErr c.get_struct.result (λ e. IsDueRefusal e u)) (left_struct (default_tree c.args.default) t (left_tree c.args.default t (sym c.in-None.is ∙ c.take_default.ensures))) c.get_struct.ensures.cause

use Rattle.std.proofs.Common.{Option, None, IfErr, IfOk, OnOk, ◌≡◌, sym, ap, ◌∙◌, subst}
use Rattle.capnp_device.specs.declared.error.ErrorKind.{ErrorKind}
use Rattle.capnp_wire.specs.Defaults.{default_tree, structs_default_refusal}
use Rattle.capnp_wire.specs.Edits.{IsDueRefusal}
use Rattle.capnp_wire.specs.Elements.{or_empty}
use Rattle.capnp_wire.specs.StructLists.{struct_list}
use Rattle.capnp_wire.specs.declared.size.ElementSize.TheVariants.{InlineComposite}
use Rattle.capnp_arena.specs.Forest.{tree}
use Rattle.capnp_arena.specs.Listed.{listed_tree}
use Rattle.capnp_arena.specs.Segment.{segment}
use Rattle.capnp_wire.specs.Facts.FilledDefaults.{is_taken, left_structs, left_tree, not_taken, taken_structs, taken_tree}
use Rattle.capnp_arena.proofs.arena.Arena.get_struct_list_or_default.Goals as goal

-- ---- a default that is copied ----

pub put_structs-requires-clause-null : goal.put_structs-requires-clause-null
put_structs-requires-clause-null c = (is_taken c.args.default _ c.in-Some.reader (sym c.in-Some.is ∙ c.take_default.ensures)).null

pub returns-in-Some-clause-tree : goal.returns-in-Some-clause-tree
returns-in-Some-clause-tree c =
    let t = tree (segment c.args.self.now) c.args.at in
    let taken = is_taken c.args.default t c.in-Some.reader (sym c.in-Some.is ∙ c.take_default.ensures) in
    subst (λ u. IfOk c.put_structs.result (λ _. tree (segment c.put_structs.new.self) c.args.at ≡ struct_list c.args.size u)) (taken.is ∙ taken_tree (default_tree c.args.default) t taken.null) c.put_structs.ensures.tree

pub returns-in-Some-clause-reads : goal.returns-in-Some-clause-reads
returns-in-Some-clause-reads c =
    let t = tree (segment c.args.self.now) c.args.at in
    let taken = is_taken c.args.default t c.in-Some.reader (sym c.in-Some.is ∙ c.take_default.ensures) in
    subst (λ u. IfOk c.put_structs.result (λ l. listed_tree (tree (segment c.put_structs.new.self) c.args.at) l ≡ or_empty InlineComposite (struct_list c.args.size u))) (taken.is ∙ taken_tree (default_tree c.args.default) t taken.null) c.put_structs.ensures.reads

pub returns-in-Some-clause-within : goal.returns-in-Some-clause-within
returns-in-Some-clause-within c =
    let t = tree (segment c.args.self.now) c.args.at in
    let taken = is_taken c.args.default t c.in-Some.reader (sym c.in-Some.is ∙ c.take_default.ensures) in
    subst (λ (u : Option ErrorKind). OnOk c.put_structs.result (u ≡ None)) (ap (structs_default_refusal c.args.size) taken.is ∙ taken_structs (default_tree c.args.default) c.args.size t taken.null) c.put_structs.ensures.within

pub returns-in-Some-clause-cause : goal.returns-in-Some-clause-cause
returns-in-Some-clause-cause c =
    let t = tree (segment c.args.self.now) c.args.at in
    let taken = is_taken c.args.default t c.in-Some.reader (sym c.in-Some.is ∙ c.take_default.ensures) in
    subst (λ u. IfErr c.put_structs.result (λ e. IsDueRefusal e u)) (ap (structs_default_refusal c.args.size) taken.is ∙ taken_structs (default_tree c.args.default) c.args.size t taken.null) c.put_structs.ensures.cause

pub returns-in-Some-clause-succeeds : goal.returns-in-Some-clause-succeeds
returns-in-Some-clause-succeeds c = λ h _.
    let t = tree (segment c.args.self.now) c.args.at in
    not_taken c.args.default t c.in-Some.reader (is_taken c.args.default t c.in-Some.reader (sym c.in-Some.is ∙ c.take_default.ensures)) h

pub returns-in-Some-clause-stays : goal.returns-in-Some-clause-stays
returns-in-Some-clause-stays c = λ h _.
    let t = tree (segment c.args.self.now) c.args.at in
    not_taken c.args.default t c.in-Some.reader (is_taken c.args.default t c.in-Some.reader (sym c.in-Some.is ∙ c.take_default.ensures)) h

-- ---- none ----

pub returns-in-None-clause-tree : goal.returns-in-None-clause-tree
returns-in-None-clause-tree c =
    let t = tree (segment c.args.self.now) c.args.at in
    subst (λ u. IfOk c.get_struct_list.result (λ _. tree (segment c.get_struct_list.new.self) c.args.at ≡ struct_list c.args.size u)) (left_tree c.args.default t (sym c.in-None.is ∙ c.take_default.ensures)) c.get_struct_list.ensures.tree

pub returns-in-None-clause-reads : goal.returns-in-None-clause-reads
returns-in-None-clause-reads c =
    let t = tree (segment c.args.self.now) c.args.at in
    subst (λ u. IfOk c.get_struct_list.result (λ l. listed_tree (tree (segment c.get_struct_list.new.self) c.args.at) l ≡ or_empty InlineComposite (struct_list c.args.size u))) (left_tree c.args.default t (sym c.in-None.is ∙ c.take_default.ensures)) c.get_struct_list.ensures.reads

pub returns-in-None-clause-within : goal.returns-in-None-clause-within
returns-in-None-clause-within c =
    let t = tree (segment c.args.self.now) c.args.at in
    subst (λ (u : Option ErrorKind). OnOk c.get_struct_list.result (u ≡ None)) (left_structs (default_tree c.args.default) c.args.size t (left_tree c.args.default t (sym c.in-None.is ∙ c.take_default.ensures))) c.get_struct_list.ensures.within

pub returns-in-None-clause-cause : goal.returns-in-None-clause-cause
returns-in-None-clause-cause c =
    let t = tree (segment c.args.self.now) c.args.at in
    subst (λ u. IfErr c.get_struct_list.result (λ e. IsDueRefusal e u)) (left_structs (default_tree c.args.default) c.args.size t (left_tree c.args.default t (sym c.in-None.is ∙ c.take_default.ensures))) c.get_struct_list.ensures.cause

-- By the calls in their order.
use Rattle.std.proofs.Common.{arith, rules, ◌≡◌, ◌≢◌, ℕ, ◌+◌, ◌≤◌, Ok, sym, ap, subst, ◌∙◌}
use Rattle.std.proofs.lemmas.Result.{err_from_is_err_and}
use Rattle.capnp_wire.specs.Depth.{IsShallow}
use Rattle.capnp_wire.specs.Reading.{list_length}
use Rattle.capnp_wire.specs.Standing.{list_of}
use Rattle.capnp_arena.specs.Message.{message_tree}
use Rattle.capnp_wire.specs.Tree.{Tree}
use Rattle.capnp_wire.specs.declared.size.ElementSize.{ElementSize}
use Rattle.capnp_wire.specs.declared.size.StructSize.{StructSize}
use Rattle.capnp_splices.specs.Splices.{splice_refusal, spliced_list}
use Rattle.capnp_edits.proofs.Plain.{asked_size}
use Rattle.capnp_edits.proofs.Results.{if_err, with_on}
use Rattle.capnp_edits.specs.Changes.{Place, place_of, splice_at, no_place, not_added, added_deep, not_spliced}
use Rattle.capnp_edits.specs.EditsSeen.{edit_seen}
use Rattle.capnp_edits.proofs.Places.{place_within}
use Rattle.capnp_edits.proofs.edit.change_list.Goals as goal

pub returns-in_err-place-clause-message : goal.returns-in_err-place-clause-message
returns-in_err-place-clause-message c = search rules

pub returns-in_err-place-clause-changed : goal.returns-in_err-place-clause-changed
returns-in_err-place-clause-changed c = search rules

pub returns-in_err-place-clause-cause : goal.returns-in_err-place-clause-cause
returns-in_err-place-clause-cause c =
    let p = err_from_is_err_and c.from_residual.result c.from_residual.ensures.1 in
    rw (p.1, p.2) (λ _. no_place c.in_err-place.field-0.0.kind (rw (sym c.len-length.ensures.length) (sym c.in_err-place.ensures)))

pub returns-in_err-made-clause-message : goal.returns-in_err-made-clause-message
returns-in_err-made-clause-message c = search rules

pub returns-in_err-made-clause-changed : goal.returns-in_err-made-clause-changed
returns-in_err-made-clause-changed c = search rules

pub returns-in_err-made-clause-cause : goal.returns-in_err-made-clause-cause
returns-in_err-made-clause-cause c =
    let p = err_from_is_err_and c.from_residual-in_err-made.result c.from_residual-in_err-made.ensures.1 in
    rw (p.1, p.2) (λ other. not_added (record { at = c.in_ok-place.place.at; removed = c.in_ok-place.place.removed }) c.in_err-made.field-0.0.kind (rw (sym c.len-length.ensures.length) (sym c.in_ok-place.ensures)) (rw (sym c.len-length.ensures.length) (c.in_err-made.ensures.cause other)))

pub read_list-requires : goal.read_list-requires
read_list-requires c = search rules

pub returns-in_err-added-clause-message : goal.returns-in_err-added-clause-message
returns-in_err-added-clause-message c = search rules

pub returns-in_err-added-clause-changed : goal.returns-in_err-added-clause-changed
returns-in_err-added-clause-changed c = search rules

pub returns-in_err-added-clause-cause : goal.returns-in_err-added-clause-cause
returns-in_err-added-clause-cause c =
    let p = err_from_is_err_and c.from_residual-in_err-added.result c.from_residual-in_err-added.ensures.1 in
    rw (p.1, p.2, c.in_err-added.ensures.cause) (λ other. added_deep (record { at = c.in_ok-place.place.at; removed = c.in_ok-place.place.removed }) (message_tree c.in_ok-made.made) (rw (sym c.len-length.ensures.length) (sym c.in_ok-place.ensures)) (rw (sym c.len-length.ensures.length) c.in_ok-made.ensures.added) c.in_err-added.ensures.deep)

pub tree_is_sound-requires : goal.tree_is_sound-requires
tree_is_sound-requires c = search rules

pub splice_lists-requires : goal.splice_lists-requires
splice_lists-requires c = place_within (edit_seen c.args.edit) (list_length (list_of c.args.list.now)) (record { at = c.in_ok-place.place.at; removed = c.in_ok-place.place.removed }) (rw (sym c.len-length.ensures.length) (sym c.in_ok-place.ensures))

pub returns-clause-message : goal.returns-clause-message
returns-clause-message c = search rules

-- the splice that was made, as the definitions have it
same_list : (z z' : ElementSize) (size size' : StructSize) (old a a' : Tree) (p : Place) → z ≡ z' → size ≡ size' → a ≡ a' → spliced_list z size (splice_at old a p) ≡ spliced_list z' size' (splice_at old a' p)
same_list z z' size size' old a a' p e f g =
    ap (λ x. spliced_list x size (splice_at old a p)) e ∙ (ap (λ x. spliced_list z' x (splice_at old a p)) f ∙ ap (λ x. spliced_list z' size' (splice_at old x p)) g)

same_refusal : (z z' : ElementSize) (size size' : StructSize) (old a a' : Tree) (p : Place) → z ≡ z' → size ≡ size' → a ≡ a' → splice_refusal z size (splice_at old a p) ≡ splice_refusal z' size' (splice_at old a' p)
same_refusal z z' size size' old a a' p e f g =
    ap (λ x. splice_refusal x size (splice_at old a p)) e ∙ (ap (λ x. splice_refusal z' x (splice_at old a p)) f ∙ ap (λ x. splice_refusal z' size' (splice_at old x p)) g)

pub returns-clause-changed : goal.returns-clause-changed
returns-clause-changed c =
    let p : Place = record { at = c.in_ok-place.place.at; removed = c.in_ok-place.place.removed } in
    let n : place_of (edit_seen c.args.edit) (list_length (list_of c.args.list.now)) ≡ Ok p = rw (sym c.len-length.ensures.length) (sym c.in_ok-place.ensures) in
    let e = asked_size c.args.element c.expected_element_size.result c.expected_element_size.ensures in
    with_on c.splice_lists.result (λ m tree sound. record {
      place = p;
      found = n;
      added = message_tree c.in_ok-made.made;
      is_added = rw (sym c.len-length.ensures.length) c.in_ok-made.ensures.added;
      formed = record { within = place_within (edit_seen c.args.edit) (list_length (list_of c.args.list.now)) p n; old = c.list_is_well_formed.ensures; added = c.tree_is_sound.ensures.formed };
      list = tree ∙ same_list _ _ _ _ (list_of c.args.list.now) (list_of c.in_ok-added.added) (message_tree c.in_ok-made.made) p e c.find_size.ensures c.in_ok-added.ensures.list;
      sound = sym (same_refusal _ _ _ _ (list_of c.args.list.now) (list_of c.in_ok-added.added) (message_tree c.in_ok-made.made) p e c.find_size.ensures c.in_ok-added.ensures.list) ∙ sound;
    }) c.splice_lists.ensures.tree c.splice_lists.ensures.sound

pub returns-clause-cause : goal.returns-clause-cause
returns-clause-cause c =
    let p : Place = record { at = c.in_ok-place.place.at; removed = c.in_ok-place.place.removed } in
    let n : place_of (edit_seen c.args.edit) (list_length (list_of c.args.list.now)) ≡ Ok p = rw (sym c.len-length.ensures.length) (sym c.in_ok-place.ensures) in
    let e = asked_size c.args.element c.expected_element_size.result c.expected_element_size.ensures in
    if_err c.splice_lists.result (λ x refused other. not_spliced p (message_tree c.in_ok-made.made) x.kind n (rw (sym c.len-length.ensures.length) c.in_ok-made.ensures.added)
    (sym (same_refusal _ _ _ _ (list_of c.args.list.now) (list_of c.in_ok-added.added) (message_tree c.in_ok-made.made) p e c.find_size.ensures c.in_ok-added.ensures.list) ∙ refused other)) c.splice_lists.ensures.cause

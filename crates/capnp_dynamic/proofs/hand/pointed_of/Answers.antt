-- What was filled stands at the pointer, under the field's set and type.
use Rattle.std.proofs.Common.{refl, false, ap, sym, ◌∙◌}
use Rattle.capnp_wire.specs.Tree.{StructTree}
use Rattle.capnp_wire.specs.Words.{first_fault}
use Rattle.capnp_schema.specs.Entries.{lists_seen}
use Rattle.capnp_schema.specs.FieldLists.{typed_of}
use Rattle.capnp_schema.specs.Schema.{default_of}
use Rattle.capnp_schema.specs.StructHandles.{set_of}
use Rattle.capnp_schema.specs.Facts.Layers.{seen_which}
use Rattle.capnp_schema.specs.Types.{is_pointer, seen_variant}
use Rattle.capnp_arena.specs.Built.{built_at}
use Rattle.capnp_slots.specs.Fields.{field_set}
use Rattle.capnp_slots.specs.Fills.{filled_in, pointer_in}
use Rattle.capnp_dynamic.proofs.HandedOut.{can_fill, can_hand, handed_out}
use Rattle.capnp_dynamic.proofs.hand.pointed_of.Goals as goal

pub hand_out-requires-clause-handed : goal.hand_out-requires-clause-handed
hand_out-requires-clause-handed c =
    let f = c.args.field in
    let s : StructTree = built_at c.args.arena.now c.args.place in
    can_hand (lists_seen c.get_set-schemas.result.now) (field_set f) (seen_variant c.which-variant.result) (typed_of f).type _ (filled_in f s)
    (c.get_set-schemas.ensures ∙ ap set_of c.get_containing_struct.ensures.is)
    (ap seen_variant c.which-variant.ensures ∙ (seen_which c.get_type.result ∙ c.get_type.ensures.is))
    c.in_ok-at.ensures.now
    (can_fill (field_set f) (default_of (typed_of f).field) (typed_of f).type c.get_default-default.ensures.fits.read (pointer_in f s) c.in_ok-at.ensures.within
    (sym (ap first_fault c.in_ok-at.ensures.now) ∙ c.tree_is_sound.ensures.whole))

pub returns-clause-stands : goal.returns-clause-stands
returns-clause-stands c =
    let f = c.args.field in
    let s : StructTree = built_at c.args.arena.now c.args.place in
    handed_out false (lists_seen c.get_set-schemas.result.now) (field_set f) (seen_variant c.which-variant.result) (typed_of f).type _ (filled_in f s) c.hand_out.result
    (c.get_set-schemas.ensures ∙ ap set_of c.get_containing_struct.ensures.is)
    (ap seen_variant c.which-variant.ensures ∙ (seen_which c.get_type.result ∙ c.get_type.ensures.is))
    c.in_ok-at.ensures.now
    c.hand_out.ensures.stands

pub returns-clause-owner : goal.returns-clause-owner
returns-clause-owner c = record {
  arena = _;
  there = record { at = c.in_ok-at.at; stands = c.hand_out.ensures.behind; leaves = c.in_ok-at.ensures.leaves };
  same = refl;
  frame = c.in_ok-at.ensures.frame;
  becomes = c.in_ok-at.ensures.filled;
}

pub get-requires-clause-planted : goal.get-requires-clause-planted
get-requires-clause-planted c = c.requires.planted

pub get-requires-clause-slot : goal.get-requires-clause-slot
get-requires-clause-slot c = c.requires.slot

pub get-requires-clause-pointer : goal.get-requires-clause-pointer
get-requires-clause-pointer c = c.requires.pointer

pub get-requires-clause-room : goal.get-requires-clause-room
get-requires-clause-room c = c.requires.room

pub tree_is_sound-requires : goal.tree_is_sound-requires
tree_is_sound-requires c = c.in_ok-at.ensures.forest

pub hand_out-requires-clause-pointer : goal.hand_out-requires-clause-pointer
hand_out-requires-clause-pointer c = ap is_pointer (ap seen_variant c.which-variant.ensures ∙ (seen_which c.get_type.result ∙ c.get_type.ensures.is)) ∙ c.requires.pointer

pub hand_out-requires-clause-forest : goal.hand_out-requires-clause-forest
hand_out-requires-clause-forest c = c.in_ok-at.ensures.forest

pub returns-clause-ready : goal.returns-clause-ready
returns-clause-ready c = c.hand_out.ensures.ready

pub returns-clause-within : goal.returns-clause-within
returns-clause-within c = c.in_ok-at.ensures.within

pub returns-clause-cause : goal.returns-clause-cause
returns-clause-cause c = tt

pub returns-clause-rests : goal.returns-clause-rests
returns-clause-rests c = λ rests. refl

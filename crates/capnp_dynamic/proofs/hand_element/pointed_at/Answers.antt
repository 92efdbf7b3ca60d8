-- What was filled stands behind the element's pointer, under the elements' type.
use Rattle.std.proofs.Common.{◌≡◌, refl, false, ap, sym, subst, ◌∙◌}
use Rattle.capnp_wire.specs.Elements.{HasPointer}
use Rattle.capnp_wire.specs.Reading.{element_pointer}
use Rattle.capnp_wire.specs.Tree.{Tree}
use Rattle.capnp_wire.specs.Words.{first_fault}
use Rattle.capnp_arena.specs.Forest.{tree}
use Rattle.capnp_arena.specs.Segment.{segment}
use Rattle.capnp_schema.specs.Entries.{lists_seen}
use Rattle.capnp_schema.specs.Facts.Layers.{seen_which}
use Rattle.capnp_schema.specs.Schema.{VoidValue}
use Rattle.capnp_schema.specs.Types.{is_pointer, seen_type, seen_variant}
use Rattle.capnp_slots.specs.Fills.{element_filled}
use Rattle.capnp_dynamic.proofs.ElementsHanded.{behind_pointer, no_default, pointer_there}
use Rattle.capnp_dynamic.proofs.ElementsStarted.{pointer_here, pointer_stays}
use Rattle.capnp_dynamic.proofs.HandedOut.{can_fill, can_hand, handed_out}
use Rattle.capnp_dynamic.proofs.hand_element.pointed_at.Goals as goal

pub fill-requires-clause-pointer : goal.fill-requires-clause-pointer
fill-requires-clause-pointer c =
    pointer_there (lists_seen c.args.schemas.now) c.args.element_type (tree (segment c.args.arena.now) c.args.at) c.args.index c.requires.behind c.requires.under.holds c.tree_is_sound.ensures.formed c.requires.inside

pub get_pointer_element-at-requires-clause-pointer : goal.get_pointer_element-at-requires-clause-pointer
get_pointer_element-at-requires-clause-pointer c =
    let x : Tree = tree (segment c.args.arena.now) c.args.at in
    subst (λ (y : Tree). HasPointer y c.args.index) (sym c.in_ok-fill.ensures.filled)
    (pointer_stays x c.args.index _ (pointer_there (lists_seen c.args.schemas.now) c.args.element_type x c.args.index c.requires.behind c.requires.under.holds c.tree_is_sound.ensures.formed c.requires.inside))

pub hand_out-requires-clause-handed : goal.hand_out-requires-clause-handed
hand_out-requires-clause-handed c =
    let x : Tree = tree (segment c.args.arena.now) c.args.at in
    let y : Tree = element_filled (lists_seen c.args.schemas.now) (seen_type c.args.element_type) (element_pointer x c.args.index 1) in
    let is : tree (segment c.fill.new.arena) c.get_pointer_element-at.result ≡ y =
    c.get_pointer_element-at.ensures.tree
    ∙ (ap (λ (z : Tree). element_pointer z c.args.index 1) c.in_ok-fill.ensures.filled
    ∙ pointer_here x c.args.index y (pointer_there (lists_seen c.args.schemas.now) c.args.element_type x c.args.index c.requires.behind c.requires.under.holds c.tree_is_sound.ensures.formed c.requires.inside)) in
    can_hand (lists_seen c.args.schemas.now) (lists_seen c.args.schemas.now) (seen_variant c.which-variant.result) (seen_type c.args.element_type) _ y refl
    (ap seen_variant c.which-variant.ensures ∙ seen_which c.args.element_type)
    is
    (can_fill (lists_seen c.args.schemas.now) VoidValue (seen_type c.args.element_type) (no_default (seen_type c.args.element_type)) (element_pointer x c.args.index 1) c.in_ok-fill.ensures.within
    (sym (ap first_fault is) ∙ c.tree_is_sound-2.ensures.whole))

pub returns-clause-stands : goal.returns-clause-stands
returns-clause-stands c =
    let x : Tree = tree (segment c.args.arena.now) c.args.at in
    let y : Tree = element_filled (lists_seen c.args.schemas.now) (seen_type c.args.element_type) (element_pointer x c.args.index 1) in
    handed_out false (lists_seen c.args.schemas.now) (lists_seen c.args.schemas.now) (seen_variant c.which-variant.result) (seen_type c.args.element_type) _ y c.hand_out.result refl
    (ap seen_variant c.which-variant.ensures ∙ seen_which c.args.element_type)
    (c.get_pointer_element-at.ensures.tree
    ∙ (ap (λ (z : Tree). element_pointer z c.args.index 1) c.in_ok-fill.ensures.filled
    ∙ pointer_here x c.args.index y (pointer_there (lists_seen c.args.schemas.now) c.args.element_type x c.args.index c.requires.behind c.requires.under.holds c.tree_is_sound.ensures.formed c.requires.inside)))
    c.hand_out.ensures.stands

pub returns-clause-owner : goal.returns-clause-owner
returns-clause-owner c = record {
  arena = _;
  there = record { at = c.get_pointer_element-at.result; stands = c.hand_out.ensures.behind; leaves = c.get_pointer_element-at.ensures.leaves };
  same = refl;
  frame = c.in_ok-fill.ensures.frame;
  becomes = c.in_ok-fill.ensures.filled;
}

pub tree_is_sound-requires : goal.tree_is_sound-requires
tree_is_sound-requires c = c.requires.under.forest

pub fill-requires-clause-forest : goal.fill-requires-clause-forest
fill-requires-clause-forest c = c.requires.under.forest

pub fill-requires-clause-behind : goal.fill-requires-clause-behind
fill-requires-clause-behind c = c.requires.behind

pub get_pointer_element-at-requires-clause-forest : goal.get_pointer_element-at-requires-clause-forest
get_pointer_element-at-requires-clause-forest c = c.in_ok-fill.ensures.frame.forest

pub tree_is_sound-requires-2 : goal.tree_is_sound-requires-2
tree_is_sound-requires-2 c = c.get_pointer_element-at.ensures.forest

pub hand_out-requires-clause-pointer : goal.hand_out-requires-clause-pointer
hand_out-requires-clause-pointer c = ap is_pointer (ap seen_variant c.which-variant.ensures ∙ seen_which c.args.element_type) ∙ behind_pointer (seen_type c.args.element_type) c.requires.behind

pub hand_out-requires-clause-forest : goal.hand_out-requires-clause-forest
hand_out-requires-clause-forest c = c.get_pointer_element-at.ensures.forest

pub returns-clause-ready : goal.returns-clause-ready
returns-clause-ready c = c.hand_out.ensures.ready

pub returns-clause-within : goal.returns-clause-within
returns-clause-within c = c.in_ok-fill.ensures.within

pub returns-clause-cause : goal.returns-clause-cause
returns-clause-cause c = tt

pub returns-clause-rests : goal.returns-clause-rests
returns-clause-rests c = λ rests. refl

-- The element was started, and its pointer is handed out under the elements' type.
use Rattle.std.proofs.Common.{refl, true, ap, ◌∙◌}
use Rattle.capnp_schema.specs.Facts.Layers.{seen_which}
use Rattle.capnp_schema.specs.Types.{is_pointer, seen_variant}
use Rattle.capnp_records.specs.Writes.Contents.{initn_tree}
use Rattle.capnp_dynamic.specs.Built.{built_element, built_elements, built_set}
use Rattle.capnp_dynamic.proofs.ElementsStarted.{element_started}
use Rattle.capnp_dynamic.proofs.ListElements.{room_in}
use Rattle.capnp_dynamic.proofs.HandedOut.{can_hand, handed_out}
use Rattle.capnp_dynamic.proofs.Started.{handed_initn}
use Rattle.capnp_dynamic.proofs.dynamic_list.build.Builder.init.Goals as goal

pub init-requires-clause-room : goal.init-requires-clause-room
init-requires-clause-room c = room_in (built_set c.args.self) c.args.self.element_type (built_elements c.args.self) c.args.index c.requires.ready.holds c.tree_is_sound.ensures.formed c.requires.inside

pub get_pointer_element-at-requires-clause-pointer : goal.get_pointer_element-at-requires-clause-pointer
get_pointer_element-at-requires-clause-pointer c =
    (element_started (built_set c.args.self) (built_element c.args.self) c.args.size c.args.index (built_elements c.args.self) _ (room_in (built_set c.args.self) c.args.self.element_type (built_elements c.args.self) c.args.index c.requires.ready.holds c.tree_is_sound.ensures.formed c.requires.inside) c.in_ok-init.ensures.has c.in_ok-init.ensures.written).there

pub hand_out-requires-clause-pointer : goal.hand_out-requires-clause-pointer
hand_out-requires-clause-pointer c =
    ap is_pointer (ap seen_variant c.which-variant.ensures ∙ seen_which c.args.self.element_type)
    ∙ (element_started (built_set c.args.self) (built_element c.args.self) c.args.size c.args.index (built_elements c.args.self) _ (room_in (built_set c.args.self) c.args.self.element_type (built_elements c.args.self) c.args.index c.requires.ready.holds c.tree_is_sound.ensures.formed c.requires.inside) c.in_ok-init.ensures.has c.in_ok-init.ensures.written).pointer

pub hand_out-requires-clause-handed : goal.hand_out-requires-clause-handed
hand_out-requires-clause-handed c =
    can_hand (built_set c.args.self) (built_set c.args.self) (seen_variant c.which-variant.result) (built_element c.args.self) _ (initn_tree (built_set c.args.self) (built_element c.args.self) c.args.size)
    refl
    (ap seen_variant c.which-variant.ensures ∙ seen_which c.args.self.element_type)
    (c.get_pointer_element-at.ensures.tree
    ∙ (element_started (built_set c.args.self) (built_element c.args.self) c.args.size c.args.index (built_elements c.args.self) _ (room_in (built_set c.args.self) c.args.self.element_type (built_elements c.args.self) c.args.index c.requires.ready.holds c.tree_is_sound.ensures.formed c.requires.inside) c.in_ok-init.ensures.has c.in_ok-init.ensures.written).is)
    (handed_initn (built_set c.args.self) c.args.size (built_element c.args.self) c.in_ok-init.ensures.has)

pub returns-clause-stands : goal.returns-clause-stands
returns-clause-stands c = (
  c.in_ok-init.ensures.has,
  handed_out true (built_set c.args.self) (built_set c.args.self) (seen_variant c.which-variant.result) (built_element c.args.self) _ (initn_tree (built_set c.args.self) (built_element c.args.self) c.args.size) c.hand_out.result
      refl
      (ap seen_variant c.which-variant.ensures ∙ seen_which c.args.self.element_type)
      (c.get_pointer_element-at.ensures.tree
      ∙ (element_started (built_set c.args.self) (built_element c.args.self) c.args.size c.args.index (built_elements c.args.self) _ (room_in (built_set c.args.self) c.args.self.element_type (built_elements c.args.self) c.args.index c.requires.ready.holds c.tree_is_sound.ensures.formed c.requires.inside) c.in_ok-init.ensures.has c.in_ok-init.ensures.written).is)
      c.hand_out.ensures.stands,
)

pub returns-clause-owner : goal.returns-clause-owner
returns-clause-owner c = record {
  arena = _;
  there = record { at = c.get_pointer_element-at.result; stands = c.hand_out.ensures.behind; leaves = c.get_pointer_element-at.ensures.leaves };
  same = refl;
  frame = c.in_ok-init.ensures.frame;
  becomes = c.in_ok-init.ensures.written;
}

pub tree_is_sound-requires : goal.tree_is_sound-requires
tree_is_sound-requires c = c.requires.ready.forest

pub init-requires-clause-forest : goal.init-requires-clause-forest
init-requires-clause-forest c = c.requires.ready.forest

pub get_pointer_element-at-requires-clause-forest : goal.get_pointer_element-at-requires-clause-forest
get_pointer_element-at-requires-clause-forest c = c.in_ok-init.ensures.frame.forest

pub hand_out-requires-clause-forest : goal.hand_out-requires-clause-forest
hand_out-requires-clause-forest c = c.get_pointer_element-at.ensures.forest

pub returns-clause-ready : goal.returns-clause-ready
returns-clause-ready c = c.hand_out.ensures.ready

pub returns-clause-cause : goal.returns-clause-cause
returns-clause-cause c = tt

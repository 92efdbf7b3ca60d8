-- The laws, each by the lemma that shows it.
use Rattle.capnp_records.proofs.DefaultParts.{default_parts_stand, first_is_active}
use Rattle.capnp_records.specs.Facts.Extension.{reads_extended, reads_rounded}
use Rattle.capnp_records.proofs.FieldFrame.{frame_cleared, frame_copied, frame_slot}
use Rattle.capnp_records.specs.Facts.FieldWrite.{field_write}
use Rattle.capnp_records.proofs.FormedEnds.{formed_law}
use Rattle.capnp_records.specs.Facts.Frame.{part_of_same}
use Rattle.capnp_records.proofs.GroupClear.{turns_cleared_group}
use Rattle.capnp_records.proofs.GroupCopy.{within_copied}
use Rattle.capnp_records.proofs.Printed.{group_print_law, print_law, value_print_law}
use Rattle.capnp_records.proofs.Projects.{projection_law}
use Rattle.capnp_records.proofs.SlotWrite.{turns_with_slot}
use Rattle.capnp_records.proofs.TreeRunLaw.{tree_run_law}
use Rattle.capnp_records.specs.Laws.{DefaultPartsStand, ExtensionChangesNothing, FirstMemberIsActive, FormedLaw, GroupClearStaysInside, GroupCopyStaysInside, GroupIsCleared, GroupIsCopied, GroupPrintLaw, OverlayLaw, PartDependsOnFootprint, PrintLaw, ProjectionLaw, RoundingChangesNothing, SlotIsWritten, SlotWriteStaysInside, ValuePrintLaw, WriteReplacesOnePart}

pub part_depends : PartDependsOnFootprint
part_depends = part_of_same

pub default_parts : DefaultPartsStand
default_parts = default_parts_stand

pub first_active : FirstMemberIsActive
first_active = first_is_active

pub extension_same : ExtensionChangesNothing
extension_same = reads_extended

pub rounding_same : RoundingChangesNothing
rounding_same = reads_rounded

pub projected_record : ProjectionLaw
projected_record = projection_law

pub record_printed : PrintLaw
record_printed = print_law

pub group_printed : GroupPrintLaw
group_printed = group_print_law

pub value_printed : ValuePrintLaw
value_printed = value_print_law

pub part_replaced : WriteReplacesOnePart
part_replaced set b i h s m s' ready w = field_write set h.accepted b i h.brand h.index s m s' ready w

pub slot_written : SlotIsWritten
slot_written set b i h offset d e s fits c suits = turns_with_slot set h.accepted h.ranges b i h.brand h.index offset d e s fits c suits

pub slot_inside : SlotWriteStaysInside
slot_inside set b i h offset d e s fits c suits = frame_slot set h.accepted h.ranges b i h.brand h.index offset d e s fits c suits

pub group_cleared : GroupIsCleared
group_cleared set b i g h is_group s fits = turns_cleared_group set h.accepted h.ranges b i g h.brand h.index is_group s fits

pub clear_inside : GroupClearStaysInside
clear_inside set b i g h is_group s fits = frame_cleared set h.accepted h.ranges b i g h.brand h.index is_group s fits

pub group_copied : GroupIsCopied
group_copied set b i g n h is_group l source s fits refused s' copies = (within_copied n set h.accepted h.ranges l source b i g h.brand h.index is_group s refused s' fits copies).0

pub copy_inside : GroupCopyStaysInside
copy_inside set b i g n h is_group l source s fits refused s' copies = frame_copied n set h.accepted h.ranges l source b i g h.brand h.index is_group s fits refused s' copies

pub run_is_run : OverlayLaw
run_is_run = tree_run_law

pub run_formed : FormedLaw
run_formed = formed_law

use Rattle.riftcalico_core.proofs.from_json.answer_from_json.Goals as goal

-- the error of the read is the refusal that is told
pub tell_unmade-requires : goal.tell_unmade-requires
tell_unmade-requires c = rw c.in-Err-Refused.field-0-is at c.in-Err-Refused.ensures.refused

use Rattle.riftcalico_core.proofs.from_json.get_refused_line.Goals as goal

pub returns-clause-line : goal.returns-clause-line
returns-clause-line c = rw (c.new-line.ensures.bytes, c.number-number.ensures, c.name-name.ensures) at c.in_ok-write.ensures.bytes

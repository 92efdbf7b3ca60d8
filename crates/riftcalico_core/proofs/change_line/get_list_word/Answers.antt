-- The form is that of what the path leads to.
use Rattle.riftcalico_core.proofs.change_line.get_list_word.Goals as goal

pub returns-clause-word : goal.returns-clause-word
returns-clause-word c = rw c.get_form_at-form.ensures at c.get_whole_word.ensures.json

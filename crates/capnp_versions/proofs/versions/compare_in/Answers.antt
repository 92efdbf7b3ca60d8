-- All that differs, as it was explained, and all that was noted.
use Rattle.std.proofs.Common.{ℕ, [], ◌++◌, List, ap, length, string_bytes, subst, sym, vec_len, ◌∙◌}
use Rattle.capnp_differences.specs.declared.differences.Difference.{Difference}
use Rattle.capnp_differences.specs.declared.noted.Note.{Note}
use Rattle.capnp_dynamic_readers.specs.Pieces.{IsAppended}
use Rattle.capnp_schema.specs.Entries.{lists_seen}
use Rattle.capnp_versions.specs.Changes.{changes_text}
use Rattle.capnp_versions.specs.Lines.{differences_text}
use Rattle.capnp_versions.proofs.NoneTold.{follows_so}
use Rattle.capnp_versions.proofs.OnePair.{one_follows, one_told}
use Rattle.capnp_versions.proofs.versions.compare_in.Goals as goal

pub returns-clause-compared : goal.returns-clause-compared
returns-clause-compared c = record {
  told = c.in_ok-explanation.explanation.told.items;
  exactly = one_told (lists_seen c.args.schemas.now) (record { older = c.args.older; newer = c.args.newer }) c.in_ok-explanation.explanation.told.items c.in_ok-explanation.ensures.told;
  order = c.in_ok-explanation.ensures.order;
  text = subst (λ (ds : List Difference). IsAppended [] (differences_text (lists_seen c.args.schemas.now) ds) (string_bytes c.in_ok-text.text)) c.deref.ensures.value c.in_ok-text.ensures.lines;
  changes = c.in_ok-explanation.explanation.notes.items;
  noted = c.in_ok-explanation.ensures.notes;
  notes = c.in_ok-put_changes.ensures.put
      ∙ (ap (λ (xs : List ℕ). xs ++ changes_text (lists_seen c.args.schemas.now) c.deref-2.result.now) c.new-notes.ensures.bytes
      ∙ ap (λ (ns : List Note). changes_text (lists_seen c.args.schemas.now) ns) c.deref-2.ensures.value);
  follows = follows_so c.in_ok-explanation.explanation.told.items c.is_empty.result (vec_len c.in_ok-explanation.explanation.told) c.is_empty.ensures (sym c.deref.ensures.len ∙ ap length c.deref.ensures.value)
      (one_follows (lists_seen c.args.schemas.now) (record { older = c.args.older; newer = c.args.newer }) c.in_ok-explanation.explanation.told.items c.in_ok-explanation.ensures.none);
}

-- The differences told, the answers that follow and the notes make up the comparison; the compatible pairs are at most all
-- that are asked.
use Rattle.std.proofs.Common.{[], ℕ, ◌-◌, ◌≤◌, ◌++◌, Bool, List, sym, ◌∙◌, ap, length, string_bytes, subst}
use Rattle.capnp_schema.specs.Entries.{lists_seen}
use Rattle.capnp_schema.specs.Schema.{Schemas}
use Rattle.capnp_differences.specs.declared.differences.Difference.{Difference}
use Rattle.capnp_differences.specs.declared.noted.Note.{Note}
use Rattle.capnp_dynamic_readers.specs.Pieces.{IsAppended}
use Rattle.capnp_versions.specs.Lines.{differences_text}
use Rattle.capnp_versions.specs.Changes.{changes_text}
use Rattle.capnp_versions.specs.Shared.{count_true}
use Rattle.capnp_versions.proofs.Sharing.{compared_pairs}
use Rattle.capnp_versions.proofs.every.compare_named.Goals as goal

pub returns-clause-compared : goal.returns-clause-compared
returns-clause-compared c =
    let set : Schemas = lists_seen c.args.schemas.now in
    let told : List Difference = c.in_ok-explanation.explanation.told.items in
    let follows : List Bool = c.in_ok-explanation.explanation.follows.items in
    let changes : List Note = c.in_ok-explanation.explanation.notes.items in
    let behind : List ℕ = string_bytes c.args.named.now.notes in
    compared_pairs set c.deref.result.now c.args.named.now.pairs.items told follows changes behind _ c.deref.ensures.value
    (record {
      exactly = c.in_ok-explanation.ensures.told;
      order = c.in_ok-explanation.ensures.order;
      answered = c.in_ok-explanation.ensures.follows;
      noted = c.in_ok-explanation.ensures.notes;
    })
    (record {
      text = subst (λ (ds : List Difference). IsAppended [] (differences_text set ds) (string_bytes c.in_ok-text.text)) c.deref-2.ensures.value c.in_ok-text.ensures.lines;
      compatible = c.count_true-compatible.ensures.count ∙ ap count_true c.deref-4.ensures.value;
      few = subst (λ (l : List Bool). c.count_true-compatible.result ≤ length l) c.deref-4.ensures.value c.count_true-compatible.ensures.inside;
      incompatible = ap (λ (n : ℕ). n - c.count_true-compatible.result) (c.len.ensures ∙ (sym c.deref-4.ensures.len ∙ ap length c.deref-4.ensures.value));
      notes = c.in_ok-push_str.ensures.bytes
          ∙ (ap (λ (xs : List ℕ). xs ++ c.as_str.result.now)
          (c.in_ok-put_changes.ensures.put ∙ ap (λ (xs : List ℕ). xs ++ changes_text set c.deref-3.result.now) c.new-notes.ensures.bytes)
          ∙ (ap (λ (ns : List Note). changes_text set ns ++ c.as_str.result.now) c.deref-3.ensures.value
          ∙ ap (λ (xs : List ℕ). changes_text set changes ++ xs) c.as_str.ensures.value));
    })

-- The root of a new message, and the record of a text.
use Rattle.std.proofs.Common.{ℕ, ◌≡◌, ◌-◌, Bool, IsTrue, List, [], Option, None, Some, Ok, length, refl, ap, sym, subst, ◌∙◌}
use Rattle.capnp_wire.specs.Edits.{is_struct, struct_in, zero_struct}
use Rattle.capnp_wire.specs.Place.{struct_tree}
use Rattle.capnp_wire.specs.Tree.{StructTree, Tree}
use Rattle.capnp_wire.specs.WellFormed.{IsWellFormed}
use Rattle.capnp_wire.specs.declared.size.StructSize.{StructSize}
use Rattle.capnp_arena.specs.Facts.Laws.{struct_planted}
use Rattle.capnp_arena.specs.Facts.Structs.{tree_struct}
use Rattle.capnp_arena.specs.Forest.{Forest, tree}
use Rattle.capnp_arena.specs.Segment.{segment}
use Rattle.capnp_arena.specs.Shape.{StructIn, shape_at}
use Rattle.capnp_arena.specs.declared.arena.Arena.{Arena}
use Rattle.capnp_arena.specs.declared.arena.Place.{Place}
use Rattle.capnp_schema.specs.Plan.{brand_size}
use Rattle.capnp_schema.specs.StructHandles.{number_of, set_of}
use Rattle.capnp_schema.specs.declared.schema.structs.StructSchema.{StructSchema}
use Rattle.capnp_records.specs.Reading.{reads}
use Rattle.capnp_slots.specs.Standing.{IsUnder}
use Rattle.capnp_json_text.specs.Faults.{fault_of}
use Rattle.capnp_json_text.specs.Laws.{StandsInSteps}
use Rattle.capnp_json_text.specs.Readings.{after_blanks}
use Rattle.capnp_json_text.specs.Values.{json_at}
use Rattle.capnp_from_json.specs.Errors.{refused}
use Rattle.capnp_from_json.specs.Records.{Rules, all_levels, read_json, record_of_json, root_of_json}
use Rattle.capnp_from_json.specs.declared.error.Error.{Error}
use Rattle.capnp_from_json.specs.declared.error.RefusalKind.TheVariants.{NotJson}
use Rattle.capnp_from_json.specs.declared.reading.Reading.{Reading}
use Rattle.capnp_from_json.proofs.Refusals.{error_same}
use Rattle.capnp_json_messages.specs.Messages.{IsRootOf, text_record}
use Rattle.capnp_json_messages.specs.Opened.{record_opened}
use Rattle.capnp_json_messages.specs.Started.{new_struct}
use Rattle.capnp_json_messages.specs.Steps.Roots.{RootStarted}
use Rattle.capnp_json_messages.specs.Walks.{AreRules, IsRefused, StructRead, members_json}
use Rattle.capnp_json_messages.proofs.Begun.{struct_pointer, struct_tree_there}
use Rattle.capnp_json_messages.proofs.NewLists.{new_record}
use Rattle.capnp_json_messages.proofs.ReadParts.{record_is}

-- a new root
pub root_started : (schema : StructSchema) (size : StructSize) (m : Arena) (q : Place) → size ≡ brand_size (set_of schema) (number_of schema) → Forest (segment m) 0 → tree (segment m) 0 ≡ struct_tree (zero_struct size)
    → shape_at (segment m) 0 ≡ StructIn q.start q.data_words q.pointers → RootStarted schema m q
root_started schema size m q is forest here shape = record {
  planted = struct_planted (segment m) 0 q.start q.data_words q.pointers forest shape;
  here = ap struct_in (sym (tree_struct (segment m) 0 q.start q.data_words q.pointers forest shape) ∙ here) ∙ ap zero_struct is;
  stands = λ later left. (struct_pointer m later 0 q forest shape left).forest;
  tree_is = λ later left. struct_tree_there m later 0 q forest shape left;
}

-- the record of a text, by the value with which it begins behind blanks
pub text_is : StandsInSteps → (schema : StructSchema) (text : List ℕ) (rules : Rules) (whole : ℕ) (bytes : List ℕ) → fault_of text ≡ None → whole ≡ length text → bytes ≡ after_blanks text
    → text_record schema text rules ≡ root_of_json rules (number_of schema) (json_at whole bytes)
unfolding record_of_json
text_is steps schema text rules whole bytes none is behind =
    ap (read_json rules (number_of schema)) (steps.texts text none)
    ∙ (ap (λ n. root_of_json rules (number_of schema) (json_at n (after_blanks text))) (sym is)
    ∙ ap (λ (bs : List ℕ). root_of_json rules (number_of schema) (json_at whole bs)) (sym behind))

-- one that is no text
pub not_text : StandsInSteps → (schema : StructSchema) (text : List ℕ) (rules : Rules) (place : ℕ) → fault_of text ≡ Some place → text_record schema text rules ≡ refused NotJson place
unfolding record_of_json
not_text steps schema text rules place fault = ap (read_json rules (number_of schema)) (steps.refused text place fault)

module _ (schema : StructSchema) (strict : Bool) (text : List ℕ) (reading : Reading) (first : Option (List ℕ)) (s : StructTree) (anew : s ≡ new_struct schema)
    (told : (rules : Rules) → text_record schema text rules ≡ record_opened rules reading.whole (all_levels - 1) (number_of schema) first) where
  root_by : (rules : Rules) → AreRules (set_of schema) strict rules → text_record schema text rules ≡ members_json reading (all_levels - 1) schema first [] (reads (set_of schema) s (number_of schema)) rules
  root_by rules are = told rules ∙ record_is reading (all_levels - 1) schema first (reads (set_of schema) s (number_of schema)) (new_record schema s anew) rules are.of_set

  pub root_read : (s' : StructTree) (t : Tree) → t ≡ struct_tree s' → IsWellFormed t
      → StructRead schema strict (members_json reading (all_levels - 1) schema first [] (reads (set_of schema) s (number_of schema))) s s' → IsRootOf schema strict text t
  root_read s' t is formed read = record {
    here = subst (λ (x : Tree). IsTrue (is_struct x)) (sym is) refl;
    room = subst (λ (x : Tree). IsUnder schema (struct_in x)) (sym is) read.room;
    formed = formed;
    is = λ rules are. root_by rules are ∙ (read.is rules are ∙ ap (λ (x : Tree). Ok (reads (set_of schema) (struct_in x) (number_of schema))) (sym is));
  }

  pub root_refused : (e : Error) → IsRefused (set_of schema) strict (members_json reading (all_levels - 1) schema first [] (reads (set_of schema) s (number_of schema))) e → IsRefused (set_of schema) strict (text_record schema text) e
  root_refused e h = λ rules are. error_same (text_record schema text rules) (members_json reading (all_levels - 1) schema first [] (reads (set_of schema) s (number_of schema)) rules) e (root_by rules are) (h rules are)

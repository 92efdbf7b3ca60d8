-- A value that can't be read, by the struct whose type it was to have.
use Rattle.std.proofs.Common.{ℕ, zero, suc, List, [], ◌∷◌, Err, ap, arith, get_or, length, map, subst, ◌<◌, ◌≡◌, ◌∙◌}
use Rattle.capnp_edit_calls.specs.ActsSeen.{ActSeen}
use Rattle.capnp_records.specs.Run.{root_type}
use Rattle.capnp_schema.specs.Schema.{Schemas}
use Rattle.capnp_schema.specs.StructHandles.{number_of, set_of}
use Rattle.capnp_schema.specs.declared.schema.structs.StructSchema.{StructSchema}
use Rattle.capnp_words.specs.Calls.{CallText}
use Rattle.capnp_words.specs.Seen.{call_text_seen}
use Rattle.capnp_words.specs.declared.call.CallWord.{CallWord}
use Rattle.riftcalico_core.specs.Calls.{IsCallRead}
use Rattle.riftcalico_core.specs.Jobs.{IsNamedStruct, IsValueUnread, wanted_of}
use Rattle.riftcalico_core.specs.Plans.{CallsPlan}
use Rattle.riftcalico_core.specs.Reads.{AreRead, Reads, value_line_at}

-- the note of the call of an index, as the code has it
pub note_there : (f : CallText → List ℕ) (texts : List CallWord) (i : ℕ) (word : CallWord) → word ≡ get_or texts i word → i < length texts
    → f (call_text_seen word) ≡ get_or (map f (map call_text_seen texts)) i []
note_there f [] i word h inside = absurd (omega (arith, inside))
note_there f (first ∷ texts) zero word h inside = ap (λ (w : CallWord). f (call_text_seen w)) h
note_there f (first ∷ texts) (suc i) word h inside = note_there f texts i word h (omega (arith, inside))

-- what is read under the struct that has a name is read under the set
pub read_named : (set : Schemas) (name : List ℕ) (s : StructSchema) (texts : List CallText) (r : Reads (List ActSeen)) → IsNamedStruct set name s →
    AreRead (IsCallRead (set_of s) (root_type (set_of s) (number_of s))) 0 texts r → AreRead (IsCallRead set (root_type set (number_of s))) 0 texts r
read_named set name s texts r named read = subst (λ (x : Schemas). AreRead (IsCallRead x (root_type x (number_of s))) 0 texts r) named.of_set read

pub value_unread : (p : CallsPlan) (set : Schemas) (s : StructSchema) (line : List ℕ) (at : ℕ × ℕ) (note : List ℕ) → IsNamedStruct set p.root.name s →
    AreRead (IsCallRead (set_of s) (root_type (set_of s) (number_of s))) 0 p.texts (Err at) → note ≡ get_or (map (wanted_of (set_of s) (number_of s)) p.texts) at.0 [] →
    line ≡ value_line_at p.words at note → IsValueUnread p set line
value_unread p set s line at note named read here told = record {
  brand = number_of s;
  named = named.named;
  at = at;
  unread = read_named set p.root.name s p.texts (Err at) named read;
  told = told
      ∙ ap (λ (x : List ℕ). value_line_at p.words at x) here
      ∙ ap (λ (x : Schemas). value_line_at p.words at (get_or (map (wanted_of x (number_of s)) p.texts) at.0 [])) named.of_set;
}

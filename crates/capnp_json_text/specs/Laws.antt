-- Laws of the definitions: how a text is walked, without the bounds of the definitions.
use Rattle.std.specs.Prelude.{ℕ, ◌-◌, List, ◌∷◌, ◌++◌, ◌≡◌, length, drop, Some, None, Ok, Err}
use Rattle.capnp_json_text.specs.Strings.{after_character, after_string, more_characters}
use Rattle.capnp_json_text.specs.Readings.{after_blanks}
use Rattle.capnp_json_text.specs.Faults.{fault_of}
use Rattle.capnp_json_text.specs.Contents.{character_content, more_content, string_content}
use Rattle.capnp_json_text.specs.Texts.{after_part, after_text, begun, gone_on, kind_of}
use Rattle.capnp_json_text.specs.Values.{Json, NoElement, Element, NoMember, Member, elements_of, following_item, json_at, json_by, json_value, member_value, members_of}
use Rattle.capnp_json_text.specs.declared.kinds.Part.{Part}

-- what is read: a string a character after another, and a value a part after another
pub record IsReadInSteps : Type 0 where
  pub strings : (bs : List ℕ) → after_string bs ≡ more_characters after_string (after_character bs)
  pub contents : (bs : List ℕ) → string_content bs ≡ more_content string_content (character_content bs) (after_character bs)
  pub parts : (part : Part) (bs : List ℕ) → after_part part bs ≡ gone_on after_part (begun part bs)

-- what stands there: a value of its kind, and what it holds one after another
pub record StandsInSteps : Type 0 where
  pub texts : (bs : List ℕ) → fault_of bs ≡ None → json_value bs ≡ Ok (json_at (length bs) (after_blanks bs))
  pub refused : (bs : List ℕ) (place : ℕ) → fault_of bs ≡ Some place → json_value bs ≡ Err place
  pub values : (whole b : ℕ) (bs : List ℕ) → json_at whole (b ∷ bs) ≡ json_by (json_at whole) whole (kind_of b) b bs
  pub no_elements : (json : List ℕ → Json) → elements_of json None ≡ NoElement
  pub elements : (json : List ℕ → Json) (bs : List ℕ) → elements_of json (Some bs) ≡ Element (json bs) (elements_of json (following_item bs))
  pub no_members : (json : List ℕ → Json) (whole : ℕ) → members_of json whole None ≡ NoMember
  pub members : (json : List ℕ → Json) (whole : ℕ) (bs : List ℕ)
      → members_of json whole (Some bs) ≡ Member (whole - length bs) (string_content (drop 1 bs)) (json (member_value bs)) (members_of json whole (following_item (member_value bs)))

-- A byte that can't stand can't stand whatever follows, and whatever stood behind it: no text begins with these bytes.
pub record IsRefusedThere (bs : List ℕ) (b : ℕ) (fault : List ℕ) : Type 0 where
  pub front : List ℕ
  pub stands : bs ≡ front ++ b ∷ fault
  pub whatever : (more : List ℕ) → after_text (front ++ b ∷ more) ≡ Err (b ∷ more)

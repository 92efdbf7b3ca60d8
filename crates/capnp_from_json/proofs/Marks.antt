-- Marks of what is given, from the last on.
use Rattle.std.proofs.Common.{ℕ, ◌≡◌, refl, List, [], ◌∷◌, ◌++◌, Bool, true, false, ◌||◌, Option, ◌∙◌}
use Rattle.capnp_from_json.specs.Records.{is_given, is_same_mark}
use Rattle.capnp_from_json.specs.Given.{latest_first, marks_of}

pub latest_after : (ms before : List (Option ℕ)) (m : Option ℕ) → latest_first (ms ++ m ∷ []) before ≡ m ∷ latest_first ms before
latest_after [] before m = refl
latest_after (x ∷ ms) before m = latest_after ms (x ∷ before) m

-- one mark more
pub marks_after : (ms : List (Option ℕ)) (m : Option ℕ) → marks_of (ms ++ m ∷ []) ≡ m ∷ marks_of ms
marks_after ms m = latest_after ms [] m

none : (a : Bool) → (a || false) ≡ a
none true = refl
none false = refl

given_latest : (mark : Option ℕ) (ms before : List (Option ℕ)) → is_given mark (latest_first ms before) ≡ (is_given mark ms || is_given mark before)
given_latest mark [] before = refl
given_latest mark (x ∷ ms) before = given_latest mark ms (x ∷ before) ∙ move_in (is_same_mark mark x) (is_given mark ms) (is_given mark before)
  where
    move_in : (a b c : Bool) → (b || (a || c)) ≡ ((a || b) || c)
    move_in true true c = refl
    move_in true false c = refl
    move_in false b c = refl

-- the order does not count
pub given_same : (mark : Option ℕ) (ms : List (Option ℕ)) → is_given mark (marks_of ms) ≡ is_given mark ms
given_same mark ms = given_latest mark ms [] ∙ none (is_given mark ms)

-- What stands between items, on one line and on lines.
use Rattle.std.proofs.Common.{◌≡◌, ℕ, zero, suc, ◌*◌, Bool, true, false, List, [], ◌∷◌, ◌++◌, replicate, Some, None, refl}
use Rattle.std.proofs.lemmas.Str.{IsUtf8-nil}
use Rattle.capnp_records.specs.Text.{Layout, line}
use Rattle.capnp_json_text.specs.Readings.{after_blanks}
use Rattle.capnp_json.specs.Pieces.{colon, ending, separator, shallower}
use Rattle.capnp_json_laws.proofs.Ascii.{are_ascii, ascii_utf8}
use Rattle.capnp_json_laws.proofs.Holding.{IsColon, IsGap, between}

spaces_ascii : (n : ℕ) → are_ascii (replicate n 32) ≡ true
spaces_ascii zero = refl
spaces_ascii (suc n) = spaces_ascii n

spaces_skipped : (n : ℕ) (bs : List ℕ) → after_blanks (replicate n 32 ++ bs) ≡ after_blanks bs
spaces_skipped zero bs = refl
spaces_skipped (suc n) bs = spaces_skipped n bs

pub no_gap : IsGap []
no_gap = record { utf8 = IsUtf8-nil; skipped = λ bs. refl; follows = λ bs f. f }

pub line_gap : (at : Layout) → IsGap (line at)
line_gap None = no_gap
line_gap (Some n) = record { utf8 = ascii_utf8 (10 ∷ replicate (2 * n) 32) (spaces_ascii (2 * n)); skipped = spaces_skipped (2 * n); follows = λ bs f. refl }

pub ending_gap : (at : Layout) (first : Bool) → IsGap (ending at first)
ending_gap at true = no_gap
ending_gap at false = line_gap (shallower at)

pub colon_read : (at : Layout) → IsColon (colon at)
colon_read None = record { utf8 = ascii_utf8 (58 ∷ []) refl; read = λ bs. refl }
colon_read (Some n) = record { utf8 = ascii_utf8 (58 ∷ 32 ∷ []) refl; read = λ bs. refl }

pub separator_between : (at : Layout) (first : Bool) → separator at first ≡ between first (line at)
separator_between at true = refl
separator_between at false = refl

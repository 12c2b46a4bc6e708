-- Passing a text's bytes one after the other, as a loop does.
use Rattle.std.proofs.Common.{◌≡◌, ℕ, ◌+◌, Bool, true, false, ◌&&◌, eqb, cond, List, Some, None, refl, sym, ap, ◌∙◌, arith}
use Rattle.std.proofs.Math.Bool.{and-true}
use Rattle.lara_fields.specs.TextCodes.{unescaped, piece_at, text_at}
use Rattle.lara_fields.specs.Skipping.{behind, passed, is_kind, text_behind, passed-with_byte}
use Rattle.lara_fields.proofs.UnescapeFacts.{piece, by_piece, unescaped_by, unescaped_shorter}

pub passed_more : (n b : ℕ) (full : Bool) (rest after bytes : List ℕ) → piece (Some b) after ≡ piece_at rest → passed n full (unescaped rest) ≡ behind (text_at bytes) → passed (n + 1) (full && eqb b 255) (unescaped after) ≡ behind (text_at bytes)
passed_more n b full rest after bytes e h = sym (passed-with_byte n b full (unescaped after)) ∙ ap (passed n full) (ap by_piece e ∙ sym (unescaped_by rest)) ∙ h

at_end : (n : ℕ) (full : Bool) (rest after bytes : List ℕ) → piece None after ≡ piece_at rest → passed n full (unescaped rest) ≡ behind (text_at bytes) → cond (is_kind n full) (Some after) None ≡ behind (text_at bytes)
at_end n full rest after bytes e h =
    let z : n + 0 ≡ n = omega arith in
    let one : passed n full (by_piece (piece None after)) ≡ cond (is_kind n full) (Some after) None = rw (z, and-true) refl in
    sym one ∙ ap (passed n full) (ap by_piece e ∙ sym (unescaped_by rest)) ∙ h

pub passed_end : (n : ℕ) (full : Bool) (rest after bytes : List ℕ) → is_kind n full ≡ true → piece None after ≡ piece_at rest → passed n full (unescaped rest) ≡ behind (text_at bytes) → Some after ≡ behind (text_at bytes)
passed_end n full rest after bytes k e h = ap (λ (b : Bool). cond b (Some after) None) (sym k) ∙ at_end n full rest after bytes e h

pub passed_long : (n : ℕ) (full : Bool) (rest after bytes : List ℕ) → is_kind n full ≡ false → piece None after ≡ piece_at rest → passed n full (unescaped rest) ≡ behind (text_at bytes) → None ≡ behind (text_at bytes)
passed_long n full rest after bytes k e h = ap (λ (b : Bool). cond b (Some after) None) (sym k) ∙ at_end n full rest after bytes e h

pub passed_wrong : (n : ℕ) (full : Bool) (rest bytes : List ℕ) → None ≡ piece_at rest → passed n full (unescaped rest) ≡ behind (text_at bytes) → None ≡ behind (text_at bytes)
passed_wrong n full rest bytes e h = ap (passed n full) (ap by_piece e ∙ sym (unescaped_by rest)) ∙ h

pub passed_none : (bytes : List ℕ) → passed 0 true (unescaped bytes) ≡ behind (text_at bytes)
passed_none bytes = sym (text_behind bytes)

pub ruleset skip_facts = (passed_more, passed_wrong, passed_none, passed_end, passed_long, unescaped_shorter)

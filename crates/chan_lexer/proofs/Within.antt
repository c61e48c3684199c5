-- What stands at the front of a text is some of its bytes.
use Rattle.std.proofs.Common.{◌≡◌, ℕ, ◌≤◌, List, [], ◌∷◌, length, take, drop, ap, arith}
use Rattle.std.proofs.lemmas.List.{length-take}
use Rattle.text_tokens.specs.Text.{Piece, token}
use Rattle.text_tokens.proofs.Whole.{piece_longer}
use Rattle.chan_lexer.specs.declared.front.Front.{Front}
use Rattle.chan_lexer.specs.declared.front.Front.TheVariants.{End, LineEnd, Blank, Token, BadByte, BadToken, NumberTooLarge}
use Rattle.chan_lexer.specs.Front.{IsFrontOf, IsWithin, BeginsWith}

some_byte : (p : Piece) (len : ℕ) (text : List ℕ) → BeginsWith p len text → 1 ≤ len
some_byte p len text begins =
    omega (arith, piece_longer p (drop len text) begins.2, ap length begins.0, length-take len text)

one_byte : (text : List ℕ) (b : ℕ) (more : List ℕ) → text ≡ b ∷ more → 1 ≤ length text
one_byte text b more e = omega (arith, ap length e)

pub within_of : (text : List ℕ) (f : Front) → IsFrontOf text f → IsWithin (length text) f
within_of text End front = tt
within_of text LineEnd front = front.1
within_of text (Blank len) front = (some_byte front.0 len text front.2, front.2.1)
within_of text (Token kind len) front = (some_byte (token kind (take len text)) len text front, front.1)
within_of text BadByte front = let fault = front [] in one_byte text fault.0 fault.1 fault.2
within_of text BadToken front = let fault = front [] in one_byte text fault.0 fault.1 fault.2
within_of text (NumberTooLarge len) front = front.0

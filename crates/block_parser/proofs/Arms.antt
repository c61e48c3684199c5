-- The tags of the arms of a match, and a loop over the arms.
use Rattle.std.proofs.Common.{◌≡◌, ◌≢◌, ℕ, zero, suc, ◌+◌, ◌-◌, ◌<◌, ◌≤◌, true, false, cond, List, [], ◌∷◌, ◌++◌, Err, refl, ap, sym, ◌∙◌, append_assoc, append-nil, arith}
use Rattle.chan_syntax.specs.declared.surface_tree.SurfaceArm.{SurfaceArm}
use Rattle.text_tokens.specs.Text.{Token}
use Rattle.grammar_laws.specs.Grammar.{Outcome, Got, Bad, Deep, Parser, and_then, next_in}
use Rattle.surface_grammar.specs.declared.words.Word.TheVariants as w
use Rattle.surface_grammar.specs.Words.{code}
use Rattle.grammar_laws.specs.Grammar as g
use Rattle.surface_grammar.specs.Grammar.{G, word, ◌◁◌, yes}
use Rattle.surface_grammar.specs.Statements.{left_pat, right_pat, hash_pat, tagged_pat, arm, arms_from, more_arms, arms}
use Rattle.surface_grammar.specs.Language.{At}
use Rattle.token_cursor.specs.declared.cursor.Stop.{Stop}
use Rattle.token_cursor.specs.Syntax.{Answers, opening, skip}
use Rattle.token_cursor.proofs.Opens.{opens_brace}
use Rattle.token_cursor.proofs.UpTo.{two_front, stops, stops_so}
use Rattle.block_parser.specs.Turns.{arms_turns}

pub first_tag : (n number : ℕ) (ts : List Token) → number ≡ 0 → At n (tagged_pat number) ts ≡ At n left_pat ts
first_tag n zero ts is = refl
first_tag n (suc k) ts is = absurd (omega (arith, is))

pub second_tag : (n number : ℕ) (ts : List Token) → number ≡ 1 → At n (tagged_pat number) ts ≡ At n right_pat ts
second_tag n zero ts is = absurd (omega (arith, is))
second_tag n (suc zero) ts is = refl
second_tag n (suc (suc k)) ts is = absurd (omega (arith, is))

pub later_tag : (n number : ℕ) (ts : List Token) → number ≢ 0 → number ≢ 1 → At n (tagged_pat number) ts ≡ At n (hash_pat number) ts
later_tag n zero ts one two = absurd (one refl)
later_tag n (suc zero) ts one two = absurd (two refl)
later_tag n (suc (suc k)) ts one two = refl

pub ruleset tags = (first_tag, second_tag, later_tag)

one_left : (number : ℕ) → number < 16 → 16 - number ≡ suc (16 - (number + 1))
one_left number below = omega arith

-- an arm comes next
arm_more : {o : Outcome Token (List SurfaceArm)} (n number : ℕ) (found : List SurfaceArm) (ts : List Token) → number < 16 → o ≡ arms_turns n number found ts
    → next_in code (yes (w.Hash ∷ [])) ts ≡ true
    → o ≡ and_then (and_then (At n (arm number) ts) (λ y r. and_then (At n (arms_from (16 - (number + 1)) (suc number)) r) (λ ys s. Got (y ∷ ys) s))) (λ xs r. Got (found ++ xs) r)
arm_more n number found ts below e next =
    e
    ∙ ap (λ k. and_then (At n (arms_from k number) ts) (λ xs r. Got (found ++ xs) r)) (one_left number below)
    ∙ ap (λ b. and_then (cond b (and_then (At n (arm number) ts) (λ y r. and_then (At n (arms_from (16 - (number + 1)) (suc number)) r) (λ ys s. Got (y ∷ ys) s))) (Got [] ts)) (λ xs r. Got (found ++ xs) r)) next

-- one arm is read
pub arm_on : {o : Outcome Token (List SurfaceArm)} (n number : ℕ) (found longer : List SurfaceArm) (ts rest : List Token) (x : SurfaceArm) → number < 16 → o ≡ arms_turns n number found ts
    → next_in code (yes (w.Hash ∷ [])) ts ≡ true → At n (arm number) ts ≡ Got x rest → longer ≡ found ++ x ∷ [] → o ≡ arms_turns n (number + 1) longer rest
arm_on n number found longer ts rest x below e next read push =
    arm_more n number found ts below e next
    ∙ ap (λ p. and_then (and_then p more) (λ xs r. Got (found ++ xs) r)) read
    ∙ ap (λ m. and_then (and_then (At n (arms_from (16 - (number + 1)) m) rest) (λ ys s. Got (x ∷ ys) s)) (λ xs r. Got (found ++ xs) r)) after
    ∙ front (At n (arms_from (16 - (number + 1)) (number + 1)) rest)
  where
    after : suc number ≡ number + 1
    after = omega arith

    more : SurfaceArm → Parser Token (List SurfaceArm)
    more y r = and_then (At n (arms_from (16 - (number + 1)) (suc number)) r) (λ ys s. Got (y ∷ ys) s)

    front : (p : Outcome Token (List SurfaceArm)) → and_then (and_then p (λ ys s. Got (x ∷ ys) s)) (λ xs r. Got (found ++ xs) r) ≡ and_then p (λ xs r. Got (longer ++ xs) r)
    front (Got ys s) = ap (λ v. Got v s) (sym (append_assoc found (x ∷ []) ys) ∙ ap (λ f. f ++ ys) (sym push))
    front (Bad s) = refl
    front (Deep s) = refl

-- an arm is refused
pub arm_err : {o : Outcome Token (List SurfaceArm)} (n number : ℕ) (found : List SurfaceArm) (ts rest : List Token) (e : Stop) → number < 16 → o ≡ arms_turns n number found ts
    → next_in code (yes (w.Hash ∷ [])) ts ≡ true → Answers {A = SurfaceArm} (At n (arm number) ts) (Err e) rest → Answers {A = List SurfaceArm} o (Err e) rest
arm_err n number found ts rest e below so next read =
    stops_so e rest (arm_more n number found ts below so next) (stops (and_then (At n (arm number) ts) more) (λ xs r. Got (found ++ xs) r) e rest (stops (At n (arm number) ts) more e rest read))
  where
    more : SurfaceArm → Parser Token (List SurfaceArm)
    more y r = and_then (At n (arms_from (16 - (number + 1)) (suc number)) r) (λ ys s. Got (y ∷ ys) s)

none_found : (found : List SurfaceArm) (ts : List Token) → ◌≡◌ {A = Outcome Token (List SurfaceArm)} (Got (found ++ []) ts) (Got found ts)
none_found found ts = ap (λ v. Got v ts) (append-nil found)

-- no arm comes next
pub arms_stop : (n number : ℕ) (found : List SurfaceArm) (ts : List Token) → number < 16 → next_in code (yes (w.Hash ∷ [])) ts ≡ false → arms_turns n number found ts ≡ Got found ts
arms_stop n number found ts below next =
    ap (λ k. and_then (At n (arms_from k number) ts) (λ xs r. Got (found ++ xs) r)) (one_left number below)
    ∙ ap (λ b. and_then (cond b (and_then (At n (arm number) ts) (λ y r. and_then (At n (arms_from (16 - (number + 1)) (suc number)) r) (λ ys s. Got (y ∷ ys) s))) (Got [] ts)) (λ xs r. Got (found ++ xs) r)) next
    ∙ none_found found ts

-- there are sixteen
pub arms_end : (n number : ℕ) (found : List SurfaceArm) (ts : List Token) → 16 ≤ number → arms_turns n number found ts ≡ Got found ts
arms_end n number found ts done =
    let none : 16 - number ≡ 0 = omega arith in ap (λ k. and_then (At n (arms_from k number) ts) (λ xs r. Got (found ++ xs) r)) none ∙ none_found found ts

-- what is read of the arms behind the first two
pub arms_read : (n m : ℕ) (ts t1 t2 t3 : List Token) (a b : SurfaceArm) (found : List SurfaceArm)
    → opening w.LeftBrace n ts ≡ Got m t1 → At m (arm 0) t1 ≡ Got a t2 → At m (arm 1) t2 ≡ Got b t3 → found ≡ a ∷ b ∷ []
    → At n arms ts ≡ and_then (arms_turns m 2 found t3) (λ all r. and_then (skip w.RightBrace r) (λ _ s. Got all s))
unfolding arms more_arms skip
arms_read n m ts t1 t2 t3 a b found opens first second two =
    opens_brace n whole ts
    ∙ ap (λ o. and_then o (λ k rest. At k whole rest)) opens
    ∙ ap (λ o. and_then o (λ x rest. and_then (At m behind rest) (λ xs r. Got (x ∷ xs) r))) first
    ∙ ap (λ o. and_then (and_then o (λ y rest. and_then (At m closed rest) (λ ys s. Got (y ∷ ys) s))) (λ xs r. Got (a ∷ xs) r)) second
    ∙ two_front a b (At m more_arms t3) (λ r. skip w.RightBrace r)
    ∙ ap (λ f. and_then (arms_turns m 2 f t3) (λ all r. and_then (skip w.RightBrace r) (λ _ s. Got all s))) (sym two)
  where
    closed : G (List SurfaceArm)
    closed = more_arms ◁ word w.RightBrace

    behind : G (List SurfaceArm)
    behind = g.seq (λ y ys. y ∷ ys) (arm 1) closed

    whole : G (List SurfaceArm)
    whole = g.seq (λ x xs. x ∷ xs) (arm 0) behind

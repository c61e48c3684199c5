-- At most so many items, beside a loop that counts up.
use Rattle.std.proofs.Common.{◌≡◌, ℕ, zero, suc, ◌+◌, ◌-◌, ◌<◌, ◌≤◌, Bool, true, false, cond, List, [], ◌∷◌, ◌++◌, Result, Ok, Err, refl, ap, sym, ◌∙◌, append_assoc, append-nil}
use Rattle.text_tokens.specs.Text.{Token}
use Rattle.grammar_laws.specs.Grammar.{Outcome, Got, Bad, Deep, Parser, and_then, next_in}
use Rattle.surface_grammar.specs.declared.words.Word.{Word}
use Rattle.surface_grammar.specs.Words.{code}
use Rattle.surface_grammar.specs.Grammar.{G, yes, up_to}
use Rattle.surface_grammar.specs.Language.{At}
use Rattle.token_cursor.specs.declared.cursor.Stop.{Stop}
use Rattle.token_cursor.specs.declared.cursor.Stop.TheVariants.{Unexpected, TooDeep, Memory}
use Rattle.token_cursor.specs.Syntax.{Answers, up_to_turns}
use Rattle.token_cursor.proofs.Turns.{one_more, no_more}

-- ---- what stops a reader stops what reads on behind it

pub stops : {A B : Type 0} (o : Outcome Token A) (k : A → Parser Token B) (e : Stop) (at : List Token) → Answers {A = A} o (Err e) at → Answers {A = B} (and_then o k) (Err e) at
stops o k Unexpected at read = ap (λ p. and_then p k) read
stops o k TooDeep at read = ap (λ p. and_then p k) read
stops o k Memory at read = tt {0}

pub stops_so : {A : Type 0} {o p : Outcome Token A} (e : Stop) (at : List Token) → o ≡ p → Answers {A = A} p (Err e) at → Answers {A = A} o (Err e) at
stops_so Unexpected at same read = same ∙ read
stops_so TooDeep at same read = same ∙ read
stops_so Memory at same read = tt {0}

-- the same outcome has the same answer
pub answers_so : {A : Type 0} {o p : Outcome Token A} (r : Result A Stop) (at : List Token) → o ≡ p → Answers p r at → Answers o r at
answers_so (Ok x) at same read = same ∙ read
answers_so (Err e) at same read = stops_so e at same read

-- ---- the loop

none_found : {A : Type 0} (found : List A) (ts : List Token) → ◌≡◌ {A = Outcome Token (List A)} (Got (found ++ []) ts) (Got found ts)
none_found found ts = ap (λ v. Got v ts) (append-nil found)

-- an item comes next
up_more : {A : Type 0} {o : Outcome Token (List A)} (n : ℕ) (vs : List Word) (item : G A) (end at : ℕ) (found : List A) (ts : List Token)
    → at < end → o ≡ up_to_turns n vs item (end - at) found ts → next_in code (yes vs) ts ≡ true
    → o ≡ and_then (and_then (At n item ts) (λ y r. and_then (At n (up_to (end - (at + 1)) vs item) r) (λ ys s. Got (y ∷ ys) s))) (λ xs r. Got (found ++ xs) r)
up_more {A = A} n vs item end at found ts below e next =
    one_more (λ left. up_to_turns n vs item left found ts) end at below e
    ∙ ap (λ b. and_then (cond b (and_then (At n item ts) (λ y r. and_then (At n (up_to (end - (at + 1)) vs item) r) (λ ys s. Got (y ∷ ys) s))) (Got [] ts)) (λ xs r. Got (found ++ xs) r)) next

-- one turn
pub up_on : {A : Type 0} {o : Outcome Token (List A)} (n : ℕ) (vs : List Word) (item : G A) (end at : ℕ) (found longer : List A) (ts rest : List Token) (x : A)
    → at < end → o ≡ up_to_turns n vs item (end - at) found ts → next_in code (yes vs) ts ≡ true → At n item ts ≡ Got x rest → longer ≡ found ++ x ∷ []
    → o ≡ up_to_turns n vs item (end - (at + 1)) longer rest
up_on {A = A} n vs item end at found longer ts rest x below e next read push =
    up_more n vs item end at found ts below e next
    ∙ ap (λ p. and_then (and_then p more) (λ xs r. Got (found ++ xs) r)) read
    ∙ front (At n (up_to (end - (at + 1)) vs item) rest)
  where
    more : A → Parser Token (List A)
    more y r = and_then (At n (up_to (end - (at + 1)) vs item) r) (λ ys s. Got (y ∷ ys) s)

    front : (p : Outcome Token (List A)) → and_then (and_then p (λ ys s. Got (x ∷ ys) s)) (λ xs r. Got (found ++ xs) r) ≡ and_then p (λ xs r. Got (longer ++ xs) r)
    front (Got ys s) = ap (λ v. Got v s) (sym (append_assoc found (x ∷ []) ys) ∙ ap (λ f. f ++ ys) (sym push))
    front (Bad s) = refl
    front (Deep s) = refl

-- the item is refused
pub up_err : {A : Type 0} {o : Outcome Token (List A)} (n : ℕ) (vs : List Word) (item : G A) (end at : ℕ) (found : List A) (ts rest : List Token) (e : Stop)
    → at < end → o ≡ up_to_turns n vs item (end - at) found ts → next_in code (yes vs) ts ≡ true → Answers {A = A} (At n item ts) (Err e) rest → Answers {A = List A} o (Err e) rest
up_err {A = A} n vs item end at found ts rest e below so next read =
    stops_so e rest (up_more n vs item end at found ts below so next) (stops (and_then (At n item ts) more) (λ xs r. Got (found ++ xs) r) e rest (stops (At n item ts) more e rest read))
  where
    more : A → Parser Token (List A)
    more y r = and_then (At n (up_to (end - (at + 1)) vs item) r) (λ ys s. Got (y ∷ ys) s)

-- no item comes next
pub up_stop : {A : Type 0} (n : ℕ) (vs : List Word) (item : G A) (end at : ℕ) (found : List A) (ts : List Token) → at < end → next_in code (yes vs) ts ≡ false
    → up_to_turns n vs item (end - at) found ts ≡ Got found ts
up_stop {A = A} n vs item end at found ts below next =
    one_more (λ left. up_to_turns n vs item left found ts) end at below refl
    ∙ ap (λ b. and_then (cond b (and_then (At n item ts) (λ y r. and_then (At n (up_to (end - (at + 1)) vs item) r) (λ ys s. Got (y ∷ ys) s))) (Got [] ts)) (λ xs r. Got (found ++ xs) r)) next
    ∙ none_found found ts

-- no turn is left
pub up_end : {A : Type 0} (n : ℕ) (vs : List Word) (item : G A) (end at : ℕ) (found : List A) (ts : List Token) → end ≤ at → up_to_turns n vs item (end - at) found ts ≡ Got found ts
up_end n vs item end at found ts done = no_more (λ left. up_to_turns n vs item left found ts) end at done refl ∙ none_found found ts

-- two items, and what is read behind them
pub two_front : {A : Type 0} (a b : A) (o : Outcome Token (List A)) (k : Parser Token (Unit {0}))
    → and_then (and_then (and_then o (λ xs r. and_then (k r) (λ _ s. Got xs s))) (λ ys s. Got (b ∷ ys) s)) (λ zs s. Got (a ∷ zs) s)
    ≡ and_then (and_then o (λ xs r. Got (a ∷ b ∷ xs) r)) (λ all r. and_then (k r) (λ _ s. Got all s))
two_front {A = A} a b (Got xs r) k = by (k r) where
  by : (p : Outcome Token (Unit {0})) → and_then (and_then (and_then p (λ _ s. Got xs s)) (λ ys s. Got (b ∷ ys) s)) (λ zs s. Got (a ∷ zs) s) ≡ and_then p (λ _ s. Got (a ∷ b ∷ xs) s)
  by (Got u s) = refl
  by (Bad s) = refl
  by (Deep s) = refl
two_front a b (Bad r) k = refl
two_front a b (Deep r) k = refl

-- two items, and those behind them
pub two_first : {A : Type 0} (a b : A) (o : Outcome Token (List A)) → and_then (and_then o (λ ys s. Got (b ∷ ys) s)) (λ zs s. Got (a ∷ zs) s) ≡ and_then o (λ xs r. Got (a ∷ b ∷ xs) r)
two_first a b (Got xs r) = refl
two_first a b (Bad r) = refl
two_first a b (Deep r) = refl

-- what is found, of two items that were put in
pub two_found : {A : Type 0} (a b : A) (none one two : List A) → none ≡ [] → one ≡ none ++ a ∷ [] → two ≡ one ++ b ∷ [] → two ≡ a ∷ b ∷ []
two_found a b none one two e p q = q ∙ ap (λ v. v ++ b ∷ []) (p ∙ ap (λ v. v ++ a ∷ []) e)

-- Unfolding has one answer.
use Rattle.std.proofs.Common.{◌≡◌, ◌⊎◌, inl, inr, ⊎_elim, true≢false, ℕ, true, false, List, [], ◌∷◌, Option, Some, Result, Ok, Err, refl, sym, ap, ◌∙◌, subst}
use Rattle.core_language.specs.Terms.{Term}
use Rattle.core_language.specs.Resources.{Ref, Res, Equation, Proto, Send, Recv, Close, Wait, Branch}
use Rattle.core_language.specs.Operands.{Letter}
use Rattle.linear_forms.specs.Terms.{IntVar, put_of}
use Rattle.linear_forms.specs.Substitution.{Each, Fits, IsNormalPut, IsRefLike, IsSubst, AllFit, terms_of_res}
use Rattle.protocols.specs.Duals.{Message, message_of}
use Rattle.outline_language.specs.Equations.{Direction, proto_named}
use Rattle.protocols.specs.Heads.{equation_of_end, on_way}
use Rattle.protocols.specs.Unfolding.{Fault, WrongForm, CertCount, BranchNotProved, TooLarge, has_form, Setting, asked_row, obligation, IsFormed, Outcome, On, Stop, Takes, HasEquationAt, Steps, Follows, HasMessage, HasFormed, IsMessageTooLarge, Found, Unfolds}
use Rattle.unfold_laws.specs.Answers.{AreAlike}
use Rattle.unfold_laws.proofs.OneSpelling.{one_term_under}
use Rattle.unfold_laws.proofs.OneResult.{each_all, made_ref, one_subst, res_fits}

-- ---- one letter

fault_same : (o : Result ℕ Fault) (f g : Fault) → o ≡ Err f → o ≡ Err g → f ≡ g
fault_same o f g e h = cc

count_same : (o : Result ℕ Fault) (m n : ℕ) → o ≡ Ok m → o ≡ Ok n → m ≡ n
count_same o m n e h = cc

not_both : (o : Result ℕ Fault) (m : ℕ) (f : Fault) → o ≡ Ok m → o ≡ Err f → ⊥
not_both o m f e h = cc

-- terms that come of one term by substitution have one spelling
same_put : (put : List IntVar) (t u v : Term) → IsNormalPut put [] [] t u → IsNormalPut put [] [] t v → u ≡ v
same_put put t u v one two = one_term_under [] u v one.normal two.normal (λ at. one.value at ∙ sym (two.value at))

args_same : (put : List IntVar) (ts us vs : List Term) → Each (IsNormalPut put [] []) ts us → Each (IsNormalPut put [] []) ts vs → us ≡ vs
args_same put [] [] [] h g = refl
args_same put [] [] (v ∷ vs) h g = absurd g
args_same put [] (u ∷ us) vs h g = absurd h
args_same put (t ∷ ts) [] vs h g = absurd h
args_same put (t ∷ ts) (u ∷ us) [] h g = absurd g
args_same put (t ∷ ts) (u ∷ us) (v ∷ vs) h g = rw (same_put put t u v h.0 g.0, args_same put ts us vs h.1 g.1) refl

end_same : (put : List IntVar) (picked first second : Ref) → IsRefLike (IsNormalPut put) [] [] picked first → IsRefLike (IsNormalPut put) [] [] picked second → first ≡ second
end_same put picked first second h g =
    made_ref first second (sym h.dual ∙ g.dual) (sym h.name ∙ g.name) (args_same put picked.args first.args second.args h.args g.args)

on_same : (m n : Ref) (i j : ℕ) → m ≡ n → i ≡ j → On m i ≡ On n j
on_same m n i j e h = rw (e, h) refl

module _ (s : Setting) (used : ℕ) (put : List IntVar) (letter : Letter) (left right : Term) (picked : Ref) where
  -- the obligation of the letter isn't met
  abbrev Fails : Fault → Type 0
  Fails fault = IsFormed s put letter left right × (obligation s used (asked_row s put letter left right) ≡ Err fault)

  -- a number is too large
  abbrev IsLarge : Type 0
  IsLarge = Takes s used put letter left right picked (Stop TooLarge)

  -- what comes of the letter
  abbrev Comes : Outcome → Type 0
  Comes outcome = Takes s used put letter left right picked outcome

  why : (fault : Fault) → Comes (Stop fault) → ((fault ≡ TooLarge) × IsLarge) ⊎ Fails fault
  why WrongForm takes = inr takes
  why CertCount takes = inr takes
  why (BranchNotProved number fault) takes = inr takes
  why TooLarge takes = inl (refl, takes)

  goes_or_large : (next : Ref) (more : ℕ) → Comes (On next more) → IsLarge → ⊥
  goes_or_large next more (formed, shown, like) (inl unformed) = unformed formed
  goes_or_large next more (formed, shown, like) (inr (formed_too, shown_too, unfit)) =
      unfit (each_all (IsNormalPut put [] []) (Fits put []) picked.args next.args (λ t u h. h.fits) like.args)

  large_or_fails : (fault : Fault) → IsLarge → Fails fault → ⊥
  large_or_fails fault (inl unformed) (formed, fails) = unformed formed
  large_or_fails fault (inr (formed_too, (more, shown), unfit)) (formed, fails) = not_both (obligation s used (asked_row s put letter left right)) more fault shown fails

  goes_or_stops : (next : Ref) (more : ℕ) (fault : Fault) → Comes (On next more) → Comes (Stop fault) → ⊥
  goes_or_stops next more fault goes stops =
      ⊎_elim (λ large. goes_or_large next more goes large.1) (λ fails. not_both (obligation s used (asked_row s put letter left right)) more fault goes.1 fails.1) (why fault stops)

  stops_once : (f g : Fault) → Comes (Stop f) → Comes (Stop g) → f ≡ g
  stops_once f g first second = by (why f first) (why g second)
    where
      by : ((f ≡ TooLarge) × IsLarge) ⊎ Fails f → ((g ≡ TooLarge) × IsLarge) ⊎ Fails g → f ≡ g
      by (inl (e, large)) (inl (h, large_too)) = e ∙ sym h
      by (inl (e, large)) (inr fails) = absurd (large_or_fails g large fails)
      by (inr fails) (inl (h, large)) = absurd (large_or_fails f large fails)
      by (inr fails) (inr fails_too) = fault_same (obligation s used (asked_row s put letter left right)) f g fails.1 fails_too.1

  comes_once : (o p : Outcome) → Comes o → Comes p → o ≡ p
  comes_once (On next more) (On other many) first second =
      on_same next other more many (end_same put picked next other first.2 second.2) (count_same (obligation s used (asked_row s put letter left right)) more many first.1 second.1)
  comes_once (On next more) (Stop g) first second = absurd (goes_or_stops next more g first second)
  comes_once (Stop f) (On other many) first second = absurd (goes_or_stops other many f second first)
  comes_once (Stop f) (Stop g) first second = ap Stop (stops_once f g first second)

-- ---- a path

proto_same : (o : Option Proto) (p q : Proto) → o ≡ Some p → o ≡ Some q → q ≡ p
proto_same o p q e f = cc

equation_same : (protos : List Proto) (ref : Ref) (p q : Proto) (a b : Equation) → HasEquationAt protos ref p a → HasEquationAt protos ref q b → (q ≡ p) × (b ≡ a)
equation_same protos ref p q a b (n, i) (m, j) =
    let same = proto_same (proto_named ref.name protos) p q n m in
    (same, sym j ∙ ap (equation_of_end ref.dual) same ∙ i)

module _ (s : Setting) where
  -- what comes of a letter at an end with this equation
  abbrev ComesAt : ℕ → Ref → Letter → Outcome → Proto → Equation → Type 0
  ComesAt used ref letter outcome proto (Branch left right this other) = Takes s used (put_of proto.params ref.args) letter left right (on_way letter this other) outcome
  ComesAt used ref letter outcome proto (Send res next) = ⊥
  ComesAt used ref letter outcome proto (Recv res next) = ⊥
  ComesAt used ref letter outcome proto Close = ⊥
  ComesAt used ref letter outcome proto Wait = ⊥

  steps_once : (used : ℕ) (ref : Ref) (letter : Letter) (o p : Outcome) → Steps s used ref letter o → Steps s used ref letter p → o ≡ p
  steps_once used ref letter o p (proto, left, right, this, other, has, first) (proto_too, left_too, right_too, this_too, other_too, has_too, second) =
      comes_once s used (put_of proto.params ref.args) letter left right (on_way letter this other) o p first moved
    where
      same : (proto_too ≡ proto) × (Branch left_too right_too this_too other_too ≡ Branch left right this other)
      same = equation_same s.protos ref proto proto_too (Branch left right this other) (Branch left_too right_too this_too other_too) has has_too

      there : ComesAt used ref letter p proto_too (Branch left_too right_too this_too other_too)
      there = second

      moved : ComesAt used ref letter p proto (Branch left right this other)
      moved = subst (ComesAt used ref letter p proto) same.1 (subst (λ (q : Proto). ComesAt used ref letter p q (Branch left_too right_too this_too other_too)) same.0 there)

  stop_same : (f g : Fault) → Stop f ≡ Stop g → f ≡ g
  stop_same f g e = cc

  stop_or_on : (f : Fault) (next : Ref) (more : ℕ) → Stop f ≡ On next more → ⊥
  stop_or_on f next more e = cc

  next_same : (m n : Ref) (i j : ℕ) → On m i ≡ On n j → m ≡ n
  next_same m n i j e = cc

  used_same : (m n : Ref) (i j : ℕ) → On m i ≡ On n j → i ≡ j
  used_same m n i j e = cc

  follows_once : (letters : List Letter) (used : ℕ) (ref : Ref) (o p : Outcome) → Follows s used ref letters o → Follows s used ref letters p → o ≡ p
  follows_once [] used ref o p first second = first ∙ sym second
  follows_once (letter ∷ letters) used ref o p (inl (f, e, step)) (inl (g, h, step_too)) = e ∙ steps_once used ref letter (Stop f) (Stop g) step step_too ∙ sym h
  follows_once (letter ∷ letters) used ref o p (inl (f, e, step)) (inr (next, more, step_too, rest)) =
      absurd (stop_or_on f next more (steps_once used ref letter (Stop f) (On next more) step step_too))
  follows_once (letter ∷ letters) used ref o p (inr (next, more, step, rest)) (inl (g, h, step_too)) =
      absurd (stop_or_on g next more (steps_once used ref letter (Stop g) (On next more) step_too step))
  follows_once (letter ∷ letters) used ref o p (inr (next, more, step, rest)) (inr (next_too, more_too, step_too, rest_too)) =
      let same = steps_once used ref letter (On next_too more_too) (On next more) step_too step in
      let there = subst (λ r. Follows s more_too r letters p) (next_same next_too next more_too more same) rest_too in
      follows_once letters more next o p rest (subst (λ k. Follows s k next letters p) (used_same next_too next more_too more same) there)

-- ---- the message

message_same : (o : Option Message) (m n : Message) → o ≡ Some m → o ≡ Some n → n ≡ m
message_same o m n e f = cc

messages_same : (protos : List Proto) (ref : Ref) (m n : Message) (xs ys : List IntVar) → HasMessage protos ref m xs → HasMessage protos ref n ys → (n ≡ m) × (ys ≡ xs)
messages_same protos ref m n xs ys (p, a, has, is, put) (q, b, has_too, is_too, put_too) =
    let same = equation_same protos ref p q a b has has_too in
    (message_same (message_of a) m n is (ap message_of (sym same.1) ∙ is_too), put_too ∙ ap (λ (r : Proto). put_of r.params ref.args) same.0 ∙ sym put)

formed_or_large : (protos : List Proto) (ref : Ref) (direction : Direction) (res : Res) → HasFormed protos ref direction res → IsMessageTooLarge protos ref → ⊥
formed_or_large protos ref direction res (m, xs, has, is, put) (n, ys, has_too, unfit) =
    let same = messages_same protos ref n m ys xs has_too has in
    unfit (subst (λ (k : Message). AllFit ys (terms_of_res [] k.res)) same.0 (subst (λ (zs : List IntVar). AllFit zs (terms_of_res [] m.res)) same.1 (res_fits xs [] [] m.res res put)))

found_once : (protos : List Proto) (ref : Ref) (f g : Found) → HasFormed protos ref f.direction f.res → HasFormed protos ref g.direction g.res → f.used ≡ g.used → AreAlike (Ok f) (Ok g)
found_once protos ref f g (m, xs, has, is, put) (n, ys, has_too, is_too, put_too) used =
    let same = messages_same protos ref m n xs ys has has_too in
    let moved = subst (λ (k : Message). IsSubst xs k.res g.res) same.0 (subst (λ (zs : List IntVar). IsSubst zs n.res g.res) same.1 put_too) in
    record {
      direction = is ∙ ap (λ (k : Message). k.direction) (sym same.0) ∙ sym is_too;
      res = one_subst xs m.res f.res g.res put moved;
      used = used;
    }

-- ---- the answer

-- the fault or the end to which the letters lead, and what is answered there
abbrev Stopped : Setting → Ref → List Letter → Result Found Fault → Type 0
Stopped s ref letters answer = (fault : Fault) × Follows s 0 ref letters (Stop fault) × (answer ≡ Err fault)

abbrev Formed : Setting → Ref → ℕ → Result Found Fault → Type 0
Formed s last used answer = (found : Found) × (found.used ≡ used) × HasFormed s.protos last found.direction found.res × (answer ≡ Ok found)

abbrev Ends : Setting → Ref → ℕ → Result Found Fault → Type 0
Ends s last used answer = Formed s last used answer ⊎ (IsMessageTooLarge s.protos last × (answer ≡ Err TooLarge))

abbrev Led : Setting → Ref → List Letter → Result Found Fault → Type 0
Led s ref letters answer =
    (last : Ref) × (used : ℕ) × Follows s 0 ref letters (On last used) × Ends s last used answer

module _ (s : Setting) (ref : Ref) (letters : List Letter) where
  abbrev Answers : Result Found Fault → Type 0
  Answers answer = ((has_form s.protos letters ref.name ≡ false) × (answer ≡ Err WrongForm)) ⊎ ((has_form s.protos letters ref.name ≡ true) × (Stopped s ref letters answer ⊎ Led s ref letters answer))

  answers : (answer : Result Found Fault) → Unfolds s ref letters answer → Answers answer
  answers (Ok found) (form, (last, follows, formed)) = inr (form, inr (last, found.used, follows, inl (found, refl, formed, refl)))
  answers (Err WrongForm) none = inl (none, refl)
  answers (Err CertCount) (form, follows) = inr (form, inl (CertCount, follows, refl))
  answers (Err (BranchNotProved number fault)) (form, follows) = inr (form, inl (BranchNotProved number fault, follows, refl))
  answers (Err TooLarge) (form, inl follows) = inr (form, inl (TooLarge, follows, refl))
  answers (Err TooLarge) (form, inr (last, used, follows, large)) = inr (form, inr (last, used, follows, inr (large, refl)))

  both_err : (o p : Result Found Fault) (f g : Fault) → o ≡ Err f → p ≡ Err g → f ≡ g → AreAlike o p
  both_err o p f g e h same = subst (λ a. AreAlike a p) (sym e) (subst (λ b. AreAlike (Err f) b) (sym h) same)

  both_ok : (o p : Result Found Fault) (f g : Found) → o ≡ Ok f → p ≡ Ok g → AreAlike (Ok f) (Ok g) → AreAlike o p
  both_ok o p f g e h same = subst (λ a. AreAlike a p) (sym e) (subst (λ b. AreAlike (Ok f) b) (sym h) same)

  at_end : (last : Ref) (used : ℕ) (o p : Result Found Fault) → Ends s last used o → Ends s last used p → AreAlike o p
  at_end last used o p (inl (f, many, formed, e)) (inl (g, many_too, formed_too, h)) = both_ok o p f g e h (found_once s.protos last f g formed formed_too (many ∙ sym many_too))
  at_end last used o p (inl (f, many, formed, e)) (inr (large, h)) = absurd (formed_or_large s.protos last f.direction f.res formed large)
  at_end last used o p (inr (large, e)) (inl (g, many, formed, h)) = absurd (formed_or_large s.protos last g.direction g.res formed large)
  at_end last used o p (inr (large, e)) (inr (large_too, h)) = both_err o p TooLarge TooLarge e h refl

  ended_once : (o p : Result Found Fault) → Stopped s ref letters o ⊎ Led s ref letters o → Stopped s ref letters p ⊎ Led s ref letters p → AreAlike o p
  ended_once o p (inl (f, follows, e)) (inl (g, follows_too, h)) =
      both_err o p f g e h (stop_same s f g (follows_once s letters 0 ref (Stop f) (Stop g) follows follows_too))
  ended_once o p (inl (f, follows, e)) (inr (last, used, follows_too, there)) =
      absurd (stop_or_on s f last used (follows_once s letters 0 ref (Stop f) (On last used) follows follows_too))
  ended_once o p (inr (last, used, follows, there)) (inl (g, follows_too, h)) =
      absurd (stop_or_on s g last used (follows_once s letters 0 ref (Stop g) (On last used) follows_too follows))
  ended_once o p (inr (last, used, follows, there)) (inr (last_too, used_too, follows_too, there_too)) =
      at_end last used o p there (subst (λ k. Ends s last k p) (used_same s last_too last used_too used same) (subst (λ r. Ends s r used_too p) (next_same s last_too last used_too used same) there_too))
    where
      same : On last_too used_too ≡ On last used
      same = follows_once s letters 0 ref (On last_too used_too) (On last used) follows_too follows

  answered_once : (o p : Result Found Fault) → Answers o → Answers p → AreAlike o p
  answered_once o p (inl (none, e)) (inl (none_too, h)) = both_err o p WrongForm WrongForm e h refl
  answered_once o p (inl (none, e)) (inr (form, rest)) = absurd (true≢false (sym form ∙ none))
  answered_once o p (inr (form, rest)) (inl (none, h)) = absurd (true≢false (sym form ∙ none))
  answered_once o p (inr (form, rest)) (inr (form_too, rest_too)) = ended_once o p rest rest_too

pub one_answer : (s : Setting) (ref : Ref) (letters : List Letter) (first second : Result Found Fault) → Unfolds s ref letters first → Unfolds s ref letters second → AreAlike first second
one_answer s ref letters first second one two = answered_once s ref letters first second (answers s ref letters first one) (answers s ref letters second two)

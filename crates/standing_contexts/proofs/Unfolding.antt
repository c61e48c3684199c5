-- An end that is unfolded has a head, whose message it is.
use Rattle.std.proofs.Common.{◌≡◌, ℕ, zero, suc, ◌+◌, ◌≤◌, ◌<◌, ℤ, pos, ◌+ℤ◌, ◌-ℤ◌, ◌≤ℤ◌, int_le, Bool, true, false, not, if◌then◌else◌, List, [], ◌∷◌, ◌++◌, map, length, append-nil, Option, Some, None, Result, Ok, Err, refl, ap, sym, subst, ◌∙◌, arith}
use Rattle.std.proofs.lemmas.Int.{ints}
use Rattle.core_language.specs.Names.{Ident}
use Rattle.core_language.specs.Terms.{Term}
use Rattle.core_language.specs.Operands.{Letter, First, Second}
use Rattle.core_language.specs.Resources.{Proto}
use Rattle.core_language.specs.Resources as written
use Rattle.core_language.specs.Programs.{Program}
use Rattle.core_language.specs.Values.{Value}
use Rattle.outline_language.specs.LinearForms.{Var, Free, Inside, LinearForm, minus, plus_one, form_at}
use Rattle.outline_language.specs.Nameless.{Ref, Res, turned_if, nameless_term, nameless_ref, nameless_res, form_with, ref_with, res_with}
use Rattle.outline_language.specs.Contexts.{Why, WrongForm, TooLarge, BranchNotProved, and_then, or_why, provided, Context, Cursor, formed, oblige}
use Rattle.outline_language.specs.Paths.{Message, turned, is_path, Followed, asked, formed_ref, take_letter, follow_letter, follow, formed_res, message_at, Unfolded, unfolded}
use Rattle.outline_language.specs.Equations.{Direction, Fork, fork_of, on_way, proto_named, written_message, Concrete, opposite}
use Rattle.good_configurations.specs.Ends.{opposite_if, concrete, at, integer_at, no_values, Head, Next, Gives, Goes, next_at, next_in, next_of, HasHead, way, letter_of, picked}
use Rattle.good_configurations.specs.Values.{Use, Has}
use Rattle.outline_values.specs.Proper.{ProperForm, ProperForms, ProperRef, ProperRes, ProperVar, nest_res}
use Rattle.outline_values.specs.Formed.{Knows, KnowsRes, deepest, nest_resource, IsFormed}
use Rattle.outline_values.proofs.Answers.{one_ok, err_ok, and_then-ok, provided-ok, or_why-ok, one_some, none_some}
use Rattle.outline_language.proofs.Values.{minus-at, plus_one-at}
use Rattle.outline_values.proofs.Alike.{has-alike, res-turned, ResAlike}
use Rattle.outline_values.proofs.Proper.{term-read, terms-read, res-read, forms_with-proper, res_with-proper, length-map, res-more}
use Rattle.outline_values.proofs.Readings.{proper-agree, one-open, res-open, res-agree}
use Rattle.outline_values.proofs.Shapes.{nest_res-with, nest_res-read}
use Rattle.given_values.proofs.Obliging.{AreTrue, oblige-true}

module _ (P : Program) (is_formed : IsFormed P) (ctx : Context) (ks : List ℤ) (len : length ks ≡ length (ctx.ints)) (true_hyps : AreTrue (integer_at ks) (ctx.hyps)) where
  abbrev w : ℕ → ℤ
  w = integer_at ks

  abbrev n : ℕ
  n = length (ctx.ints)

  -- the end where integer variables have these values
  abbrev pub end_at : Ref → Concrete
  end_at e = concrete (at w []) e

  abbrev values_of : List LinearForm → List ℤ
  values_of fs = map (form_at (at w [])) fs

  free_none : (d : ℕ) (cs : List ℤ) (v : Var) → ProperVar 0 d v → at w cs v ≡ at no_values cs v
  free_none d cs (Free i) h = absurd (omega arith)
  free_none d cs (Inside i) h = refl

  -- a term of an equation, at the arguments of an end
  term-put : (params : List Ident) (args : List LinearForm) → ProperForms n 0 args → length args ≡ length params → (t : Term) → form_at (at w []) (form_with args 0 (nameless_term [] params t)) ≡ form_at (at no_values (values_of args)) (nameless_term [] params t)
  term-put params args proper arity t =
      one-open w n args proper 0 (length params) (omega (arith, arity)) (nameless_term [] params t) (term-read [] n [] (omega arith) (length params) params (omega arith) t) [] refl
      ∙ proper-agree (at w (values_of args)) (at no_values (values_of args)) 0 (length params) (free_none (length params) (values_of args)) (nameless_term [] params t) (term-read [] 0 [] (omega arith) (length params) params (omega arith) t)

  terms-put : (params : List Ident) (args : List LinearForm) → ProperForms n 0 args → length args ≡ length params → (ts : List Term) → map (form_at (at w [])) (map (form_with args 0) (map (nameless_term [] params) ts)) ≡ map (form_at (at no_values (values_of args))) (map (nameless_term [] params) ts)
  terms-put params args proper arity [] = refl
  terms-put params args proper arity (t ∷ ts) = joined (term-put params args proper arity t) (terms-put params args proper arity ts)
    where
      joined : {x y : ℤ} {xs ys : List ℤ} → x ≡ y → xs ≡ ys → x ∷ xs ≡ y ∷ ys
      joined p q = λ i. p i ∷ q i

  ref-put : (params : List Ident) (args : List LinearForm) → ProperForms n 0 args → length args ≡ length params → (ref : written.Ref) → end_at (ref_with args 0 (nameless_ref [] params ref)) ≡ concrete (at no_values (values_of args)) (nameless_ref [] params ref)
  ref-put params args proper arity ref = let same = terms-put params args proper arity (ref.args) in λ i. record { dual = ref.dual; name = ref.name; args = same i }

  turned-at : (mark : Bool) (e : Ref) → end_at (turned_if mark e) ≡ opposite_if mark (end_at e)
  turned-at true e = refl
  turned-at false e = refl

  -- ---- one letter

  way-is : (letter : Letter) (f g : LinearForm) (a b : ℤ) → form_at (at w []) f ≡ a → form_at (at w []) g ≡ b → form_at (at w []) (asked letter f g) ≤ℤ pos 0 → (if int_le a b then First else Second) ≡ letter
  way-is letter f g a b e₁ e₂ le = go letter le (int_le a b) refl
    where
      go : (letter : Letter) → form_at (at w []) (asked letter f g) ≤ℤ pos 0 → (t : Bool) → int_le a b ≡ t → (if t then First else Second) ≡ letter
      go First le true t = refl
      go First le false t = absurd (omega (arith, ints, le, t, minus-at (at w []) f g, e₁, e₂))
      go Second le true t = absurd (omega (arith, ints, le, t, plus_one-at (at w []) (minus g f), minus-at (at w []) g f, e₁, e₂))
      go Second le false t = refl

  Leads : Ref → Ref → Type 0
  Leads e last = (m : ℕ) (h : Head) → HasHead (P.protos) m (end_at last) h → (m' : ℕ) × HasHead (P.protos) m' (end_at e) h

  no_message : (proto : Proto) (fork : Fork) → fork_of (proto.equation) ≡ Some fork → written_message (proto.equation) ≡ None
  no_message proto fork e = go (proto.equation) e
    where
      go : (q : written.Equation) → fork_of q ≡ Some fork → written_message q ≡ None
      go (written.Send r next) e = none_some e
      go (written.Recv r next) e = none_some e
      go written.Close e = none_some e
      go written.Wait e = none_some e
      go (written.Branch left right this other) e = refl

  record Stepped (e next : Ref) : Type 0 where
    proper : ProperRef (P.protos) n 0 next
    goes : next_of (P.protos) (end_at e) ≡ Goes (end_at next)

  letter-typed : (letter : Letter) (at_end after : Followed) → ProperRef (P.protos) n 0 (at_end.end) → follow_letter (P.protos) ctx letter at_end ≡ Ok after → Stepped (at_end.end) (after.end)
  letter-typed letter at_end after (args_proper, knows) e = with_proto (and_then-ok (or_why (proto_named (at_end.end.name) (P.protos)) WrongForm) (λ proto. and_then (or_why (fork_of (proto.equation)) WrongForm) (λ fork. take_letter (proto.params) ctx letter fork at_end)) after e)
    where
      with_proto : (proto : Proto) × (or_why (proto_named (at_end.end.name) (P.protos)) WrongForm ≡ Ok proto) × (and_then (or_why (fork_of (proto.equation)) WrongForm) (λ fork. take_letter (proto.params) ctx letter fork at_end) ≡ Ok after) → Stepped (at_end.end) (after.end)
      with_proto (proto, e₁, e₂) = with_fork (and_then-ok (or_why (fork_of (proto.equation)) WrongForm) (λ fork. take_letter (proto.params) ctx letter fork at_end) after e₂)
        where
          is_proto : proto_named (at_end.end.name) (P.protos) ≡ Some proto
          is_proto = or_why-ok _ WrongForm proto e₁

          arity : length (at_end.end.args) ≡ length (proto.params)
          arity = knows.2 ∙ ap (λ z. length (z.params)) (one_some (sym (knows.1) ∙ or_why-ok (proto_named (at_end.end.name) (P.protos)) WrongForm proto e₁))

          with_fork : (fork : Fork) × (or_why (fork_of (proto.equation)) WrongForm ≡ Ok fork) × (take_letter (proto.params) ctx letter fork at_end ≡ Ok after) → Stepped (at_end.end) (after.end)
          with_fork (fork, e₃, e₄) = with_left (and_then-ok (formed (form_with (at_end.end.args) 0 (nameless_term [] (proto.params) (fork.left)))) (λ left.
              and_then (formed (form_with (at_end.end.args) 0 (nameless_term [] (proto.params) (fork.right)))) (λ right.
              and_then (oblige BranchNotProved ctx (asked letter left right) (at_end.cursor)) (λ cursor.
              and_then (formed_ref (ref_with (at_end.end.args) 0 (nameless_ref [] (proto.params) (on_way letter fork)))) (λ next.
              Ok (record { end = turned_if (at_end.end.dual) next; cursor = cursor }))))) after e₄)
            where
              is_fork : fork_of (proto.equation) ≡ Some fork
              is_fork = or_why-ok _ WrongForm fork e₃

              with_left : (left : LinearForm) × (formed (form_with (at_end.end.args) 0 (nameless_term [] (proto.params) (fork.left))) ≡ Ok left) × (and_then (formed (form_with (at_end.end.args) 0 (nameless_term [] (proto.params) (fork.right)))) (λ right.
                  and_then (oblige BranchNotProved ctx (asked letter left right) (at_end.cursor)) (λ cursor.
                  and_then (formed_ref (ref_with (at_end.end.args) 0 (nameless_ref [] (proto.params) (on_way letter fork)))) (λ next.
                  Ok (record { end = turned_if (at_end.end.dual) next; cursor = cursor })))) ≡ Ok after) → Stepped (at_end.end) (after.end)
              with_left (left, e₅, e₆) = with_right (and_then-ok (formed (form_with (at_end.end.args) 0 (nameless_term [] (proto.params) (fork.right)))) (λ right.
                  and_then (oblige BranchNotProved ctx (asked letter left right) (at_end.cursor)) (λ cursor.
                  and_then (formed_ref (ref_with (at_end.end.args) 0 (nameless_ref [] (proto.params) (on_way letter fork)))) (λ next.
                  Ok (record { end = turned_if (at_end.end.dual) next; cursor = cursor })))) after e₆)
                where
                  with_right : (right : LinearForm) × (formed (form_with (at_end.end.args) 0 (nameless_term [] (proto.params) (fork.right))) ≡ Ok right) × (and_then (oblige BranchNotProved ctx (asked letter left right) (at_end.cursor)) (λ cursor.
                      and_then (formed_ref (ref_with (at_end.end.args) 0 (nameless_ref [] (proto.params) (on_way letter fork)))) (λ next.
                      Ok (record { end = turned_if (at_end.end.dual) next; cursor = cursor }))) ≡ Ok after) → Stepped (at_end.end) (after.end)
                  with_right (right, e₇, e₈) = with_cursor (and_then-ok (oblige BranchNotProved ctx (asked letter left right) (at_end.cursor)) (λ cursor.
                      and_then (formed_ref (ref_with (at_end.end.args) 0 (nameless_ref [] (proto.params) (on_way letter fork)))) (λ next.
                      Ok (record { end = turned_if (at_end.end.dual) next; cursor = cursor }))) after e₈)
                    where
                      left_is : form_at (at w []) left ≡ form_at (at no_values (values_of (at_end.end.args))) (nameless_term [] (proto.params) (fork.left))
                      left_is = ap (form_at (at w [])) (sym ((provided-ok _ TooLarge _ left e₅).1)) ∙ term-put (proto.params) (at_end.end.args) args_proper arity (fork.left)

                      right_is : form_at (at w []) right ≡ form_at (at no_values (values_of (at_end.end.args))) (nameless_term [] (proto.params) (fork.right))
                      right_is = ap (form_at (at w [])) (sym ((provided-ok _ TooLarge _ right e₇).1)) ∙ term-put (proto.params) (at_end.end.args) args_proper arity (fork.right)

                      with_cursor : (cursor : Cursor) × (oblige BranchNotProved ctx (asked letter left right) (at_end.cursor) ≡ Ok cursor) × (and_then (formed_ref (ref_with (at_end.end.args) 0 (nameless_ref [] (proto.params) (on_way letter fork)))) (λ next. Ok (record { end = turned_if (at_end.end.dual) next; cursor = cursor })) ≡ Ok after) → Stepped (at_end.end) (after.end)
                      with_cursor (cursor, e₉, e₁₀) = with_next (and_then-ok (formed_ref (ref_with (at_end.end.args) 0 (nameless_ref [] (proto.params) (on_way letter fork)))) (λ next. Ok (record { end = turned_if (at_end.end.dual) next; cursor = cursor })) after e₁₀)
                        where
                          letter_is : letter_of (proto.params) (values_of (at_end.end.args)) fork ≡ letter
                          letter_is = way-is letter left right _ _ left_is right_is (oblige-true ctx ks len true_hyps BranchNotProved (asked letter left right) (at_end.cursor) cursor e₉)

                          with_next : (next : Ref) × (formed_ref (ref_with (at_end.end.args) 0 (nameless_ref [] (proto.params) (on_way letter fork))) ≡ Ok next) × (◌≡◌ {A = Result Followed Why} (Ok (record { end = turned_if (at_end.end.dual) next; cursor = cursor })) (Ok after)) → Stepped (at_end.end) (after.end)
                          with_next (next, e₁₁, e₁₂) = subst (λ z. Stepped (at_end.end) (z.end)) (one_ok e₁₂) (record { proper = turned_proper (at_end.end.dual); goes = goes })
                            where
                              next_is : ref_with (at_end.end.args) 0 (nameless_ref [] (proto.params) (on_way letter fork)) ≡ next
                              next_is = (provided-ok _ TooLarge _ next e₁₁).1

                              known : (l : Letter) → Knows (P.protos) ((on_way l fork).name) (length ((on_way l fork).args))
                              known First = (is_formed.forks (at_end.end.name) proto fork is_proto is_fork).0
                              known Second = (is_formed.forks (at_end.end.name) proto fork is_proto is_fork).1

                              next_proper : ProperRef (P.protos) n 0 next
                              next_proper = subst (ProperRef (P.protos) n 0) next_is (
                                forms_with-proper (P.protos) n (at_end.end.args) args_proper 0 (length (proto.params)) (omega (arith, arity)) (map (nameless_term [] (proto.params)) ((on_way letter fork).args)) (terms-read (P.protos) n [] (omega arith) (length (proto.params)) (proto.params) (omega arith) ((on_way letter fork).args)),
                                subst (λ z. Knows (P.protos) ((on_way letter fork).name) z) (sym (length-map (form_with (at_end.end.args) 0) (map (nameless_term [] (proto.params)) ((on_way letter fork).args)) ∙ length-map (nameless_term [] (proto.params)) ((on_way letter fork).args))) (known letter),
                              )

                              turned_proper : (mark : Bool) → ProperRef (P.protos) n 0 (turned_if mark next)
                              turned_proper true = next_proper
                              turned_proper false = next_proper

                              picked_is : picked (proto.params) (values_of (at_end.end.args)) fork (letter_of (proto.params) (values_of (at_end.end.args)) fork) ≡ end_at next
                              picked_is = ap (picked (proto.params) (values_of (at_end.end.args)) fork) letter_is ∙ sym (ref-put (proto.params) (at_end.end.args) args_proper arity (on_way letter fork)) ∙ ap end_at next_is

                              goes : next_of (P.protos) (end_at (at_end.end)) ≡ Goes (end_at (turned_if (at_end.end.dual) next))
                              goes = ap (next_in (end_at (at_end.end))) is_proto ∙ ap (λ z. next_at (end_at (at_end.end)) (proto.params) z (fork_of (proto.equation))) (no_message proto fork is_fork) ∙ ap (next_at (end_at (at_end.end)) (proto.params) None) is_fork
                                  ∙ ap (λ z. Goes (opposite_if (at_end.end.dual) z)) picked_is ∙ ap Goes (sym (turned-at (at_end.end.dual) next))

  -- ---- a path

  follow-typed : (path : List Letter) (at_end last : Followed) → ProperRef (P.protos) n 0 (at_end.end) → follow (P.protos) ctx path at_end ≡ Ok last → ProperRef (P.protos) n 0 (last.end) × Leads (at_end.end) (last.end)
  unfolding Leads
  follow-typed [] at_end last proper e = subst (λ z. ProperRef (P.protos) n 0 (z.end) × Leads (at_end.end) (z.end)) (one_ok e) (proper, λ m h has. (m, has))
  follow-typed (letter ∷ path) at_end last proper e = go (and_then-ok (follow_letter (P.protos) ctx letter at_end) (follow (P.protos) ctx path) last e) (λ next p e. follow-typed path next last p e)
    where
      go : (next : Followed) × (follow_letter (P.protos) ctx letter at_end ≡ Ok next) × (follow (P.protos) ctx path next ≡ Ok last) → ((next : Followed) → ProperRef (P.protos) n 0 (next.end) → follow (P.protos) ctx path next ≡ Ok last → ProperRef (P.protos) n 0 (last.end) × Leads (next.end) (last.end)) → ProperRef (P.protos) n 0 (last.end) × Leads (at_end.end) (last.end)
      go (next, e₁, e₂) ih = by (letter-typed letter at_end next proper e₁)
        where
          by : Stepped (at_end.end) (next.end) → ProperRef (P.protos) n 0 (last.end) × Leads (at_end.end) (last.end)
          by step = let x = ih next (step.proper) e₂ in (x.0, λ m h has. let y = (x.1) m h has in (suc (y.0), (end_at (next.end), step.goes, y.1)))

  -- ---- the message

  -- the head of an end, whose message the resource is
  pub record HeadTyped (e : Ref) (message : Message) : Type 0 where
    pub m : ℕ
    pub head : Head
    pub has : HasHead (P.protos) m (end_at e) head
    pub direction : head.direction ≡ message.direction
    pub into : (v : Value) (us : List Use) → Has w [] (message.res) v us → Has no_values (head.args) (head.res) v us
    pub out : (v : Value) (us : List Use) → Has no_values (head.args) (head.res) v us → Has w [] (message.res) v us
    pub proper : ProperRes (P.protos) n 0 (message.res)
    pub deep : nest_res (message.res) ≤ deepest

  message-typed : (e : Ref) → ProperRef (P.protos) n 0 e → (message : Message) → message_at (P.protos) e ≡ Ok message → HeadTyped e message
  message-typed e (args_proper, knows) message eq = with_proto (and_then-ok (or_why (proto_named (e.name) (P.protos)) WrongForm) (λ proto.
      and_then (or_why (written_message (proto.equation)) WrongForm) (λ m.
      and_then (formed_res (res_with (e.args) 0 (nameless_res [] (proto.params) m.1))) (λ res.
      Ok (record { direction = turned (e.dual) m.0; res = res })))) message eq)
    where
      with_proto : (proto : Proto) × (or_why (proto_named (e.name) (P.protos)) WrongForm ≡ Ok proto) × (and_then (or_why (written_message (proto.equation)) WrongForm) (λ m.
          and_then (formed_res (res_with (e.args) 0 (nameless_res [] (proto.params) m.1))) (λ res.
          Ok (record { direction = turned (e.dual) m.0; res = res }))) ≡ Ok message) → HeadTyped e message
      with_proto (proto, e₁, e₂) = with_message (and_then-ok (or_why (written_message (proto.equation)) WrongForm) (λ m.
          and_then (formed_res (res_with (e.args) 0 (nameless_res [] (proto.params) m.1))) (λ res.
          Ok (record { direction = turned (e.dual) m.0; res = res }))) message e₂)
        where
          is_proto : proto_named (e.name) (P.protos) ≡ Some proto
          is_proto = or_why-ok _ WrongForm proto e₁

          arity : length (proto.params) ≡ length (e.args)
          arity = sym (knows.2 ∙ ap (λ z. length (z.params)) (one_some (sym (knows.1) ∙ or_why-ok (proto_named (e.name) (P.protos)) WrongForm proto e₁)))

          with_message : (m : Direction × written.Res) × (or_why (written_message (proto.equation)) WrongForm ≡ Ok m) × (and_then (formed_res (res_with (e.args) 0 (nameless_res [] (proto.params) m.1))) (λ res. Ok (record { direction = turned (e.dual) m.0; res = res })) ≡ Ok message) → HeadTyped e message
          with_message (m, e₃, e₄) = with_res (and_then-ok (formed_res (res_with (e.args) 0 (nameless_res [] (proto.params) m.1))) (λ res. Ok (record { direction = turned (e.dual) m.0; res = res })) message e₄)
            where
              is_message : written_message (proto.equation) ≡ Some m
              is_message = or_why-ok _ WrongForm m e₃

              declared : KnowsRes (P.protos) m.1 × (nest_resource m.1 ≤ deepest)
              declared = is_formed.messages (e.name) proto m is_proto is_message

              res : Res
              res = nameless_res [] (proto.params) m.1

              wide_proper : ProperRes (P.protos) n (length (proto.params)) (nameless_res [] (proto.params) m.1)
              wide_proper = res-read (P.protos) n [] (omega arith) (length (proto.params)) (proto.params) (omega arith) m.1 (declared.0)

              closed_proper : ProperRes (P.protos) 0 (length (proto.params)) (nameless_res [] (proto.params) m.1)
              closed_proper = res-read (P.protos) 0 [] (omega arith) (length (proto.params)) (proto.params) (omega arith) m.1 (declared.0)

              opened : ResAlike w w [] (values_of (e.args)) 0 (res_with (e.args) 0 (nameless_res [] (proto.params) m.1)) (nameless_res [] (proto.params) m.1)
              opened = res-open w n (e.args) args_proper (P.protos) 0 (length (proto.params)) (omega (arith, arity)) (nameless_res [] (proto.params) m.1) wide_proper

              unnamed : ResAlike w no_values (values_of (e.args)) (values_of (e.args)) 0 (nameless_res [] (proto.params) m.1) (nameless_res [] (proto.params) m.1)
              unnamed = res-agree w no_values (values_of (e.args)) (values_of (e.args)) 0 (length (proto.params)) (free_none (length (proto.params)) (values_of (e.args))) (P.protos) 0 (length (proto.params)) (omega arith) (nameless_res [] (proto.params) m.1) closed_proper

              with_res : (r : Res) × (formed_res (res_with (e.args) 0 (nameless_res [] (proto.params) m.1)) ≡ Ok r) × (◌≡◌ {A = Result Message Why} (Ok (record { direction = turned (e.dual) m.0; res = r })) (Ok message)) → HeadTyped e message
              with_res (r, e₅, e₆) = subst (HeadTyped e) (one_ok e₆) (subst (λ z. HeadTyped e (record { direction = turned (e.dual) m.0; res = z })) ((provided-ok _ TooLarge (res_with (e.args) 0 (nameless_res [] (proto.params) m.1)) r e₅).1) (record {
                m = 0;
                head = record { direction = turned (e.dual) m.0; res = nameless_res [] (proto.params) m.1; args = values_of (e.args) };
                has = ap (next_in (end_at e)) is_proto ∙ ap (λ z. next_at (end_at e) (proto.params) z (fork_of (proto.equation))) is_message;
                direction = refl;
                into = λ v us h. has-alike w no_values (values_of (e.args)) (values_of (e.args)) 0 (nameless_res [] (proto.params) m.1) (nameless_res [] (proto.params) m.1) [] refl unnamed v us (has-alike w w [] (values_of (e.args)) 0 (res_with (e.args) 0 (nameless_res [] (proto.params) m.1)) (nameless_res [] (proto.params) m.1) [] refl opened v us h);
                out = λ v us h. has-alike w w (values_of (e.args)) [] 0 (nameless_res [] (proto.params) m.1) (res_with (e.args) 0 (nameless_res [] (proto.params) m.1)) [] refl (res-turned w w [] (values_of (e.args)) 0 (res_with (e.args) 0 (nameless_res [] (proto.params) m.1)) (nameless_res [] (proto.params) m.1) opened) v us
                    (has-alike no_values w (values_of (e.args)) (values_of (e.args)) 0 (nameless_res [] (proto.params) m.1) (nameless_res [] (proto.params) m.1) [] refl (res-turned w no_values (values_of (e.args)) (values_of (e.args)) 0 (nameless_res [] (proto.params) m.1) (nameless_res [] (proto.params) m.1) unnamed) v us h);
                proper = res_with-proper (P.protos) n (e.args) args_proper 0 (length (proto.params)) (omega (arith, arity)) (nameless_res [] (proto.params) m.1) wide_proper;
                deep = omega (arith, nest_res-with (e.args) 0 (nameless_res [] (proto.params) m.1), nest_res-read [] (proto.params) m.1, declared.1);
              }))

  pub unfolded-typed : (e : Ref) → ProperRef (P.protos) n 0 e → (path : List Letter) (cursor : Cursor) (found : Unfolded) → unfolded (P.protos) ctx e path cursor ≡ Ok found → HeadTyped e (found.message)
  unfolding Leads
  unfolded-typed e proper path cursor found eq = with_at (and_then-ok (provided (is_path (P.protos) path (e.name)) WrongForm (record { end = e; cursor = cursor })) (λ at_end. and_then (follow (P.protos) ctx path at_end) (λ last. and_then (message_at (P.protos) (last.end)) (λ message. Ok (record { message = message; cursor = last.cursor })))) found eq)
    where
      with_at : (at_end : Followed) × (provided (is_path (P.protos) path (e.name)) WrongForm (record { end = e; cursor = cursor }) ≡ Ok at_end) × (and_then (follow (P.protos) ctx path at_end) (λ last. and_then (message_at (P.protos) (last.end)) (λ message. Ok (record { message = message; cursor = last.cursor }))) ≡ Ok found) → HeadTyped e (found.message)
      with_at (at_end, e₁, e₂) = with_last (and_then-ok (follow (P.protos) ctx path at_end) (λ last. and_then (message_at (P.protos) (last.end)) (λ message. Ok (record { message = message; cursor = last.cursor }))) found e₂)
        where
          is_at : e ≡ at_end.end
          is_at = ap (λ z. z.end) ((provided-ok _ WrongForm (record { end = e; cursor = cursor }) at_end e₁).1)

          with_last : (last : Followed) × (follow (P.protos) ctx path at_end ≡ Ok last) × (and_then (message_at (P.protos) (last.end)) (λ message. Ok (record { message = message; cursor = last.cursor })) ≡ Ok found) → HeadTyped e (found.message)
          with_last (last, e₃, e₄) = with_message (follow-typed path at_end last (subst (ProperRef (P.protos) n 0) is_at proper) e₃) (and_then-ok (message_at (P.protos) (last.end)) (λ message. Ok (record { message = message; cursor = last.cursor })) found e₄)
            where
              with_message : ProperRef (P.protos) n 0 (last.end) × Leads (at_end.end) (last.end) → (message : Message) × (message_at (P.protos) (last.end) ≡ Ok message) × (◌≡◌ {A = Result Unfolded Why} (Ok (record { message = message; cursor = last.cursor })) (Ok found)) → HeadTyped e (found.message)
              with_message (last_proper, leads) (message, e₅, e₆) = subst (λ z. HeadTyped e (z.message)) (one_ok e₆) (made (message-typed (last.end) last_proper message e₅))
                where
                  made : HeadTyped (last.end) message → HeadTyped e message
                  made h = let x = leads (h.m) (h.head) (h.has) in record { m = x.0; head = h.head; has = subst (λ z. HasHead (P.protos) (x.0) (end_at z) (h.head)) (sym is_at) (x.1); direction = h.direction; into = h.into; out = h.out; proper = h.proper; deep = h.deep }

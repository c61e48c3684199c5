-- Forms that compute, choose and take apart fit the uses of their task.
use Rattle.standing_contexts.specs.Places.{Agree, BodyAt, Owed, Pays, PlaceAt, StackAt, Standing, names_of_env}
use Rattle.std.proofs.Common.{◌≡◌, ℕ, zero, suc, ◌+◌, ◌≤◌, ◌<◌, ℤ, pos, negsuc, neg_ℤ, ◌+ℤ◌, ◌-ℤ◌, ◌*ℤ◌, ◌≤ℤ◌, int_le, Bool, true, false, not, ◌||◌, ◌&&◌, if◌then◌else◌, List, [], ◌∷◌, ◌++◌, map, length, append-nil, Option, Some, None, Result, Ok, Err, refl, ap, sym, subst, ◌∙◌, arith}
use Rattle.std.proofs.lemmas.Int.{ints}
use Rattle.core_language.specs.Names.{Name, Ident, same}
use Rattle.core_language.specs.Terms.{Term}
use Rattle.core_language.specs.Operands.{Pat, Proof, Supply}
use Rattle.core_language.specs.Resources.{Proto}
use Rattle.core_language.specs.Programs.{Span, Body, Arms, NoArm, Arm, Program, arm_at}
use Rattle.core_language.specs.Programs as body
use Rattle.core_language.specs.Values.{Value}
use Rattle.core_language.specs.Values as value
use Rattle.core_language.specs.Computing.{unbounded, Done, Env, value_of, sum_of, multiplied}
use Rattle.core_language.specs.Computing as computing
use Rattle.core_language.specs.Configurations.{in_term, names, arms_name, kept, Caller, Place, Ended, Running}
use Rattle.core_language.specs.Acts.{Act, act_at, at, bound, chosen, on_sum}
use Rattle.core_language.specs.Acts as act
use Rattle.graphs.specs.Graph.{count}
use Rattle.graphs.proofs.Counts.{count-append}
use Rattle.outline_language.specs.LinearForms.{LinearForm, constant_form, minus, plus_one, form_at}
use Rattle.outline_language.specs.Nameless.{Shape, Res, Resources, Int, Pair, Sum, NoMore, More}
use Rattle.outline_language.specs.Nameless as shape
use Rattle.outline_language.specs.Contexts.{Why, WrongForm, NotProved, and_then, or_why, provided, nothing, Context, Taken, without, start_of, meaning, oblige, leftovers, take, hold, add_hyp, bind}
use Rattle.outline_language.specs.Giving.{pair_of}
use Rattle.outline_language.specs.Giving as giving
use Rattle.outline_language.specs.Rules.{new_int, rule_if, as_many, bind_arms}
use Rattle.outline_language.specs.Outlined.{OutlinedBody, OutlinedArms}
use Rattle.good_configurations.specs.Ends.{integer_at}
use Rattle.good_configurations.specs.Ends as ends
use Rattle.good_configurations.specs.Values.{Use, Has, HasShape, HasArm}
use Rattle.good_configurations.specs.Uses.{AreSame}
use Rattle.good_configurations.specs.Acts.{Stands, Fits}
use Rattle.outline_values.specs.Proper.{HasEntries, ProperRes, ProperResources, ProperShape}
use Rattle.outline_values.specs.Formed.{NamesAre, NamesBound, ArmsBound}
use Rattle.outline_values.proofs.Answers.{one_ok, err_ok, and_then-ok, provided-ok, or_why-ok, one_some, none_some}
use Rattle.outline_language.proofs.Values.{minus-at, plus_one-at, constant-at}
use Rattle.outline_values.proofs.Proper.{res-more}
use Rattle.given_values.proofs.Obliging.{oblige-true}
use Rattle.given_values.proofs.Entries.{take-typed, TakenAs}
use Rattle.standing_contexts.proofs.Standing.{hyps-true, grow_hyps, grow_entries, other_entries, add_hyp-is, res-moves}
use Rattle.standing_contexts.proofs.Binding.{Grown, bind-typed, new_int-typed}
use Rattle.standing_contexts.proofs.Operands.{either_left, either_right, bound-value, same-self}
use Rattle.standing_contexts.proofs.Places.{goes_on, names-bound, term-typed, term-proper}

module _ (P : Program) (p : Name) (k : ℕ) (env : Env) (callers : List Caller) (F : Env) (owed : Owed) (us vs ws : List Use) (split : AreSame us (vs ++ ws)) (stack : StackAt P callers owed ws)
    (own : Res) (ctx : Context) (ks : List ℤ) (uses : List Use) (alike : AreSame vs uses) (s : Standing (P.protos) owed own ctx ks F uses) where
  abbrev Fit : Body → Type 0
  Fit rest = Fits (P.protos) (PlaceAt P) p k (act_at unbounded P p k rest env callers) us

  abbrev w : ℕ → ℤ
  w = integer_at ks

  -- one more variable, and the rest of the body
  pub one_more : (next : Body) (x : Ident) (v : Value) (after : Context) (more : List ℤ) (used : List Use) → Standing (P.protos) owed own after more (bound F x v) used → AreSame vs used → OutlinedBody P own after next → NamesBound (P.protos) (names_of_env F ++ x ∷ []) next → Agree (names next) env F → Stands (PlaceAt P) (at next (bound env x v) callers) us
  one_more next x v after more used stands same out names agree =
      goes_on P next (bound env x v) (bound F x v) callers owed us vs ws split (λ y e. bound-value env F x v y (agree y e)) (own, after, more, used, out, subst (λ z. NamesBound (P.protos) z next) (sym (names-bound F x v)) names, same, stands) stack

  -- the same variables
  pub no_more : (next : Body) (after : Context) → Standing (P.protos) owed own after ks F uses → OutlinedBody P own after next → NamesBound (P.protos) (names_of_env F) next → Agree (names next) env F → Stands (PlaceAt P) (at next env callers) us
  no_more next after stands out names agree = goes_on P next env F callers owed us vs ws split agree (own, after, ks, uses, out, names, alike, stands) stack

  pub let_fits : (span : Span) (x : Ident) (term : Term) (next : Body) → OutlinedBody P own ctx (body.Let span x term next) → NamesBound (P.protos) (names_of_env F) (body.Let span x term next) → Agree (names (body.Let span x term next)) env F → Fit (body.Let span x term next)
  let_fits span x term next (after, rule, out) (term_names, next_names) agree = go (and_then-ok (meaning ctx term) (λ form. Ok (hold ctx x (Int form))) after rule)
    where
      go : (f : LinearForm) × (meaning ctx term ≡ Ok f) × (◌≡◌ {A = Result Context Why} (Ok (hold ctx x (Int f))) (Ok after)) → Fit (body.Let span x term next)
      go (f, e₁, e₂) = rw (term-typed P owed own ctx ks F uses s env term f term_names (λ y e. agree y (either_left (in_term y term) (names next y) e)) e₁)
          (one_more next x (value.Int (form_at (ends.at w []) f)) (hold ctx x (Int f)) ks (uses ++ []) (grow_entries (P.protos) owed own ctx ks F uses s x (value.Int (form_at (ends.at w []) f)) (Int f) [] (term-proper P owed own ctx ks F uses s term f e₁) (refl, refl)) (λ q. omega (arith, alike q, count-append q uses [])) (subst (λ z. OutlinedBody P own z next) (sym (one_ok e₂)) out) next_names (λ y e. agree y (either_right (in_term y term) (names next y) e)))

  pub print_fits : (span : Span) (term : Term) (next : Body) → OutlinedBody P own ctx (body.Print span term next) → NamesBound (P.protos) (names_of_env F) (body.Print span term next) → Agree (names (body.Print span term next)) env F → Fit (body.Print span term next)
  print_fits span term next (after, rule, out) (term_names, next_names) agree = go (and_then-ok (meaning ctx term) (λ form. Ok ctx) after rule)
    where
      go : (f : LinearForm) × (meaning ctx term ≡ Ok f) × (◌≡◌ {A = Result Context Why} (Ok ctx) (Ok after)) → Fit (body.Print span term next)
      go (f, e₁, e₂) = rw (term-typed P owed own ctx ks F uses s env term f term_names (λ y e. agree y (either_left (in_term y term) (names next y) e)) e₁)
          (no_more next ctx s (subst (λ z. OutlinedBody P own z next) (sym (one_ok e₂)) out) next_names (λ y e. agree y (either_right (in_term y term) (names next y) e)))

  -- a new integer, whatever its hypotheses
  pub mul_fits : (span : Span) (x : Ident) (left right : Term) (next : Body) → OutlinedBody P own ctx (body.Mul span x left right next) → NamesBound (P.protos) (names_of_env F) (body.Mul span x left right next) → Agree (names (body.Mul span x left right next)) env F → Fit (body.Mul span x left right next)
  mul_fits span x left right next (after, rule, out) (left_names, right_names, next_names) agree = go (and_then-ok (meaning ctx left) (λ a. and_then (meaning ctx right) (λ b. new_int ctx x [])) after rule)
    where
      in_left : (y : Ident) → in_term y left ≡ true → names (body.Mul span x left right next) y ≡ true
      in_left y e = either_left (in_term y left || in_term y right) (names next y) (either_left (in_term y left) (in_term y right) e)

      in_right : (y : Ident) → in_term y right ≡ true → names (body.Mul span x left right next) y ≡ true
      in_right y e = either_left (in_term y left || in_term y right) (names next y) (either_right (in_term y left) (in_term y right) e)

      go : (a : LinearForm) × (meaning ctx left ≡ Ok a) × (and_then (meaning ctx right) (λ b. new_int ctx x []) ≡ Ok after) → Fit (body.Mul span x left right next)
      go (a, e₁, e₂) = by (and_then-ok (meaning ctx right) (λ b. new_int ctx x []) after e₂)
        where
          by : (b : LinearForm) × (meaning ctx right ≡ Ok b) × (new_int ctx x [] ≡ Ok after) → Fit (body.Mul span x left right next)
          by (b, e₃, e₄) = rw (term-typed P owed own ctx ks F uses s env left a left_names (λ y e. agree y (in_left y e)) e₁, term-typed P owed own ctx ks F uses s env right b right_names (λ y e. agree y (in_right y e)) e₃)
              (last (new_int-typed (P.protos) owed own ctx ks F uses s x (form_at (ends.at w []) a *ℤ form_at (ends.at w []) b) [] tt after e₄))
            where
              last : (more : List ℤ) × Standing (P.protos) owed own after more (bound F x (value.Int (form_at (ends.at w []) a *ℤ form_at (ends.at w []) b))) uses → Stands (PlaceAt P) (at next (bound env x (value.Int (form_at (ends.at w []) a *ℤ form_at (ends.at w []) b))) callers) us
              last (more, stands) = one_more next x (value.Int (form_at (ends.at w []) a *ℤ form_at (ends.at w []) b)) after more uses stands alike out next_names (λ y e. agree y (either_right (in_term y left || in_term y right) (names next y) e))

  pub if_fits : (span : Span) (left right : Term) (this other : Body) → OutlinedBody P own ctx (body.If span left right this other) → NamesBound (P.protos) (names_of_env F) (body.If span left right this other) → Agree (names (body.If span left right this other)) env F → Fit (body.If span left right this other)
  if_fits span left right this other (both, rule, out) (left_names, right_names, this_names, other_names) agree = go (and_then-ok (meaning ctx left) (λ a. and_then (meaning ctx right) (λ b. and_then (add_hyp ctx (minus a b)) (λ this. and_then (add_hyp ctx (plus_one (minus b a))) (λ other. Ok (this, other))))) both rule)
    where
      in_left : (y : Ident) → in_term y left ≡ true → names (body.If span left right this other) y ≡ true
      in_left y e = either_left ((in_term y left || in_term y right) || names this y) (names other y) (either_left (in_term y left || in_term y right) (names this y) (either_left (in_term y left) (in_term y right) e))

      in_right : (y : Ident) → in_term y right ≡ true → names (body.If span left right this other) y ≡ true
      in_right y e = either_left ((in_term y left || in_term y right) || names this y) (names other y) (either_left (in_term y left || in_term y right) (names this y) (either_right (in_term y left) (in_term y right) e))

      go : (a : LinearForm) × (meaning ctx left ≡ Ok a) × (and_then (meaning ctx right) (λ b. and_then (add_hyp ctx (minus a b)) (λ this. and_then (add_hyp ctx (plus_one (minus b a))) (λ other. Ok (this, other)))) ≡ Ok both) → Fit (body.If span left right this other)
      go (a, e₁, e₂) = by (and_then-ok (meaning ctx right) (λ b. and_then (add_hyp ctx (minus a b)) (λ this. and_then (add_hyp ctx (plus_one (minus b a))) (λ other. Ok (this, other)))) both e₂)
        where
          by : (b : LinearForm) × (meaning ctx right ≡ Ok b) × (and_then (add_hyp ctx (minus a b)) (λ this. and_then (add_hyp ctx (plus_one (minus b a))) (λ other. Ok (this, other))) ≡ Ok both) → Fit (body.If span left right this other)
          by (b, e₃, e₄) = with_this (and_then-ok (add_hyp ctx (minus a b)) (λ this. and_then (add_hyp ctx (plus_one (minus b a))) (λ other. Ok (this, other))) both e₄)
            where
              with_this : (c : Context) × (add_hyp ctx (minus a b) ≡ Ok c) × (and_then (add_hyp ctx (plus_one (minus b a))) (λ other. Ok (c, other)) ≡ Ok both) → Fit (body.If span left right this other)
              with_this (c, e₅, e₆) = with_other (and_then-ok (add_hyp ctx (plus_one (minus b a))) (λ other. Ok (c, other)) both e₆)
                where
                  with_other : (d : Context) × (add_hyp ctx (plus_one (minus b a)) ≡ Ok d) × (◌≡◌ {A = Result (Context × Context) Why} (Ok (c, d)) (Ok both)) → Fit (body.If span left right this other)
                  with_other (d, e₇, e₈) = rw (term-typed P owed own ctx ks F uses s env left a left_names (λ y e. agree y (in_left y e)) e₁, term-typed P owed own ctx ks F uses s env right b right_names (λ y e. agree y (in_right y e)) e₃)
                      (choose (int_le (form_at (ends.at w []) a) (form_at (ends.at w []) b)) refl)
                    where
                      choose : (t : Bool) → int_le (form_at (ends.at w []) a) (form_at (ends.at w []) b) ≡ t → Stands (PlaceAt P) (at (if t then this else other) env callers) us
                      choose true le = no_more this (both.0) (subst (λ z. Standing (P.protos) owed own z ks F uses) (sym (add_hyp-is ctx (minus a b) c e₅) ∙ ap (λ z. z.0) (one_ok e₈)) (grow_hyps (P.protos) owed own ctx ks F uses s (minus a b ∷ []) (omega (arith, ints, le, minus-at (ends.at w []) a b), tt))) (out.0) this_names
                          (λ y e. agree y (either_left ((in_term y left || in_term y right) || names this y) (names other y) (either_right (in_term y left || in_term y right) (names this y) e)))
                      choose false gt = no_more other (both.1) (subst (λ z. Standing (P.protos) owed own z ks F uses) (sym (add_hyp-is ctx (plus_one (minus b a)) d e₇) ∙ ap (λ z. z.1) (one_ok e₈)) (grow_hyps (P.protos) owed own ctx ks F uses s (plus_one (minus b a) ∷ []) (omega (arith, ints, gt, minus-at (ends.at w []) b a, plus_one-at (ends.at w []) (minus b a)), tt))) (out.1) other_names
                          (λ y e. agree y (either_right ((in_term y left || in_term y right) || names this y) (names other y) e))

  pub absurd_fits : (span : Span) (proof : Proof) → OutlinedBody P own ctx (body.Absurd span proof) → Fit (body.Absurd span proof)
  absurd_fits span proof (t, rule, none) = go (and_then-ok (oblige NotProved ctx (constant_form (pos 1)) (start_of proof)) leftovers t rule)
    where
      go : (c : _) × (oblige NotProved ctx (constant_form (pos 1)) (start_of proof) ≡ Ok c) × (leftovers c ≡ Ok t) → ⊥
      go (c, e₁, e₂) = omega (arith, ints, constant-at (ends.at w []) (pos 1), oblige-true ctx ks (s.len) (hyps-true (length (ctx.ints)) (integer_at ks) (ctx.hyps) (s.rows)) NotProved (constant_form (pos 1)) (start_of proof) c e₁)

  pub split_fits : (span : Span) (first second : Pat) (x : Ident) (next : Body) → OutlinedBody P own ctx (body.Split span first second x next) → NamesBound (P.protos) (names_of_env F) (body.Split span first second x next) → Agree (names (body.Split span first second x next)) env F → Fit (body.Split span first second x next)
  split_fits span first second x next (after, rule, out) next_names agree = go (and_then-ok (take ctx x) (λ taken. and_then (or_why (pair_of (taken.shape)) WrongForm) (λ parts. and_then (bind (taken.context) first parts.0) (λ more. bind more second parts.1))) after rule)
    where
      go : (t : Taken) × (take ctx x ≡ Ok t) × (and_then (or_why (pair_of (t.shape)) WrongForm) (λ parts. and_then (bind (t.context) first parts.0) (λ more. bind more second parts.1)) ≡ Ok after) → Fit (body.Split span first second x next)
      go (t, e₁, e₂) = by (take-typed (P.protos) (length (ctx.ints)) w ctx F uses (s.entries) x t e₁) (and_then-ok (or_why (pair_of (t.shape)) WrongForm) (λ parts. and_then (bind (t.context) first parts.0) (λ more. bind more second parts.1)) after e₂)
        where
          by : (t.context ≡ record { ints = ctx.ints; hyps = ctx.hyps; entries = without x (ctx.entries) }) × TakenAs (P.protos) (length (ctx.ints)) w F x (t.shape) (without x (ctx.entries)) uses → (parts : Res × Res) × (or_why (pair_of (t.shape)) WrongForm ≡ Ok parts) × (and_then (bind (t.context) first parts.0) (λ more. bind more second parts.1) ≡ Ok after) → Fit (body.Split span first second x next)
          by (ctx_is, (v, used, rest, at_x, typed, proper, stays, parted)) (parts, e₃, e₄) = with_pair (t.shape) (or_why-ok _ WrongForm parts e₃) typed proper
            where
              after_take : Standing (P.protos) owed own (t.context) ks F rest
              after_take = subst (λ z. Standing (P.protos) owed own z ks F rest) (sym ctx_is) (other_entries (P.protos) owed own ctx ks F uses s (without x (ctx.entries)) rest stays)

              ints_same : length (t.context.ints) ≡ length (ctx.ints)
              ints_same = ap (λ z. length (z.ints)) ctx_is

              at_env : value_of env x ≡ Some v
              at_env = agree x (either_left (same x x) (names next x) (same-self x)) ∙ at_x

              with_pair : (sh : Shape) → pair_of sh ≡ Some parts → HasShape w [] sh v used → ProperShape (P.protos) (length (ctx.ints)) 0 sh → Fit (body.Split span first second x next)
              with_pair (Pair r q) is (a, b, us₁, us₂, v_is, us_is, has_a, has_b) proper =
                  rw (at_env ∙ ap Some v_is) (first_bound (and_then-ok (bind (t.context) first parts.0) (λ more. bind more second parts.1) after e₄))
                where
                  r_is : parts.0 ≡ r
                  r_is = ap (λ z. z.0) (sym (one_some is))

                  q_is : parts.1 ≡ q
                  q_is = ap (λ z. z.1) (sym (one_some is))

                  first_bound : (more : Context) × (bind (t.context) first parts.0 ≡ Ok more) × (bind more second parts.1 ≡ Ok after) → Stands (PlaceAt P) (at next (bound (bound env (first.name) a) (second.name) b) callers) us
                  first_bound (more, e₅, e₆) = second_bound (bind-typed (P.protos) owed own (t.context) ks F rest after_take first parts.0 (subst (λ z. ProperRes (P.protos) z 0 parts.0) (sym ints_same) (subst (ProperRes (P.protos) (length (ctx.ints)) 0) (sym r_is) (proper.0))) a us₁ (subst (λ z. Has w [] z a us₁) (sym r_is) has_a) more e₅)
                    where
                      second_bound : (ks' : List ℤ) × Grown (t.context) ks more ks' × Standing (P.protos) owed own more ks' (bound F (first.name) a) (rest ++ us₁) → Stands (PlaceAt P) (at next (bound (bound env (first.name) a) (second.name) b) callers) us
                      second_bound (ks', grown, stands) = last (bind-typed (P.protos) owed own more ks' (bound F (first.name) a) (rest ++ us₁) stands second parts.1 (res-more (P.protos) (length (ctx.ints)) (length (more.ints)) (omega (arith, grown.longer, ints_same)) 0 parts.1 proper_q) b us₂
                          (res-moves (P.protos) (length (ctx.ints)) (length (more.ints)) (omega (arith, grown.longer, ints_same)) w (integer_at ks') (λ i lt. grown.agrees i (omega (arith, lt, ints_same))) parts.1 proper_q b us₂ (subst (λ z. Has w [] z b us₂) (sym q_is) has_b)) after e₆)
                        where
                          proper_q : ProperRes (P.protos) (length (ctx.ints)) 0 parts.1
                          proper_q = subst (ProperRes (P.protos) (length (ctx.ints)) 0) (sym q_is) (proper.1)

                          last : (ks'' : List ℤ) × Grown more ks' after ks'' × Standing (P.protos) owed own after ks'' (bound (bound F (first.name) a) (second.name) b) ((rest ++ us₁) ++ us₂) → Stands (PlaceAt P) (at next (bound (bound env (first.name) a) (second.name) b) callers) us
                          last (ks'', grown', stands') =
                              goes_on P next (bound (bound env (first.name) a) (second.name) b) (bound (bound F (first.name) a) (second.name) b) callers owed us vs ws split
                              (λ y e. bound-value (bound env (first.name) a) (bound F (first.name) a) (second.name) b y (bound-value env F (first.name) a y (agree y (either_right (same y x) (names next y) e)))) (
                                own,
                                after,
                                ks'',
                                (rest ++ us₁) ++ us₂,
                                out,
                                subst (λ z. NamesBound (P.protos) z next) (sym (names-bound (bound F (first.name) a) (second.name) b ∙ ap (λ z. z ++ second.name ∷ []) (names-bound F (first.name) a))) next_names,
                                (λ q. omega (arith, alike q, parted q, count-append q used rest, ap (count q) us_is, count-append q us₁ us₂, count-append q (rest ++ us₁) us₂, count-append q rest us₁)),
                                stands',
                              ) stack
              with_pair shape.Unit is typed proper = none_some is
              with_pair (Int f) is typed proper = none_some is
              with_pair (shape.End e) is typed proper = none_some is
              with_pair (Sum rs) is typed proper = none_some is

-- What becomes of the values of a frame.
use Rattle.std.proofs.Common.{◌≡◌, suc, Bool, true, false, cond, not, ◌&&◌, ◌||◌, List, [], ◌∷◌, ◌++◌, length, Some, None, ⊎_elim, refl, sym, ap, ◌∙◌, true≢false}
use Rattle.std.specs.List.{list_any}
use Rattle.std.proofs.lemmas.Bool.{cases_Bool, or_right}
use Rattle.core_language.specs.Names.{Ident, same}
use Rattle.core_language.specs.Operands.{Supply}
use Rattle.core_language.specs.Programs.{Body, Arms, Param}
use Rattle.core_language.specs.Programs as body
use Rattle.core_language.specs.Values.{Value}
use Rattle.core_language.specs.Computing.{Limits, Computed, Done, Sticks, Halts, and_then, Env, value_of, supplied, all_supplied}
use Rattle.core_language.specs.Configurations.{in_term, in_supply, in_supplies, names, arms_name, kept}
use Rattle.core_language.specs.Acts.{bound, params_env}
use Rattle.frame_laws.specs.Needs.{needs, arms_need}
use Rattle.frame_laws.specs.Fits.{HasValue}
use Rattle.frame_laws.proofs.Tests.{same_is, past, or_more}

-- ---- values of variables

first_or : (b : Ident × Value) (env : Env) (x : Ident) → (same b.0 x ≡ false → HasValue env x) → HasValue (b ∷ env) x
first_or b env x more = by (same b.0 x) refl
  where
    by : (t : Bool) → same b.0 x ≡ t → (v : Value) × (cond t (Some b.1) (value_of env x) ≡ Some v)
    by true is = (b.1, refl)
    by false is = more is

not_first : (b : Ident × Value) (env : Env) (x : Ident) → same b.0 x ≡ false → HasValue (b ∷ env) x → HasValue env x
not_first b env x other (v, is) = (v, sym (ap (λ t. cond t (Some b.1) (value_of env x)) other) ∙ is)

in_front : (env more : Env) (x : Ident) → HasValue env x → HasValue (env ++ more) x
in_front [] more x (v, is) = cc
in_front (b ∷ env) more x has = first_or b (env ++ more) x (λ other. in_front env more x (not_first b env x other has))

at_end : (env : Env) (y : Ident) (v : Value) (x : Ident) → same y x ≡ true → HasValue (bound env y v) x
at_end [] y v x is = (v, ap (λ t. cond t (Some v) None) is)
at_end (b ∷ env) y v x is = first_or b (bound env y v) x (λ other. at_end env y v x is)

-- one more variable, or one that had a value
pub bound_value : (env : Env) (y : Ident) (v : Value) (x : Ident) → (same y x ≡ false → HasValue env x) → HasValue (bound env y v) x
bound_value env y v x more = ⊎_elim (λ is. at_end env y v x is) (λ other. in_front env ((y, v) ∷ []) x (more other)) (cases_Bool (same y x))

kept_or : (t : Bool) (b : Ident × Value) (env : Env) (x : Ident) → (same b.0 x ≡ true → t ≡ true) → (same b.0 x ≡ false → HasValue env x) → HasValue (cond t (b ∷ env) env) x
kept_or true b env x must more = first_or b env x more
kept_or false b env x must more = ⊎_elim (λ is. absurd (true≢false (sym (must is)))) more (cases_Bool (same b.0 x))

-- a frame keeps what its body still names
pub kept_value : (next : Body) (env : Env) (x : Ident) → names next x ≡ true → HasValue env x → HasValue (kept next env) x
kept_value next [] x named has = has
kept_value next (b ∷ env) x named has =
    kept_or (names next b.0) b (kept next env) x (λ is. ap (names next) (same_is b.0 x is) ∙ named) (λ other. kept_value next env x named (not_first b env x other has))

-- each parameter has a value
pub param_value : (ps : List Param) (vs : List Value) (x : Ident) → length ps ≡ length vs → list_any (λ (p : Param). same p.name x) ps ≡ true → HasValue (params_env ps vs) x
param_value [] vs x many among = cc
param_value (p ∷ ps) [] x many among = cc
param_value (p ∷ ps) (v ∷ vs) x many among =
    let fewer : length ps ≡ length vs = cc in
    first_or (p.name, v) (params_env ps vs) x (λ other. param_value ps vs x fewer (sym (ap (λ t. t || list_any (λ (q : Param). same q.name x) ps) other) ∙ among))

-- there are as many values as supplies
pub supplied_length : (limits : Limits) (env : Env) (ss : List Supply) (vs : List Value) → all_supplied limits env ss ≡ Done vs → length vs ≡ length ss
supplied_length limits env [] vs is = let none : [] ≡ vs = cc in sym (ap length none)
supplied_length limits env (s ∷ ss) vs is = by (supplied limits env s) (all_supplied limits env ss) (supplied_length limits env ss) is
  where
    by : (c : Computed Value) (d : Computed (List Value)) → ((us : List Value) → d ≡ Done us → length us ≡ length ss)
        → and_then c (λ v. and_then d (λ us. Done (v ∷ us))) ≡ Done vs → length vs ≡ suc (length ss)
    by (Done v) (Done us) more is = let made : v ∷ us ≡ vs = cc in sym (ap length made) ∙ ap suc (more us refl)
    by (Done v) (Sticks why) more is = cc
    by (Done v) (Halts why) more is = cc
    by (Sticks why) d more is = cc
    by (Halts why) d more is = cc

-- ---- what a body needs it names

unbound : (named : Bool) (more bound : Bool) → (more ≡ true → named ≡ true) → more && not bound ≡ true → named ≡ true
unbound named more bound go is = past more bound (λ need other. go need) is

-- what is needed here or in one of two bodies
two : (here this other said told : Bool) → (this ≡ true → said ≡ true) → (other ≡ true → told ≡ true) → here || (this || other) ≡ true → here || said || told ≡ true
two true this other said told first second is = refl
two false true other said told first second is = ap (λ t. t || told) (first refl)
two false false other true told first second is = refl
two false false other false told first second is = second is

-- what is needed in the first of two or in the other
both_more : (a b c d : Bool) → (a ≡ true → c ≡ true) → (b ≡ true → d ≡ true) → a || b ≡ true → c || d ≡ true
both_more true b c d first second is = ap (λ t. t || d) (first refl)
both_more false b c d first second is = or_right c d (second is)

mutual
  pub needed_named : (here : Body) (x : Ident) → needs here x ≡ true → names here x ≡ true
  needed_named (body.Let span y term next) x = or_more (in_term x term) _ (names next x) (unbound (names next x) (needs next x) (same y x) (needed_named next x))
  needed_named (body.Mul span y left right next) x =
      or_more (in_term x left || in_term x right) _ (names next x) (unbound (names next x) (needs next x) (same y x) (needed_named next x))
  needed_named (body.Div span y term divisor next) x = or_more (in_term x term) _ (names next x) (unbound (names next x) (needs next x) (same y x) (needed_named next x))
  needed_named (body.Rem span y term divisor next) x = or_more (in_term x term) _ (names next x) (unbound (names next x) (needs next x) (same y x) (needed_named next x))
  needed_named (body.Call span pat func values proof next) x =
      or_more (in_supplies x values) _ (names next x) (unbound (names next x) (needs next x) (same pat.name x) (needed_named next x))
  needed_named (body.Tail span func values proof) x = λ is. is
  needed_named (body.Fork span y proto func values proof next) x =
      or_more (in_supplies x values) _ (names next x) (unbound (names next x) (needs next x) (same y x) (needed_named next x))
  needed_named (body.Send1 span channel path value proof next) x = or_more (same x channel || in_supply x value) _ (names next x) (needed_named next x)
  needed_named (body.Recv1 span pat channel path proof next) x =
      or_more (same x channel) _ (names next x) (unbound (names next x) (needs next x) (same pat.name x) (needed_named next x))
  needed_named (body.Print span term next) x = or_more (in_term x term) _ (names next x) (needed_named next x)
  needed_named (body.If span left right this other) x =
      two (in_term x left || in_term x right) (needs this x) (needs other x) (names this x) (names other x) (needed_named this x) (needed_named other x)
  needed_named (body.Split span first second y next) x =
      or_more (same x y) _ (names next x) (unbound (names next x) (needs next x) (same first.name x || same second.name x) (needed_named next x))
  needed_named (body.Match span y arms) x = or_more (same x y) _ (arms_name arms x) (arms_needed_named arms x)
  needed_named (body.Absurd span proof) x = λ is. is
  needed_named (body.Ret span value proof) x = λ is. is

  arms_needed_named : (arms : Arms) (x : Ident) → arms_need arms x ≡ true → arms_name arms x ≡ true
  arms_needed_named body.NoArm x = λ is. is
  arms_needed_named (body.Arm pat next more) x =
      both_more (needs next x && not (same pat.name x)) (arms_need more x) (names next x) (arms_name more x)
      (unbound (names next x) (needs next x) (same pat.name x) (needed_named next x)) (arms_needed_named more x)

-- The rows that letters ask for, and the certificates that are tried on them.
use Rattle.std.proofs.Common.{◌≡◌, ℕ, suc, Bool, true, false, if◌then◌else◌, not, List, [], ◌∷◌, ◌++◌, All, map, find, length, option_to_list, None, Ok, Err, refl, sym, ◌∙◌, ap, subst, arith}
use Rattle.std.specs.List.{list_any}
use Rattle.std.proofs.Math.Bool.{false≢true}
use Rattle.std.proofs.lemmas.List.{length-map}
use Rattle.std.proofs.lemmas.List.Elements.{All-nil, All-cons, All-head, All-tail}
use Rattle.core_language.specs.Names.{Ident, same}
use Rattle.core_language.specs.Terms.{Term}
use Rattle.core_language.specs.Operands.{First, Second}
use Rattle.core_language.specs.Operands as operand
use Rattle.farkas_check.specs.Certificates.{faults, verdict}
use Rattle.farkas_check.specs.declared.cert.Row.{Row}
use Rattle.farkas_check.specs.declared.cert.Mention.{Mention}
use Rattle.farkas_check.specs.declared.cert.Cert.{Cert}
use Rattle.farkas_check.specs.declared.cert.CertFault.{CertFault}
use Rattle.linear_forms.specs.Terms.{IntVar, IntNames, normal_form, put_of, negated, less}
use Rattle.linear_forms.specs.Normal.{row_fits, names_of, is_int, not_int, within_64_bits, normal_of, normal_if}
use Rattle.linear_forms.specs.Normal as form
use Rattle.linear_forms.specs.Substitution.{Each, Fits, IsNormalPut}
use Rattle.linear_forms.proofs.Shorts.{all_left, all_right}
use Rattle.chan_syntax.specs.Bounds.{mention_in, cert_in}
use Rattle.chan_syntax.specs.Reading.{term_of, cert_of}
use Rattle.chan_syntax.specs.declared.linear.Term as written
use Rattle.chan_syntax.specs.declared.operands.WrittenCert.{WrittenCert}
use Rattle.outline_rules.specs.Naming.{int_names_of}
use Rattle.outline_rules.specs.declared.naming.IntNames as context
use Rattle.protocols.specs.Unfolding.{asked_term, NamesOnly, taken, BranchNotProved}
use Rattle.outline_language.specs.Contexts.{mentioned}

-- ---- names of what is asked

all_append : {X : Type 0} (P : X → Type 0) (xs ys : List X) → All P xs → All P ys → All P (xs ++ ys)
all_append P [] ys h k = k
all_append P (x ∷ xs) ys h k = All-cons P x (xs ++ ys) (All-head P x xs h) (all_append P xs ys (All-tail P x xs h) k)

names_both : (P : Ident → Type 0) (t u : Term) → All P (names_of t) → All P (names_of u) → All P (names_of (t ++ u))
names_both P [] u h k = k
names_both P (p ∷ ps) u h k =
    all_append P (option_to_list p.name) (names_of (ps ++ u)) (all_left P (option_to_list p.name) (names_of ps) h) (names_both P ps u (all_right P (option_to_list p.name) (names_of ps) h) k)

names_turned : (u : Term) → names_of (map negated u) ≡ names_of u
names_turned [] = refl
names_turned (p ∷ ps) = ap (λ l. option_to_list p.name ++ l) (names_turned ps)

names_less : (P : Ident → Type 0) (t u : Term) → All P (names_of t) → All P (names_of u) → All P (names_of (less t u))
names_less P t u h k = names_both P t (map negated u) h (subst (All P) (sym (names_turned u)) k)

names_asked : (P : Ident → Type 0) (letter : operand.Letter) (left right : Term) → All P (names_of left) → All P (names_of right) → All P (names_of (asked_term letter left right))
names_asked P First left right h k = names_less P left right h k
names_asked P Second left right h k = names_less P right left k h

param_is_int : (ints params : List Ident) (args : List Term) (x : Ident) → length args ≡ length params → list_any (λ p. same p x) params ≡ true → is_int (record { ints = ints; vars = put_of params args }) x ≡ true
param_is_int ints [] args x l m = absurd (false≢true m)
param_is_int ints (p ∷ ps) [] x l m = absurd (omega (arith, l))
param_is_int ints (p ∷ ps) (t ∷ ts) x l m = pick (same p x) refl (λ k. param_is_int ints ps ts x (omega (arith, l)) k)
  where
    pick : (b : Bool) → same p x ≡ b → (list_any (λ q. same q x) ps ≡ true → is_int (record { ints = ints; vars = put_of ps ts }) x ≡ true) → is_int (record { ints = ints; vars = put_of (p ∷ ps) (t ∷ ts) }) x ≡ true
    pick true q again = rw q refl
    pick false q again = let later : list_any (λ q. same q x) ps ≡ true = rw q at m in rw q (again later)

none_found : (f : Ident → Bool) (xs : List Ident) → All (λ x. f x ≡ true) xs → find (λ x. not (f x)) xs ≡ None
none_found f [] h = refl
none_found f (x ∷ xs) h = let here : f x ≡ true = All-head (λ x. f x ≡ true) x xs h in rw here (none_found f xs (All-tail (λ x. f x ≡ true) x xs h))

all_to : {X : Type 0} (P Q : X → Type 0) (xs : List X) → ((x : X) → P x → Q x) → All P xs → All Q xs
all_to P Q [] f h = All-nil Q
all_to P Q (x ∷ xs) f h = All-cons Q x xs (f x (All-head P x xs h)) (all_to P Q xs f (All-tail P x xs h))

asked_is_int : (ints params : List Ident) (args : List Term) (letter : operand.Letter) (left right : Term) → length args ≡ length params → NamesOnly params left → NamesOnly params right → not_int (record { ints = ints; vars = put_of params args }) (asked_term letter left right) ≡ None
asked_is_int ints params args letter left right l h k =
    let names : IntNames = record { ints = ints; vars = put_of params args } in
    none_found (is_int names) (names_of (asked_term letter left right)) (all_to (λ x. list_any (λ p. same p x) params ≡ true) (λ x. is_int names x ≡ true) (names_of (asked_term letter left right)) (λ x m. param_is_int ints params args x l m) (names_asked (λ x. list_any (λ p. same p x) params ≡ true) letter left right h k))

never : (row : Row) (x : Ident) → within_64_bits row ≡ Err (form.NotInt x) → ⊥
never row x e = pick (row_fits row) e
  where
    pick : (b : Bool) → (if b then Ok row else Err form.TooLarge) ≡ Err (form.NotInt x) → ⊥
    pick true f = absurd cc
    pick false f = absurd cc

-- a term whose names are integers has no fault of a name
pub never_unknown : (names : IntNames) (term : Term) (x : Ident) → not_int names term ≡ None → normal_of names term ≡ Err (form.NotInt x) → ⊥
never_unknown names term x ints e = never (normal_form names term) x (sym (ap (λ o. normal_if o (normal_form names term)) ints) ∙ e)

-- each name of what is asked is an integer
pub all_known : (names : context.IntNames) (term : written.Term) (ints params : List Ident) (args : List Term) (letter : operand.Letter) (left right : Term) → int_names_of names ≡ record { ints = ints; vars = put_of params args } → length args ≡ length params → term_of term ≡ asked_term letter left right → NamesOnly params left → NamesOnly params right → not_int (int_names_of names) (term_of term) ≡ None
all_known names term ints params args letter left right is l asked h k =
    subst (λ (t : Term). not_int (int_names_of names) t ≡ None) (sym asked)
    (subst (λ (known : IntNames). not_int known (asked_term letter left right) ≡ None) (sym is) (asked_is_int ints params args letter left right l h k))

-- the row of what is asked
pub row_asked : (names : context.IntNames) (term : written.Term) (ints : List Ident) (put : List IntVar) (letter : operand.Letter) (left right : Term) → int_names_of names ≡ record { ints = ints; vars = put } → term_of term ≡ asked_term letter left right → normal_form (int_names_of names) (term_of term) ≡ normal_form (record { ints = ints; vars = put }) (asked_term letter left right)
row_asked names term ints put letter left right is asked =
    ap (λ (known : IntNames). normal_form known (term_of term)) is ∙ ap (normal_form (record { ints = ints; vars = put })) asked

pub as_many : (args : List written.Term) (params : List Ident) → length args ≡ length params → length (map term_of args) ≡ length params
as_many args params l = rw (length-map args term_of) l

-- ---- the terms of an equation

two_fit : (put : List IntVar) (us : List Term) (l r : Term) → Each (IsNormalPut put [] []) (l ∷ r ∷ []) us → Fits put [] l × Fits put [] r
two_fit put [] l r h = absurd h
two_fit put (u ∷ []) l r h = absurd h.1
two_fit put (u ∷ v ∷ vs) l r h = (h.0.fits, h.1.0.fits)

pub terms_fit : (put : List IntVar) (ts us : List Term) (l r : Term) → ts ≡ l ∷ r ∷ [] → Each (IsNormalPut put [] []) ts us → Fits put [] l × Fits put [] r
terms_fit put ts us l r e each = two_fit put us l r (subst (λ (xs : List Term). Each (IsNormalPut put [] []) xs us) e each)

pub terms_too_large : (put : List IntVar) (ts : List Term) (l r : Term) → ts ≡ l ∷ r ∷ [] → (All (Fits put []) ts → ⊥) → Fits put [] l → Fits put [] r → ⊥
terms_too_large put ts l r e none fit_l fit_r =
    none (subst (λ (xs : List Term). All (Fits put []) xs) (sym e) (All-cons (Fits put []) l (r ∷ []) fit_l (All-cons (Fits put []) r [] fit_r (All-nil (Fits put [])))))

-- ---- certificates

mentions_back : (ms : List Mention) → map mentioned (map mention_in ms) ≡ ms
mentions_back [] = refl
mentions_back (m ∷ ms) = ap (λ l. m ∷ l) (mentions_back ms)

verdict_is : (cert : Cert) (written : WrittenCert) (hyps : List Row) (row : Row) → cert_in cert ≡ cert_of written → verdict (faults (cert_of written).divisor (map mentioned (cert_of written).mentions) hyps row) ≡ verdict (faults cert.divisor cert.mentions hyps row)
verdict_is cert written hyps row e =
    ap (λ (c : operand.Cert). verdict (faults c.divisor (map mentioned c.mentions) hyps row)) (sym e) ∙ ap (λ (ms : List Mention). verdict (faults cert.divisor ms hyps row)) (mentions_back cert.mentions)

pub taken_ok : (used more : ℕ) (cert : Cert) (written : WrittenCert) (hyps : List Row) (row : Row) (x : Unit {0}) → cert_in cert ≡ cert_of written → Ok x ≡ verdict (faults cert.divisor cert.mentions hyps row) → more ≡ suc used → taken used (verdict (faults (cert_of written).divisor (map mentioned (cert_of written).mentions) hyps row)) ≡ Ok more
taken_ok used more cert written hyps row x e v m = ap (taken used) (verdict_is cert written hyps row e ∙ sym v) ∙ ap Ok (sym m)

pub taken_err : (used : ℕ) (cert : Cert) (written : WrittenCert) (hyps : List Row) (row : Row) (fault : CertFault) → cert_in cert ≡ cert_of written → Err fault ≡ verdict (faults cert.divisor cert.mentions hyps row) → taken used (verdict (faults (cert_of written).divisor (map mentioned (cert_of written).mentions) hyps row)) ≡ Err (BranchNotProved used fault)
taken_err used cert written hyps row fault e v = ap (taken used) (verdict_is cert written hyps row e ∙ sym v)

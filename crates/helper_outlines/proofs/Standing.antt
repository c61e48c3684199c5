-- Rows that are shown one after another, each by the hypothesis that it is.
use Rattle.std.proofs.Common.{◌≡◌, ℕ, suc, ◌+◌, Bool, true, false, if◌then◌else◌, pos, List, [], ◌∷◌, ◌++◌, length, map, slice_get, Option, Some, None, Result, Ok, refl, sym, ap, ◌∙◌, subst, append_assoc}
use Rattle.farkas_check.specs.declared.cert.Row.{Row}
use Rattle.farkas_check.specs.declared.cert.CertFault.{CertFault}
use Rattle.farkas_check.specs.Certificates.{faults, verdict}
use Rattle.core_language.specs.Operands.{Cert, Proof}
use Rattle.outline_language.specs.LinearForms.{LinearForm}
use Rattle.outline_language.specs.Contexts.{Why, NotProved, CertCount, Context, Cursor, or_why, and_then, asks_nothing, mentioned, tried, shown, row_shown, row_formed, oblige, oblige_all}
use Rattle.helper_outlines.specs.Helpers.{hypothesis, hypotheses_from, AreRows}
use Rattle.helper_outlines.proofs.Steps.{chain, there}
use Rattle.helper_outlines.proofs.Certificates.{at_length, shows_itself}

pub length_more : {A : Type 0} (xs : List A) (x : A) → length (xs ++ x ∷ []) ≡ suc (length xs)
length_more [] x = refl
length_more (y ∷ xs) x = ap suc (length_more xs x)

-- so many certificates were taken, and the next ones are those of the hypotheses behind the rows that were shown
pub record Standing (hyps : List Row) (certs : List Cert) (rows : List Row) (used : ℕ) : Type 0 where
  pub done : List Row
  pub before : List Cert
  pub hyps_are : hyps ≡ done ++ rows
  pub certs_are : certs ≡ before ++ hypotheses_from (length done) rows
  pub used_is : used ≡ length before

abbrev pub cursor_at : Proof → (instance cert : ℕ) → Cursor
cursor_at proof instance cert = record { proof = proof; instance = instance; cert = cert }

-- a certificate that is valid is taken
pub cert_taken : (refused : ℕ → CertFault → Why) (hyps : List Row) (row : Row) (proof : Proof) (instance used i : ℕ)
    → slice_get proof.certs used ≡ Some (hypothesis i)
    → verdict (faults 1 (record { factor = pos 1; index = i } ∷ []) hyps row) ≡ Ok tt
    → shown refused hyps row (cursor_at proof instance used) ≡ Ok (cursor_at proof instance (suc used))
cert_taken refused hyps row proof instance used i cert valid =
    chain (or_why (slice_get proof.certs used) CertCount) (λ c. tried refused (cursor_at proof instance used) (verdict (faults c.divisor (map mentioned c.mentions) hyps row)))
    (hypothesis i) (cursor_at proof instance (suc used)) (there (slice_get proof.certs used) CertCount (hypothesis i) cert)
    (ap (tried refused (cursor_at proof instance used)) valid)

-- what showing a row comes to
abbrev pub Shows : (ℕ → CertFault → Why) → List Row → Proof → ℕ → ℕ → Row → List Row → Type 0
Shows refused hyps proof instance used row rest =
    (next : ℕ) × (row_shown refused hyps row (cursor_at proof instance used) ≡ Ok (cursor_at proof instance next)) × Standing hyps proof.certs rest next

pub shows_next : (refused : ℕ → CertFault → Why) (hyps : List Row) (proof : Proof) (instance used : ℕ) (row : Row) (rest : List Row)
    → Standing hyps proof.certs (row ∷ rest) used → Shows refused hyps proof instance used row rest
shows_next refused hyps proof instance used row rest s = by_cases (asks_nothing row) refl
  where
    hyps_more : hyps ≡ (s.done ++ row ∷ []) ++ rest
    hyps_more = s.hyps_are ∙ sym (append_assoc s.done (row ∷ []) rest)

    certs_by : (b : Bool) → asks_nothing row ≡ b
        → proof.certs ≡ s.before ++ (if b then hypotheses_from (suc (length s.done)) rest else (hypothesis (length s.done) ∷ hypotheses_from (suc (length s.done)) rest))
    certs_by b is = s.certs_are ∙ ap (λ c. s.before ++ (if c then hypotheses_from (suc (length s.done)) rest else (hypothesis (length s.done) ∷ hypotheses_from (suc (length s.done)) rest))) is

    behind : (cs : List Cert) → proof.certs ≡ cs ++ hypotheses_from (suc (length s.done)) rest → proof.certs ≡ cs ++ hypotheses_from (length (s.done ++ row ∷ [])) rest
    behind cs are = are ∙ ap (λ n. cs ++ hypotheses_from n rest) (sym (length_more s.done row))

    by_cases : (b : Bool) → asks_nothing row ≡ b → Shows refused hyps proof instance used row rest
    by_cases true is = (
      used,
      ap (λ c. if c then Ok (cursor_at proof instance used) else shown refused hyps row (cursor_at proof instance used)) is,
      record {
        done = s.done ++ row ∷ [];
        before = s.before;
        hyps_are = hyps_more;
        certs_are = behind s.before (certs_by true is);
        used_is = s.used_is;
      },
    )
    by_cases false is =
        let here : slice_get proof.certs used ≡ Some (hypothesis (length s.done)) = ap (λ cs. slice_get cs used) (certs_by false is) ∙ ap (slice_get (s.before ++ hypothesis (length s.done) ∷ hypotheses_from (suc (length s.done)) rest)) s.used_is ∙ at_length s.before (hypothesis (length s.done)) (hypotheses_from (suc (length s.done)) rest) in
        let valid : verdict (faults 1 (record { factor = pos 1; index = length s.done } ∷ []) hyps row) ≡ Ok tt = ap (λ hs. verdict (faults 1 (record { factor = pos 1; index = length s.done } ∷ []) hs row)) s.hyps_are ∙ shows_itself s.done row rest in (
          suc used,
          ap (λ c. if c then Ok (cursor_at proof instance used) else shown refused hyps row (cursor_at proof instance used)) is ∙ cert_taken refused hyps row proof instance used (length s.done) here valid,
          record {
            done = s.done ++ row ∷ [];
            before = s.before ++ hypothesis (length s.done) ∷ [];
            hyps_are = hyps_more;
            certs_are = behind (s.before ++ hypothesis (length s.done) ∷ []) (certs_by false is ∙ sym (append_assoc s.before (hypothesis (length s.done) ∷ []) (hypotheses_from (suc (length s.done)) rest)));
            used_is = ap suc s.used_is ∙ sym (length_more s.before (hypothesis (length s.done)));
          },
        )

-- ---- obligations

pub obliges : (refused : ℕ → CertFault → Why) (ctx : Context) (form : LinearForm) (proof : Proof) (instance used : ℕ) (row : Row) (rest : List Row)
    → row_formed (length ctx.ints) form ≡ Ok row → Standing ctx.hyps proof.certs (row ∷ rest) used
    → (next : ℕ) × (oblige refused ctx form (cursor_at proof instance used) ≡ Ok (cursor_at proof instance next)) × Standing ctx.hyps proof.certs rest next
obliges refused ctx form proof instance used row rest formed s = after (shows_next refused ctx.hyps proof instance used row rest s)
  where
    after : Shows refused ctx.hyps proof instance used row rest
        → (next : ℕ) × (oblige refused ctx form (cursor_at proof instance used) ≡ Ok (cursor_at proof instance next)) × Standing ctx.hyps proof.certs rest next
    after (next, is, standing) =
        (next, chain (row_formed (length ctx.ints) form) (λ r. row_shown refused ctx.hyps r (cursor_at proof instance used)) row (cursor_at proof instance next) formed is, standing)

abbrev pub ObligesAll : Context → List LinearForm → Proof → ℕ → ℕ → List Row → Type 0
ObligesAll ctx forms proof instance used more =
    (next : ℕ) × (oblige_all ctx forms (cursor_at proof instance used) ≡ Ok (cursor_at proof instance next)) × Standing ctx.hyps proof.certs more next

pub obliges_all : (ctx : Context) (forms : List LinearForm) (rows more : List Row) (proof : Proof) (instance used : ℕ)
    → AreRows (length ctx.ints) forms rows → Standing ctx.hyps proof.certs (rows ++ more) used → ObligesAll ctx forms proof instance used more
obliges_all ctx [] [] more proof instance used are s = (used, refl, s)
obliges_all ctx [] (r ∷ rs) more proof instance used are s = absurd are
obliges_all ctx (f ∷ fs) [] more proof instance used are s = absurd are
obliges_all ctx (f ∷ fs) (r ∷ rs) more proof instance used (is, are) s = after (λ middle standing. obliges_all ctx fs rs more proof instance middle are standing) (obliges NotProved ctx f proof instance used r (rs ++ more) is s)
  where
    rest_of : (middle : ℕ) → oblige NotProved ctx f (cursor_at proof instance used) ≡ Ok (cursor_at proof instance middle) → ObligesAll ctx fs proof instance middle more → ObligesAll ctx (f ∷ fs) proof instance used more
    rest_of middle first (next, is_next, standing) =
        (next, chain (oblige NotProved ctx f (cursor_at proof instance used)) (oblige_all ctx fs) (cursor_at proof instance middle) (cursor_at proof instance next) first is_next, standing)

    after : ((middle : ℕ) → Standing ctx.hyps proof.certs (rs ++ more) middle → ObligesAll ctx fs proof instance middle more)
        → (next : ℕ) × (oblige NotProved ctx f (cursor_at proof instance used) ≡ Ok (cursor_at proof instance next)) × Standing ctx.hyps proof.certs (rs ++ more) next → ObligesAll ctx (f ∷ fs) proof instance used more
    after others (middle, first, standing) = rest_of middle first (others middle standing)

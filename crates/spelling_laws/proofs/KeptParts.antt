-- What several statements have is derived by its canonical words again.
use Rattle.std.proofs.Common.{◌≡◌, ℕ, zero, suc, ◌⊎◌, inl, inr, Some, List, [], ◌∷◌, ◌++◌, map, codes, refl, sym, ◌∙◌, ap, subst, append-nil, append_assoc}
use Rattle.chan_syntax.specs.declared.linear.Part.{Part}
use Rattle.chan_syntax.specs.declared.linear.Term.{Term}
use Rattle.chan_syntax.specs.declared.resources.Param.{Param}
use Rattle.chan_syntax.specs.declared.operands.Supply.{Supply}
use Rattle.chan_syntax.specs.declared.operands.Proof.{Proof}
use Rattle.chan_syntax.specs.declared.surface_tree.Start.{Start}
use Rattle.text_tokens.specs.Text.{Piece, Token}
use Rattle.grammar_laws.specs.Grammar as g
use Rattle.surface_spelling.specs.Layout.{mark, number as number_piece, space, behind_commas, listed as listed_pieces, in_parens, pair}
use Rattle.surface_spelling.specs.Operands as o
use Rattle.surface_spelling.specs.Blocks as s
use Rattle.surface_spelling.specs.Erased as e
use Rattle.surface_grammar.specs.declared.words.Word.TheVariants as w
use Rattle.surface_grammar.specs.declared.parts.Named.{Named}
use Rattle.surface_grammar.specs.declared.parts.Access.{Access}
use Rattle.surface_grammar.specs.declared.parts.Target.{Target}
use Rattle.surface_grammar.specs.declared.parts.Called.{Called}
use Rattle.surface_grammar.specs.declared.parts.Task.{Task}
use Rattle.surface_grammar.specs.declared.parts.Forked.{Forked}
use Rattle.surface_grammar.specs.declared.parts.Forked.TheVariants as f
use Rattle.surface_grammar.specs.declared.parts.Tail.{Tail}
use Rattle.surface_grammar.specs.declared.parts.Tail.TheVariants as t
use Rattle.surface_grammar.specs.declared.parts.Given.{Given}
use Rattle.surface_grammar.specs.declared.parts.Given.TheVariants as v
use Rattle.surface_grammar.specs.Words.{spelling}
use Rattle.surface_grammar.specs.Grammar.{ABlock, cover, word, ◌▷◌, name}
use Rattle.surface_grammar.specs.Terms.{part_of, prod, first_part, more_parts, term, number_part, number_term}
use Rattle.surface_grammar.specs.Operands.{proof}
use Rattle.surface_grammar.specs.Statements.{access, target, call, start, more_starts, starts, task_params, task, forked, tail, named_given, given_name, given_term, numbered_choice, given_target, given_end, given, given_to_pattern}
use Rattle.spelling_cuts.specs.Words.{words, AreTokens}
use Rattle.spelling_laws.proofs.WordTokens.{word_of}
use Rattle.spelling_laws.proofs.Kept.{words-append, tokens_back, Again, Levels, Has, Kept, Written, written_behind, kept_tagged, kept_seq, kept_two, kept_either, kept_call, kept_nest, kept_map, kept_behind, kept_before, kept_behind_seq, kept_behind_map, kept_commas, kept_listed, parens_words}
use Rattle.spelling_laws.proofs.KeptTerms.{named, digits, name_token, number_token, name_kept, arm_number_kept, term_kept, two_terms_kept, term_and_number_kept, bound_behind_kept, reference_kept}
use Rattle.spelling_laws.proofs.KeptResources.{shape_kept, param_kept}
use Rattle.spelling_laws.proofs.KeptOperands.{not_zero, not_one, route_of, route_kept, value_kept, given_values_kept}
use Rattle.spelling_laws.proofs.KeptProofs.{proof_kept}

-- ---- channels, calls and starts

abbrev pub access_of : Access → Access
access_of a = record { channel = named a.channel; route = route_of a.route; proof = e.proof a.proof }

abbrev pub access_words : Access → List Token
access_words a = words (s.access a.channel.name a.route.path a.proof)

pub access_kept : Kept access access_of access_words
unfolding access s.access
access_kept =
    kept_seq name_kept (kept_two route_kept proof_kept) (λ n p. refl) (λ n p. ap (λ (ts : List Token). name_token n.name ∷ ts) (words-append (o.path p.0.path) (o.proof p.1)))

abbrev pub target_of : Target → Target
target_of t = record { channel = named t.channel; proto = e.reference t.proto; route = route_of t.route }

abbrev pub target_words : Target → List Token
target_words t = words (s.target t.channel.name t.proto t.route.path)

pub target_kept : Kept target target_of target_words
unfolding target s.target spelling
target_kept =
    kept_seq name_kept (kept_two (kept_behind w.Colon {spell = λ r. word_of w.Colon ∷ words (o.reference r)} reference_kept (λ r. refl)) route_kept) (λ n p. refl)
    (λ n p. ap (λ (ts : List Token). name_token n.name ∷ word_of w.Colon ∷ ts) (words-append (o.reference p.0) (o.path p.1.path)))

abbrev pub called_of : Called → Called
called_of c = record { func = named c.func; values = map e.value c.values; proof = e.proof c.proof }

abbrev pub called_words : Called → List Token
called_words c = words (s.call c.func.name c.values c.proof)

pub call_kept : Kept call called_of called_words
unfolding call s.call
call_kept =
    kept_seq name_kept (kept_two given_values_kept proof_kept) (λ n p. refl) (λ n p. ap (λ (ts : List Token). name_token n.name ∷ ts) (words-append (o.values p.0) (o.proof p.1)))

start_kept : Kept start e.start (λ x. words (s.start x))
unfolding start s.start spelling
start_kept =
    kept_seq name_kept
    (kept_two (kept_behind w.Colon {spell = λ x. word_of w.Colon ∷ words (o.shape x)} shape_kept (λ x. refl)) (kept_behind w.Equals {spell = λ y. word_of w.Equals ∷ words (o.value y)} value_kept (λ y. refl)))
    (λ n p. refl)
    (λ n p. ap (λ (ts : List Token). name_token n.name ∷ word_of w.Colon ∷ ts) (words-append (o.shape p.0) (space ∷ mark (codes "=") ∷ space ∷ o.value p.1)))

more_starts_kept : Kept more_starts (map e.start) (λ xs. words (behind_commas s.start xs))
unfolding more_starts
more_starts_kept = kept_commas s.start start_kept

pub starts_kept : Kept starts (map e.start) (λ xs. words (listed_pieces s.start xs))
unfolding starts
starts_kept = kept_listed s.start start_kept

-- ---- tasks

abbrev first_and_starts : Param × List Start → List Piece
first_and_starts p = in_parens (o.param p.0 ++ behind_commas s.start p.1)

task_params_kept : Kept task_params (λ (p : Param × List Start). (e.param p.0, map e.start p.1)) (λ p. words (first_and_starts p))
unfolding task_params
task_params_kept =
    kept_nest w.LeftParen
    (kept_two param_kept (kept_before w.RightParen {spell = λ xs. words (behind_commas s.start xs) ++ word_of w.RightParen ∷ []} more_starts_kept (λ xs. refl)))
    (λ p.
    parens_words (o.param p.0 ++ behind_commas s.start p.1)
    ∙ ap (λ (ts : List Token). word_of w.LeftParen ∷ ts ++ word_of w.RightParen ∷ []) (words-append (o.param p.0) (behind_commas s.start p.1))
    ∙ ap (λ (ts : List Token). word_of w.LeftParen ∷ ts) (append_assoc (words (o.param p.0)) (words (behind_commas s.start p.1)) (word_of w.RightParen ∷ [])))

abbrev pub task_of : Task → Task
task_of t =
    record { func = named t.func; bound = e.bound t.bound; param = e.param t.param; starts = map e.start t.starts; proof = e.proof t.proof; block = e.block t.block }

abbrev pub task_words : ℕ → Task → List Token
task_words d t = words (s.task_head t.func.name t.bound t.param t.starts t.proof) ++ words (s.block d t.block)

pub one_block_kept : (d : ℕ) → Kept (g.call ABlock (λ b. b)) e.block (λ b. words (s.block d b))
one_block_kept d = kept_call d (λ b. refl) (λ b. refl)

-- four parts, of which the last is followed by a space
four_parts : (a b c : List Piece) (ts : List Token) → words (a ++ b ++ c ++ space ∷ []) ++ ts ≡ words a ++ (words b ++ (words c ++ ts))
four_parts a b c ts = simp (words-append, append_assoc, append-nil)

task_kept : (d : ℕ) → Kept task task_of (task_words d)
unfolding task s.task_head s.name_and_binds
task_kept d =
    kept_seq name_kept (kept_two bound_behind_kept (kept_two task_params_kept (kept_two proof_kept (one_block_kept d)))) (λ n p. refl)
    (λ n p. ap (λ (ts : List Token). name_token n.name ∷ ts) (four_parts (o.binds_behind p.0.names p.0.limits) (first_and_starts p.1.0) (o.proof p.1.1.0) (words (s.block d p.1.1.1))))

abbrev pub forked_of : Forked → Forked
forked_of (f.Call c) = f.Call (called_of c)
forked_of (f.Block t) = f.Block (task_of t)

abbrev pub forked_words : ℕ → Forked → List Token
forked_words d (f.Call c) = called_words c
forked_words d (f.Block t) = word_of w.Do ∷ task_words d t

forked_kept : (d : ℕ) → Kept forked forked_of (forked_words d)
unfolding forked
forked_kept d = kept_either (kept_behind_map w.Do (task_kept d) (λ t. refl) (λ t. refl)) (kept_map call_kept (λ c. refl) (λ c. refl))

-- ---- what a name is given

abbrev pub given_of : Given → Given
given_of (v.Term x) = v.Term (e.term x)
given_of (v.Mul a b) = v.Mul (e.term a) (e.term b)
given_of (v.Div a d) = v.Div (e.term a) (digits d)
given_of (v.Rem a d) = v.Rem (e.term a) (digits d)
given_of (v.Call c) = v.Call (called_of c)
given_of (v.Fork r c) = v.Fork (e.reference r) (forked_of c)
given_of (v.Recv1 a) = v.Recv1 (access_of a)
given_of (v.Send a x q) = v.Send (target_of a) (e.value x) (e.proof q)
given_of (v.Choose i a q) = v.Choose i (target_of a) (e.proof q)

abbrev pub given_words : ℕ → Given → List Token
given_words d (v.Term x) = words (o.term x)
given_words d (v.Mul a b) = word_of w.Mul ∷ words (pair (o.term a) (o.term b))
given_words d (v.Div a k) = word_of w.Div ∷ words (pair (o.term a) (number_piece k.value ∷ []))
given_words d (v.Rem a k) = word_of w.Rem ∷ words (pair (o.term a) (number_piece k.value ∷ []))
given_words d (v.Call c) = called_words c
given_words d (v.Fork r c) = word_of w.Fork ∷ words (o.reference r) ++ forked_words d c
given_words d (v.Recv1 a) = word_of w.Recv1 ∷ access_words a
given_words d (v.Send a x q) = word_of w.Send ∷ target_words a ++ (words (o.value x) ++ words (o.proof q))
given_words d (v.Choose i a q) = words (s.chosen i) ++ (target_words a ++ words (o.proof q))

module _ (l : Levels) where
  -- what begins with a name is a call or a term
  abbrev CallOrTerm : Given → List Token → Type 0
  CallOrTerm y ts = ((c : Called) × (y ≡ v.Call c) × Has l call c ts) ⊎ ((x : Term) × (y ≡ v.Term x) × Has l term x ts)

  no_more : (ts u v : List Token) → ts ≡ u ++ v → v ≡ [] → ts ≡ u
  no_more ts u v split none = split ∙ ap (λ (x : List Token). u ++ x) none ∙ append-nil u

  named_first : (n : Named) (u : List Token) → Has l name n u → Has l first_part (part_of 1 (Some n)) u
  unfolding first_part prod
  named_first n u d = inr (inr (n, tt, u, [], refl, sym (append-nil u), d, (refl, refl)))

  by_tail : (y : Given) (n : Named) (x : Tail) (ts u v : List Token) → y ≡ named_given n x (cover ts) → ts ≡ u ++ v → Has l name n u → Has l tail x v → CallOrTerm y ts
  unfolding tail call term
  by_tail y n x ts u v is split first (inl d) =
      inl (record { func = n; values = d.0; proof = d.1 }, is ∙ ap (λ (x : Tail). named_given n x (cover ts)) d.4, (n, (d.0, d.1), u, v, refl, split, first, (d.0, d.1, d.2, d.3, refl, d.5, d.6, d.7)))
  by_tail y n x ts u v is split first (inr d) =
      let short = no_more v d.2 d.3 d.5 d.7.1 in
      inr (
        record { parts = part_of 1 (Some n) ∷ d.0; span = cover ts },
        is ∙ ap (λ (x : Tail). named_given n x (cover ts)) d.4,
        (part_of 1 (Some n) ∷ d.0, refl, (part_of 1 (Some n), d.0, u, d.2, refl, split ∙ ap (λ (v : List Token). u ++ v) short, named_first n u first, d.6)),
      )

  number_first : (p : Part) (u : List Token) → Has l number_part p u → Has l first_part p u
  unfolding number_part first_part prod
  number_first p u (inl d) = inl d
  number_first p u (inr d) = inr (inl d)

  as_term : (x : Term) (u : List Token) → Has l number_term x u → Has l term x u
  unfolding number_term term
  as_term x u d = let q = d.2 in (d.0, d.1, (q.0, q.1, q.2, q.3, q.4, q.5, number_first q.0 q.2 q.6, q.7))

  by_given : (y : Given) (ts : List Token) → Has l given_term y ts → CallOrTerm y ts
  unfolding given_term given_name
  by_given y ts (inl d) =
      let q = d.2 in by_tail y q.0 q.1 ts q.2 q.3 (d.1 ∙ ap (λ (p : Named × Tail). named_given p.0 p.1 (cover ts)) q.4) q.5 q.6 q.7
  by_given y ts (inr d) =
      let short = no_more ts d.2 d.3 d.5 d.7.1 in
      inr (d.0, d.4, subst (Has l term d.0) (sym short) (as_term d.0 d.2 d.6))

  of_call : (c : Called) (us : List Token) → Has l call c us → Has l given_term (v.Call c) us
  unfolding given_term given_name tail call
  of_call c us d =
      let q = d.7 in
      inl (
        (d.0, t.Values q.0 q.1),
        ap v.Call (d.4 ∙ ap (λ (p : List Supply × Proof). record { func = d.0; values = p.0; proof = p.1 }) q.4),
        (d.0, t.Values q.0 q.1, d.2, d.3, refl, d.5, d.6, inl (q.0, q.1, q.2, q.3, refl, q.5, q.6, q.7)),
      )

  by_part : (x : Term) (p : Part) (more : List Part) (us u k : List Token) → x ≡ record { parts = p ∷ more; span = cover us } → us ≡ u ++ k → Has l first_part p u → Has l more_parts more k
      → Has l given_term (v.Term x) us
  unfolding given_term given_name tail number_term number_part first_part prod
  by_part x p more us u k is split (inl d) rest =
      inr (x, tt, us, [], refl, sym (append-nil us), (p ∷ more, is, (p, more, u, k, refl, split, inl d, rest)), (refl, refl))
  by_part x p more us u k is split (inr (inl d)) rest =
      inr (x, tt, us, [], refl, sym (append-nil us), (p ∷ more, is, (p, more, u, k, refl, split, inr d, rest)), (refl, refl))
  by_part x p more us u k is split (inr (inr d)) rest =
      let short = no_more u d.2 d.3 d.5 d.7.1 in
      inl (
        (d.0, t.Parts more),
        ap v.Term (is ∙ ap (λ (p : Part). record { parts = p ∷ more; span = cover us }) d.4),
        (d.0, t.Parts more, d.2, k, refl, split ∙ ap (λ (u : List Token). u ++ k) short, d.6, inr (more, tt, k, [], refl, sym (append-nil k), rest, (refl, refl))),
      )

  of_term : (x : Term) (us : List Token) → Has l term x us → Has l given_term (v.Term x) us
  unfolding term
  of_term x us d =
      let q = d.2 in
      by_part x q.0 q.1 us q.2 q.3 (d.1 ∙ ap (λ (ps : List Part). record { parts = ps; span = cover us }) q.4) q.5 q.6 q.7

  given_again : (d : ℕ) (y : Given) (ts : List Token) → AreTokens ts → CallOrTerm y ts → Again (Has l given_term) given_of y (given_words d y)
  given_again d y ts proper (inl c) =
      let p = call_kept.again l c.0 ts proper c.2 in
      subst (λ (y : Given). Again (Has l given_term) given_of y (given_words d y)) (sym c.1)
      (p.0, λ us s. let i = p.1 us s in (v.Call i.0, ap v.Call i.1, of_call i.0 us i.2))
  given_again d y ts proper (inr x) =
      let p = term_kept.again l x.0 ts proper x.2 in
      subst (λ (y : Given). Again (Has l given_term) given_of y (given_words d y)) (sym x.1)
      (p.0, λ us s. let i = p.1 us s in (v.Term i.0, ap v.Term i.1, of_term i.0 us i.2))

given_term_kept : (d : ℕ) → Kept given_term given_of (given_words d)
given_term_kept d = record { again = λ l y ts proper has. given_again l d y ts proper (by_given l y ts has) }

-- the words of a choice behind `#`, for each number
abbrev choice_words : Given → List Token
choice_words (v.Choose i a q) = number_token i ∷ target_words a ++ words (o.proof q)
choice_words _ = []

hash_choice : (d i : ℕ) (a : Target) (q : Proof) → given_words d (v.Choose (suc (suc i)) a q) ≡ word_of w.Hash ∷ choice_words (v.Choose (suc (suc i)) a q)
unfolding s.chosen spelling
hash_choice d i a q = rw (not_zero i, not_one i) refl

numbered_choice_kept : Kept numbered_choice given_of choice_words
unfolding numbered_choice
numbered_choice_kept = kept_seq arm_number_kept (kept_two target_kept proof_kept) (λ i p. refl) (λ i p. refl)

module _ (l : Levels) where
  -- by `left` or `right`, or by a number that is neither 0 nor 1
  abbrev IsChosen : ℕ → Given → Type 0
  IsChosen d y =
      Written l (word w.Left ▷ g.seq (v.Choose 0) target proof) y
      ⊎ (Written l (word w.Right ▷ g.seq (v.Choose 1) target proof) y ⊎ (given_words d y ≡ word_of w.Hash ∷ choice_words y))

  by_choice : (d i : ℕ) (y : Given) (a : Target) (q : Proof) → y ≡ v.Choose i a q → Written l (g.seq (v.Choose i) target proof) y → IsChosen d y
  by_choice d zero y a q is at = inl (written_behind l w.Left (g.seq (v.Choose 0) target proof) y at)
  by_choice d (suc zero) y a q is at = inr (inl (written_behind l w.Right (g.seq (v.Choose 1) target proof) y at))
  by_choice d (suc (suc i)) y a q is at = inr (inr (subst (λ (y : Given). given_words d y ≡ word_of w.Hash ∷ choice_words y) (sym is) (hash_choice d i a q)))

  chosen : (d : ℕ) (y : Given) (ts : List Token) → AreTokens ts → Has l (word w.Hash ▷ numbered_choice) y ts → IsChosen d y
  unfolding numbered_choice
  chosen d y ts proper has =
      let n = has.7 in
      let p = n.7 in
      let is = has.4 ∙ n.4 ∙ ap (λ (p : Target × Proof). v.Choose n.0 p.0 p.1) p.4 in
      let back = tokens_back n.2 n.3 (subst AreTokens n.5 (tokens_back has.2 has.3 (subst AreTokens has.5 proper))) in
      by_choice d n.0 y p.0 p.1 is (n.3, back, (p.0, p.1, p.2, p.3, is, p.5, p.6, p.7))

given_target_kept : (d : ℕ) → Kept given_target given_of (given_words d)
unfolding given_target s.chosen spelling
given_target_kept d =
    kept_either (kept_behind_seq w.Send target_kept (kept_two value_kept proof_kept) (λ a p. refl) (λ a p. refl))
    (kept_tagged (kept_behind_seq w.Left target_kept proof_kept (λ a q. refl) (λ a q. refl)) (kept_behind_seq w.Right target_kept proof_kept (λ a q. refl) (λ a q. refl))
    (kept_behind w.Hash {spell = λ x. word_of w.Hash ∷ choice_words x} numbered_choice_kept (λ x. refl)) (given_term_kept d) (λ l. chosen l d))

given_end_kept : (d : ℕ) → Kept given_end given_of (given_words d)
unfolding given_end
given_end_kept d =
    kept_either (kept_behind_seq w.Fork reference_kept (forked_kept d) (λ r c. refl) (λ r c. refl))
    (kept_either (kept_behind_map w.Recv1 access_kept (λ a. refl) (λ a. refl)) (given_target_kept d))

pub given_kept : (d : ℕ) → Kept given given_of (given_words d)
unfolding given
given_kept d =
    kept_either (kept_behind_map w.Mul two_terms_kept (λ p. refl) (λ p. refl))
    (kept_either (kept_behind_map w.Div term_and_number_kept (λ p. refl) (λ p. refl))
    (kept_either (kept_behind_map w.Rem term_and_number_kept (λ p. refl) (λ p. refl)) (given_end_kept d)))

pub given_to_pattern_kept : (d : ℕ) → Kept given_to_pattern given_of (given_words d)
unfolding given_to_pattern
given_to_pattern_kept d = kept_either (kept_behind_map w.Recv1 access_kept (λ a. refl) (λ a. refl)) (kept_map call_kept (λ c. refl) (λ c. refl))
